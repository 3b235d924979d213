-- Lists that fit so far, and whole ones.
use Rattle.std.proofs.Common.{List, [], ◌∷◌, ◌++◌, ℕ, Some, All, Contains, slice_get, slice_index, get_or, take, length, ◌≡◌, ◌≢◌, ◌<◌, ◌≤◌, ◌+◌, ◌-◌, ◌⊎◌, inl, inr, refl, sym, ◌∙◌, ap, subst, arith, length-append}
use Rattle.std.proofs.lemmas.Bool.{cases_eq}
use Rattle.std.proofs.lemmas.List.{get_or-take, get_or_append_left, get_or_at, get_or_default, length-take-le, take_all, take-append-le, take_more}
use Rattle.std.proofs.lemmas.List.Elements.{Contains-push_cases}
use Rattle.std.proofs.lemmas.Option.{slice_get_within}
use Rattle.chase_laws.specs.declared.pattern.Slot.{Slot}
use Rattle.chase_laws.specs.declared.pattern.Edge.{Edge}
use Rattle.chase_laws.specs.Shape.{Shape}
use Rattle.chase_laws.specs.Graph.{NumberedGraph, HasRow}
use Rattle.chase_laws.specs.Valuation.{IsValuation, FitsSlot}
use Rattle.paired_search.specs.Part.{EdgeHolds, IsPart, IsReady}

pub some_same : {X : Type 0} (x y : X) → Some x ≡ Some y → x ≡ y
some_same x y e = cc

pub front_at : (p : List ℕ) (m k d : ℕ) → k < length p → get_or (p ++ m ∷ []) k d ≡ get_or p k d
front_at p m k d h = get_or_append_left p (m ∷ []) d k h

pub last_at : (p : List ℕ) (m d : ℕ) → get_or (p ++ m ∷ []) (length p) d ≡ m
last_at p m d = get_or_at p m [] d (length p) refl

-- a list without the number that was added last
pub popped : (x p : List ℕ) (m : ℕ) → x ≡ p ++ m ∷ [] → take (length x - 1) x ≡ p
popped x p m e =
    let long : length (p ++ m ∷ []) ≡ length p + 1 = length-append p (m ∷ []) in
    let few : length (p ++ m ∷ []) - 1 ≡ length p = omega arith in
    ap (λ (y : List ℕ). take (length y - 1) y) e ∙ ap (λ (k : ℕ). take k (p ++ m ∷ [])) few ∙ take-append-le (length p) p (m ∷ []) (omega arith) ∙ take_all (length p) p (omega arith)

pub part_push : (G : NumberedGraph) (Q : Shape) (slot : Slot) (p : List ℕ) (m : ℕ) → IsPart G Q p → slice_get Q.slots (length p) ≡ Some slot →
    ((k : ℕ) → k < length p → slice_index p k ≢ m) → FitsSlot G slot m → All (EdgeHolds G (p ++ m ∷ [])) Q.edges → IsPart G Q (p ++ m ∷ [])
part_push G Q slot p m part at new fits edges =
    let longer : length (p ++ m ∷ []) ≡ length p + 1 = length-append p (m ∷ []) in
    let within = slice_get_within Q.slots (length p) slot at in
    record {
      few = omega arith;
      edges = edges;
      different = λ i j d lt in_j. elim (cases_eq j (length p)) [
        | inl e ↦ (λ same. new i (omega arith) (sym (front_at p m i 0 (omega arith)) ∙ get_or_default (p ++ m ∷ []) i 0 d (omega arith) ∙ same ∙ ap (λ n. get_or (p ++ m ∷ []) n d) e ∙ last_at p m d))
        | inr other ↦ (λ same. part.different i j d lt (omega arith) (sym (front_at p m i d (omega arith)) ∙ same ∙ front_at p m j d (omega arith)))
      ];
      kinds = λ s slot' in_s at'. elim (cases_eq s (length p)) [
        | inl e ↦ (let q : Some slot ≡ Some slot' = sym at ∙ ap (slice_get Q.slots) (sym e) ∙ at' in
            subst (λ (t : Slot). FitsSlot G t (slice_index (p ++ m ∷ []) s)) (some_same slot slot' q) (subst (λ k. FitsSlot G slot (slice_index (p ++ m ∷ []) k)) (sym e) (subst (FitsSlot G slot) (sym (last_at p m 0)) fits)))
        | inr other ↦ subst (FitsSlot G slot') (sym (front_at p m s 0 (omega arith))) (part.kinds s slot' (omega arith) at')
      ];
    }

-- what a longer list that fits so far says of its last number
pub part_last : (G : NumberedGraph) (Q : Shape) (slot : Slot) (p : List ℕ) (m : ℕ) → IsPart G Q (p ++ m ∷ []) → slice_get Q.slots (length p) ≡ Some slot →
    ((k : ℕ) → k < length p → slice_index p k ≢ m) × FitsSlot G slot m
part_last G Q slot p m part at =
    let longer : length (p ++ m ∷ []) ≡ length p + 1 = length-append p (m ∷ []) in (
      (λ k h same. part.different k (length p) 0 h (omega arith) (front_at p m k 0 h ∙ same ∙ sym (last_at p m 0))),
      subst (FitsSlot G slot) (last_at p m 0) (part.kinds (length p) slot (omega arith) at),
    )

-- the front of a list that fits
pub part_front : (G : NumberedGraph) (Q : Shape) (v : List ℕ) (k : ℕ) → k ≤ length Q.slots → IsValuation G Q v → IsPart G Q (take k v)
part_front G Q v k h fits =
    let within : k ≤ length v = omega (arith, fits.one_each) in
    let long : length (take k v) ≡ k = length-take-le k v within in
    record {
      few = omega arith;
      different = λ i j d lt in_j same. fits.different i j d lt (omega arith) (sym (get_or-take k v i d (omega arith)) ∙ same ∙ get_or-take k v j d (omega arith));
      kinds = λ s slot in_s at. subst (FitsSlot G slot) (sym (get_or-take k v s 0 (omega arith))) (fits.kinds s slot at);
      edges = λ i e in_i from to. front_row (get_or Q.edges i e) (omega arith) (omega arith) (fits.edges i e in_i);
    }
  where
    front_row : (e : Edge) → e.from < k → e.to < k → HasRow G (slice_index v e.from) e.pred (slice_index v e.to) → HasRow G (slice_index (take k v) e.from) e.pred (slice_index (take k v) e.to)
    front_row e i j row = rw (get_or-take k v e.from 0 i, get_or-take k v e.to 0 j) row

-- a whole list that fits so far
pub part_whole : (G : NumberedGraph) (Q : Shape) (p : List ℕ) → IsReady Q → IsPart G Q p → length p ≡ length Q.slots → IsValuation G Q p
part_whole G Q p ok part e = record {
  one_each = e;
  different = part.different;
  kinds = λ s slot at. part.kinds s slot (let h = slice_get_within Q.slots s slot at in omega arith) at;
  edges = λ i d h. part.edges i d h (omega (arith, (ok.ends i d h).0)) (omega (arith, (ok.ends i d h).1));
}

-- the next front
pub front_next : (v p : List ℕ) → length p < length v → take (length p) v ≡ p → take (length p + 1) v ≡ p ++ slice_index v (length p) ∷ []
front_next v p h e = take_more v (length p) 0 h ∙ ap (λ q. q ++ slice_index v (length p) ∷ []) e

-- one element more
pub contains_more : (xs : List ℕ) (i x : ℕ) → i < length xs → Contains (take (i + 1) xs) x → Contains (take i xs) x ⊎ (get_or xs i 0 ≡ x)
contains_more xs i x h c = Contains-push_cases (take i xs) (get_or xs i 0) x (rw (take_more xs i 0 h) at c)
