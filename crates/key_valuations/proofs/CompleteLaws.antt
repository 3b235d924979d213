-- Lists with marks, and what completes them.
use Rattle.std.proofs.Common.{List, [], ◌∷◌, ◌++◌, ℕ, Option, Some, All, Contains, slice_get, slice_index, get_or, take, length, ◌≡◌, ◌<◌, ◌≤◌, ◌+◌, ◌⊎◌, inl, inr, sym, ◌∙◌, ap, subst, arith, length-append}
use Rattle.std.proofs.lemmas.List.{get_or-take, length-take-le, take_all, take-take, take-append-le, take_more}
use Rattle.std.proofs.lemmas.List.Elements.{Contains-push_cases}
use Rattle.chase_laws.specs.declared.pattern.Slot.{Slot}
use Rattle.chase_laws.specs.declared.pattern.Edge.{Edge}
use Rattle.chase_laws.specs.Shape.{Shape}
use Rattle.chase_laws.specs.Graph.{NumberedGraph}
use Rattle.chase_laws.specs.Valuation.{IsValuation, FitsSlot}
use Rattle.key_plan.specs.Route.{IsBlock}
use Rattle.key_valuations.specs.Part.{EdgeHolds}
use Rattle.key_valuations.specs.Marks.{IsMarked, AreMarked, IsMarkedPart, IsCompletedBy, mark_at}
use Rattle.key_valuations.proofs.PartLaws.{part_front}
use Rattle.key_valuations.proofs.BlockLaws.{block_part}

-- the next front
front_next : (v p : List ℕ) → length p < length v → take (length p) v ≡ p → take (length p + 1) v ≡ p ++ slice_index v (length p) ∷ []
front_next v p h e = take_more v (length p) 0 h ∙ ap (λ q. q ++ slice_index v (length p) ∷ []) e

-- one element more
pub contains_more : {X : Type 0} (xs : List X) (i : ℕ) (x d : X) → i < length xs → Contains (take (i + 1) xs) x → Contains (take i xs) x ⊎ (get_or xs i d ≡ x)
contains_more xs i x d h c = Contains-push_cases (take i xs) (get_or xs i d) x (rw (take_more xs i d h) at c)

-- what a valuation that completes a list has behind it
pub record Next (G : NumberedGraph) (Q : Shape) (marks : List (Option ℕ)) (slot : Slot) (block : List Edge) (p : List ℕ) (m : ℕ) : Type 0 where
  pub part : IsMarkedPart G Q marks (p ++ m ∷ [])
  pub edges : All (EdgeHolds G (p ++ m ∷ [])) block
  pub fits : FitsSlot G slot m
  pub marked : IsMarked G slot (mark_at marks (length p)) m

module _ (G : NumberedGraph) (Q : Shape) (marks : List (Option ℕ)) where
  -- the front of a valuation with the marks
  pub marked_front : (v : List ℕ) (k : ℕ) → k ≤ length Q.slots → IsValuation G Q v → AreMarked G Q marks v → IsMarkedPart G Q marks (take k v)
  marked_front v k h valuation marked =
      let long : length (take k v) ≡ k = length-take-le k v (omega (arith, valuation.one_each)) in
      record {
        part = part_front G Q v k h valuation;
        marked = λ s slot in_s at. subst (IsMarked G slot (mark_at marks s)) (sym (get_or-take k v s 0 (omega arith))) (marked s slot (omega (arith, valuation.one_each)) at);
      }

  -- what completes a list completes it with its next number
  pub completes_next : (p v : List ℕ) → length p < length Q.slots → IsCompletedBy G Q marks p v →
      IsMarkedPart G Q marks (p ++ slice_index v (length p) ∷ []) × IsCompletedBy G Q marks (p ++ slice_index v (length p) ∷ []) v
  completes_next p v short c =
      let longer : take (length p + 1) v ≡ p ++ slice_index v (length p) ∷ [] = front_next v p (omega (arith, c.valuation.one_each)) c.begins in
      let long : length (p ++ slice_index v (length p) ∷ []) ≡ length p + 1 = length-append p (slice_index v (length p) ∷ []) in (
        subst (IsMarkedPart G Q marks) longer (marked_front v (length p + 1) (omega arith) c.valuation c.marked),
        record { valuation = c.valuation; marked = c.marked; begins = ap (λ n. take n v) long ∙ longer },
      )

  -- and what completes the longer list completes the shorter one
  pub completes_before : (p v : List ℕ) (m : ℕ) → IsCompletedBy G Q marks (p ++ m ∷ []) v → IsCompletedBy G Q marks p v
  completes_before p v m c = record {
    valuation = c.valuation;
    marked = c.marked;
    begins = sym (take-take (length p) (length (p ++ m ∷ [])) v (omega (arith, length-append p (m ∷ [])))) ∙ ap (take (length p)) c.begins ∙ take-append-le (length p) p (m ∷ []) (omega arith) ∙ take_all (length p) p (omega arith);
  }

  pub next : (slot : Slot) (block : List Edge) (p v : List ℕ) → length p < length Q.slots → slice_get Q.slots (length p) ≡ Some slot → IsBlock Q (length p) block → IsCompletedBy G Q marks p v →
      Next G Q marks slot block p (slice_index v (length p))
  next slot block p v short at is c =
      let both = completes_next p v short c in
      record {
        part = both.0;
        edges = block_part G Q (p ++ slice_index v (length p) ∷ []) (length p) block is both.0.part.edges;
        fits = c.valuation.kinds (length p) slot at;
        marked = c.marked (length p) slot (omega (arith, c.valuation.one_each)) at;
      }

  -- one number more was tried
  pub none_more : (p : List ℕ) (s i : ℕ) (xs : List ℕ) → s ≡ length p → length p < length Q.slots → i < length xs →
      (IsMarkedPart G Q marks (p ++ get_or xs i 0 ∷ []) → (v : List ℕ) → IsCompletedBy G Q marks (p ++ get_or xs i 0 ∷ []) v → ⊥) →
      ((v : List ℕ) → IsCompletedBy G Q marks p v → Contains (take i xs) (get_or v s 0) → ⊥) →
      (v : List ℕ) → IsCompletedBy G Q marks p v → Contains (take (i + 1) xs) (get_or v s 0) → ⊥
  none_more p s i xs here short in_i next before v c at = elim (contains_more xs i (get_or v s 0) 0 in_i at) [
    | inl old ↦ before v c old
    | inr new ↦
        (let both = completes_next p v short c in
        let e : slice_index v (length p) ≡ get_or xs i 0 = ap (slice_index v) (sym here) ∙ sym new in
        next (subst (λ (x : ℕ). IsMarkedPart G Q marks (p ++ x ∷ [])) e both.0) v (subst (λ (x : ℕ). IsCompletedBy G Q marks (p ++ x ∷ []) v) e both.1))
  ]
