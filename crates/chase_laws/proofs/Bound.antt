-- How many entries there can be.
use Rattle.std.proofs.Common.{List, [], ◌∷◌, ◌++◌, ℕ, zero, suc, true, false, Option, Some, None, All, map, slice_get, get_or, take, drop, length, ◌≡◌, ◌≢◌, ◌<◌, ◌≤◌, ◌-◌, ◌+◌, max, min, inl, inr, refl, sym, ◌∙◌, ap, subst, arith, eqb, ne_eqb, eqb-true}
use Rattle.std.specs.List.{range_with_len, list_any}
use Rattle.std.proofs.lemmas.Bool.{cases_lt}
use Rattle.std.proofs.lemmas.List.{take-take, take-append-drop, map-append, length-map}
use Rattle.std.proofs.lemmas.Map.Steps.{length-le_from_distinct_below}
use Rattle.std.proofs.lemmas.Map.Keys.{IsDistinct-from_apart}
use Rattle.std.proofs.lemmas.List.Folds.{Any-from_list_any}
use Rattle.chase_laws.specs.declared.entry.Entry.{Entry}
use Rattle.chase_laws.specs.Joined.{joined, links, Joined}
use Rattle.chase_laws.specs.Chase.{IsLean}
use Rattle.chase_laws.proofs.JoinedLaws.{joined_refl, joined_sym, joined_trans, Within, Within-append}
use Rattle.chase_laws.proofs.Derivations.{Within-links_push, joined_by_last}
use Rattle.chase_laws.proofs.Lists.{slice_get-within, All-at}
use Rattle.chase_laws.proofs.NearLaws.{least}

-- the least number that entries join with another
root_of : (H : List Entry) (k : ℕ) → (r : ℕ) × Joined H r k × ((m : ℕ) → Joined H m k → r ≤ m)
root_of H k = least (λ m. joined (links H) m k) k (joined_refl (links H) k)

-- two numbers that entries do not join have different roots
roots_differ : (H : List Entry) (a b : ℕ) → ¬ (Joined H a b) → (root_of H a).0 ≢ (root_of H b).0
roots_differ H a b apart e =
    apart (joined_trans (links H) a (root_of H a).0 b (joined_sym (links H) (root_of H a).0 a (root_of H a).1)
    (subst (λ r. Joined H r b) (sym e) (root_of H b).1))

-- the root that an entry takes away: the greater one
lost : (H : List Entry) (e : Entry) → ℕ
lost H e = max (root_of H e.a).0 (root_of H e.b).0

-- and the one that stays
kept : (H : List Entry) (e : Entry) → ℕ
kept H e = min (root_of H e.a).0 (root_of H e.b).0

lost_by : List Entry → Option Entry → ℕ
lost_by H None = 0
lost_by H (Some e) = lost H e

kept_below : (H : List Entry) (e : Entry) → ¬ (Joined H e.a e.b) → kept H e < lost H e
unfolding kept lost
kept_below H e apart = let d = roots_differ H e.a e.b apart in omega arith

-- from an entry on, the two roots are joined
roots_meet : (H J : List Entry) (e : Entry) → Within (links (H ++ e ∷ [])) (links J) → Joined J (kept H e) (lost H e)
unfolding kept lost
roots_meet H J e more = elim (cases_lt (root_of H e.a).0 (root_of H e.b).0) [
  | inl lt ↦ subst (λ m. Joined J m (max (root_of H e.a).0 (root_of H e.b).0)) (let x : (root_of H e.a).0 ≡ min (root_of H e.a).0 (root_of H e.b).0 = omega arith in x)
      (subst (Joined J (root_of H e.a).0) (let x : (root_of H e.b).0 ≡ max (root_of H e.a).0 (root_of H e.b).0 = omega arith in x) across)
  | inr ge ↦ subst (λ m. Joined J m (max (root_of H e.a).0 (root_of H e.b).0)) (let x : (root_of H e.b).0 ≡ min (root_of H e.a).0 (root_of H e.b).0 = omega arith in x)
      (subst (Joined J (root_of H e.b).0) (let x : (root_of H e.a).0 ≡ max (root_of H e.a).0 (root_of H e.b).0 = omega arith in x) (joined_sym (links J) (root_of H e.a).0 (root_of H e.b).0 across))
]
  where
    across : Joined J (root_of H e.a).0 (root_of H e.b).0
    across =
        more (root_of H e.a).0 (root_of H e.b).0
        (joined_trans (links (H ++ e ∷ [])) (root_of H e.a).0 e.a (root_of H e.b).0 (Within-links_push H e (root_of H e.a).0 e.a (root_of H e.a).1)
        (joined_trans (links (H ++ e ∷ [])) e.a e.b (root_of H e.b).0 (joined_by_last H e)
        (joined_sym (links (H ++ e ∷ [])) (root_of H e.b).0 e.b (Within-links_push H e (root_of H e.b).0 e.b (root_of H e.b).1))))

-- what is lost is a root until then: nothing smaller is joined with it
lost_least : (H : List Entry) (e : Entry) (k : ℕ) → Joined H k (lost H e) → lost H e ≤ k
unfolding lost
lost_least H e k h = elim (cases_lt (root_of H e.a).0 (root_of H e.b).0) [
  | inl lt ↦ (let x : max (root_of H e.a).0 (root_of H e.b).0 ≡ (root_of H e.b).0 = omega arith in
      rw x ((root_of H e.b).2 k (joined_trans (links H) k (root_of H e.b).0 e.b (subst (Joined H k) x h) (root_of H e.b).1)))
  | inr ge ↦ (let x : max (root_of H e.a).0 (root_of H e.b).0 ≡ (root_of H e.a).0 = omega arith in
      rw x ((root_of H e.a).2 k (joined_trans (links H) k (root_of H e.a).0 e.a (subst (Joined H k) x h) (root_of H e.a).1)))
]

lost_in_range : (H : List Entry) (e : Entry) (n : ℕ) → e.a < n → e.b < n → lost H e < n
unfolding lost
lost_in_range H e n ha hb =
    let p = (root_of H e.a).2 e.a (joined_refl (links H) e.a) in
    let q = (root_of H e.b).2 e.b (joined_refl (links H) e.b) in
    omega arith

some_entry : (x e : Entry) → Some x ≡ Some e → x ≡ e
some_entry x e h = cc

take_at_suc : (H : List Entry) (i : ℕ) (e : Entry) → slice_get H i ≡ Some e → take (suc i) H ≡ take i H ++ e ∷ []
take_at_suc [] i e h = absurd (cc)
take_at_suc (x ∷ xs) zero e h = ap (λ (y : Entry). y ∷ []) (some_entry x e h)
take_at_suc (x ∷ xs) (suc i) e h = ap (λ ys. x ∷ ys) (take_at_suc xs i e h)

-- a longer front joins as much
pub Within-take : (H : List Entry) (i j : ℕ) (e : Entry) → slice_get H i ≡ Some e → i < j → Within (links (take i H ++ e ∷ [])) (links (take j H))
Within-take H i j e at lt = subst (λ xs. Within (links (take i H ++ e ∷ [])) (links xs)) front (subst (λ ps. Within (links (take i H ++ e ∷ [])) ps) (sym (map-append (λ (f : Entry). (f.a, f.b)) (take i H ++ e ∷ []) rest)) (Within-append (links (take i H ++ e ∷ [])) (links rest)))
  where
    rest : List Entry
    rest = drop (suc i) (take j H)

    front : (take i H ++ e ∷ []) ++ rest ≡ take j H
    front = ap (λ xs. xs ++ rest) (sym (take_at_suc H i e at) ∙ sym (take-take (suc i) j H lt)) ∙ take-append-drop (suc i) (take j H)

lost_differ : (H : List Entry) → IsLean H → (i j : ℕ) (e f : Entry) → slice_get H i ≡ Some e → slice_get H j ≡ Some f → i < j → lost (take i H) e ≢ lost (take j H) f
lost_differ H lean i j e f at_i at_j lt same =
    let met = roots_meet (take i H) (take j H) e (Within-take H i j e at_i lt) in
    let le = lost_least (take j H) f (kept (take i H) e) (subst (Joined (take j H) (kept (take i H) e)) same met) in
    let below = kept_below (take i H) e (lean i e at_i) in
    absurd (omega arith)

length-range : (k n : ℕ) → length (range_with_len k n) ≡ n
length-range k zero = refl
length-range k (suc n) = ap suc (length-range (k + 1) n)

get_or-map_range : (f : ℕ → ℕ) (k n i d : ℕ) → i < n → get_or (map f (range_with_len k n)) i d ≡ f (k + i)
get_or-map_range f k zero i d h = absurd (omega arith)
get_or-map_range f k (suc n) zero d h = ap f (omega arith)
get_or-map_range f k (suc n) (suc i) d h = get_or-map_range f (k + 1) n i d (omega arith) ∙ ap f (omega arith)

module _ (H : List Entry) (lean : IsLean H) (n : ℕ) (positive : 0 < n) (ends : All (λ e. (e.a < n) × (e.b < n)) H) where
  -- what the entry at a place takes away, less one
  lost_at : ℕ → ℕ
  lost_at i = lost_by (take i H) (slice_get H i) - 1

  lost_all : List ℕ
  lost_all = map lost_at (range_with_len 0 (length H))

  lost_is : (i : ℕ) (e : Entry) → slice_get H i ≡ Some e → (lost_at i + 1 ≡ lost (take i H) e) × (lost_at i + 1 < n)
  unfolding lost_at lost_by
  lost_is i e at =
      let h : lost_by (take i H) (slice_get H i) ≡ lost (take i H) e = ap (lost_by (take i H)) at in
      let b = kept_below (take i H) e (lean i e at) in
      let ends_in = All-at (λ (x : Entry). (x.a < n) × (x.b < n)) H i e ends at in
      let r = lost_in_range (take i H) e n ends_in.0 ends_in.1 in
      (omega arith, omega arith)

  at_place : (i d : ℕ) → i < length H → get_or lost_all i d ≡ lost_at i
  unfolding lost_all
  at_place i d h = get_or-map_range lost_at 0 (length H) i d h ∙ ap lost_at (omega arith)

  long : length lost_all ≡ length H
  unfolding lost_all
  long = length-map (range_with_len 0 (length H)) lost_at ∙ length-range 0 (length H)

  apart_here : (i j d : ℕ) → i < j → j < length lost_all → eqb (get_or lost_all i d) (get_or lost_all j d) ≡ false
  apart_here i j d lt h =
      let in_i : i < length H = let l = long in omega arith in
      let in_j : j < length H = let l = long in omega arith in
      let e = slice_get-within H i in_i in
      let f = slice_get-within H j in_j in
      let p = (lost_is i e.0 e.1).0 in
      let q = (lost_is j f.0 f.1).0 in
      ne_eqb (get_or lost_all i d) (get_or lost_all j d) (λ same.
      let x : lost_at i ≡ lost_at j = sym (at_place i d in_i) ∙ same ∙ at_place j d in_j in
      lost_differ H lean i j e.0 f.0 e.1 f.1 lt (sym p ∙ ap (λ m. m + 1) x ∙ q))

  all_below : (q : ℕ) → list_any (eqb q) lost_all ≡ true → q < n - 1
  all_below q h =
      let a = Any-from_list_any (eqb q) lost_all h in
      let in_k : a.0 < length H = let l = long in omega (arith, a.2) in
      let e = slice_get-within H a.0 in_k in
      let r = (lost_is a.0 e.0 e.1).1 in
      let x : q ≡ lost_at a.0 = eqb-true q a.1 a.4 ∙ sym a.3 ∙ at_place a.0 a.1 in_k in
      omega arith

  -- fewer entries than names
  pub lean_bound : length H < n
  lean_bound =
      let b = length-le_from_distinct_below lost_all (n - 1) (IsDistinct-from_apart eqb lost_all apart_here) all_below in
      let l = long in omega arith
