-- What is near, and the owners.
use Rattle.std.proofs.Common.{List, [], ◌∷◌, ℕ, length, get_or, All, Contains, ◌≡◌, ◌<◌, ◌+◌, ◌^◌, ◌↔◌, inl, inr, ap, sym, ◌∙◌, subst, arith}
use Rattle.std.specs.List.Sorted.{IsStrictlyIncreasing}
use Rattle.std.proofs.lemmas.Bool.{cases_lt}
use Rattle.std.proofs.lemmas.List.{get_or_past}
use Rattle.std.proofs.lemmas.List.Elements.{Contains-get_or, All-contains, All-from_get_or}
use Rattle.chase_laws.specs.Shape.{Shape}
use Rattle.chase_laws.specs.Graph.{NumberedGraph, HasRow, IsGraph, IsEntity}
use Rattle.chase_laws.specs.Near.{IsNear}
use Rattle.chase_laws.proofs.CallerLemmas.{near_entity}
use Rattle.list_pool.specs.Pool.{list_at}
use Rattle.near_lists.specs.Owners.{owners_of}
use Rattle.near_lists.specs.Neighbourhoods.{AreNearOfFirst, AreNearNames, AreNeighbourhoods}
use Rattle.near_lists.proofs.Owners.{owners_rise, Contains_all_owners}

-- the numbers of a row are names
row_named : (G : NumberedGraph) (s p o : ℕ) → IsGraph G → HasRow G s p o → (s < length G.literal) × (p < length G.literal) × (o < length G.literal)
row_named G s p o named h =
    let row : All (λ n. n < length G.literal) (s ∷ p ∷ o ∷ []) = All-contains (λ (r : List ℕ). All (λ n. n < length G.literal) r) G.rows (s ∷ p ∷ o ∷ []) named h in
    (row 0 0 (omega arith), row 1 0 (omega arith), row 2 0 (omega arith))

-- an entity is a name
entity_named : (G : NumberedGraph) (n : ℕ) → IsGraph G → IsEntity G n → n < length G.literal
entity_named G n named e =
    let r = row_named G e.1.0 e.1.1 e.1.2 named e.1.3 in
    elim e.1.4 [ inl same ↦ subst (λ m. m < length G.literal) (sym same) r.0 | inr same ↦ subst (λ m. m < length G.literal) (sym same) r.2 ]

-- what is near to something is a name
pub near_is_named : (G : NumberedGraph) (K : List Shape) (e n : ℕ) → IsGraph G → IsNear G K e n → n < length G.literal
near_is_named G K e n named h = entity_named G n named (near_entity G K e n h)

-- a place behind the lists has an empty list
pub listed : (lists : List (List ℕ)) (m n : ℕ) → Contains (list_at lists m) n → m < length lists
listed lists m n h = elim (cases_lt m (length lists)) [
  | inl lt ↦ lt
  | inr ge ↦ absurd (let j : h.0 < length (list_at lists m) = h.1 in let none : length (list_at lists m) ≡ 0 = ap (λ (xs : List ℕ). length xs) (get_or_past lists m [] ge) in omega arith)
]

-- what stands in the lists is named where each list's numbers are
all_listed : (lists : List (List ℕ)) (P : ℕ → Type 0) → ((m n : ℕ) → Contains (list_at lists m) n → P n) → All (λ xs. All P xs) lists
all_listed lists P each = All-from_get_or (λ (xs : List ℕ). All P xs) lists [] (λ m h. All-from_get_or P (list_at lists m) 0 (λ k j. each m (get_or (list_at lists m) k 0) (Contains-get_or (list_at lists m) k 0 j)))

-- what is near is a name
pub near_named : (G : NumberedGraph) (K : List Shape) (near : List (List ℕ)) → IsGraph G → ((e : ℕ) → e < length near → (n : ℕ) → Contains (list_at near e) n ↔ IsNear G K e n) → All (λ xs. All (λ n. n < length G.literal) xs) near
near_named G K near named exact = all_listed near (λ n. n < length G.literal) (λ e n c. near_is_named G K e n named ((exact e (listed near e n c) n).0 c))

-- the lists of all names are those of the first so many
pub all_names : (G : NumberedGraph) (K : List Shape) (near : List (List ℕ)) → length near ≡ length G.literal → AreNearOfFirst G K near → AreNearNames G K near
all_names G K near one_each exact = record {
  one_each = one_each;
  exact = λ e n h. exact e n (omega (arith, h, one_each));
}

-- near lists and their owners
pub neighbourhoods : (near owners : List (List ℕ)) (names : ℕ) → names < 2 ^ 32 → length near ≡ names → length owners ≡ names → All IsStrictlyIncreasing near → All (λ xs. All (λ n. n < names) xs) near →
    ((n : ℕ) → n < names → list_at owners n ≡ owners_of near n) → AreNeighbourhoods near owners
neighbourhoods near owners names few one_each as_many ascending named turned = record {
  as_many = as_many ∙ sym one_each;
  few = rw one_each few;
  named = subst (λ k. All (λ xs. All (λ m. m < k) xs) near) (sym one_each) named;
  ascending = ascending;
  owners_ascending = All-from_get_or IsStrictlyIncreasing owners [] (λ n h. rw (turned n (omega arith)) (owners_rise near n (length near) ascending (omega arith)));
  turned = λ n e h. rw (turned n (omega arith)) (Contains_all_owners near n e);
}

-- the owners of a name are the names whose list has it
pub owners_exact : (near owners near' : List (List ℕ)) (found : List ℕ) (n e : ℕ) → AreNeighbourhoods near owners → near ≡ near' → found ≡ list_at owners n → n < length near' →
    Contains found e ↔ ((e < length near') × Contains (list_at near' e) n)
owners_exact near owners near' found n e h same is in_n =
    let long : length near ≡ length near' = ap (λ (ls : List (List ℕ)). length ls) same in
    let turned = h.turned n e (omega arith) in (
      (λ c. let k : Contains (list_at near' e) n = subst (λ (ls : List (List ℕ)). Contains (list_at ls e) n) same (turned.0 (subst (λ (xs : List ℕ). Contains xs e) is c)) in (listed near' e n k, k)),
      (λ k. subst (λ (xs : List ℕ). Contains xs e) (sym is) (turned.1 (subst (λ (ls : List (List ℕ)). Contains (list_at ls e) n) (sym same) k.1))),
    )
