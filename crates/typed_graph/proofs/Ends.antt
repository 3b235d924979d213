-- Numbers found, blocks that are not empty, and the ends of rows.
use Rattle.std.proofs.Common.{List, ℕ, Result, Ok, Err, IsTrue, ◌≡◌, ◌<◌, ◌≤◌, ◌+◌, ◌↔◌, ◌⊎◌, Contains, MatchResult, length, get_or, ltb, slice_index, inl, inr, refl, sym, ◌∙◌, subst, arith}
use Rattle.std.specs.Result.{is_ok}
use Rattle.std.specs.Ordering.{nat_cmp}
use Rattle.std.specs.List.Sorted.{IsStrictlyIncreasing, IsBinarySearchResult}
use Rattle.std.proofs.lemmas.Bool.{cases_lt, cases_eq, ltb-true, lt-ltb}
use Rattle.std.proofs.lemmas.List.{get_or_default}
use Rattle.std.proofs.lemmas.List.Kept.{AllPairs-from_increasing}
use Rattle.std.proofs.lemmas.List.Sorted.{searched}
use Rattle.chase_laws.specs.Graph.{NumberedGraph, HasRow}
use Rattle.typed_graph.specs.Table.{Table, TableHas}

pub found_exact : (xs : List ℕ) (x : ℕ) (r : Result ℕ ℕ) → IsStrictlyIncreasing xs → IsBinarySearchResult (λ y. nat_cmp y x) xs r → IsTrue (is_ok r) ↔ Contains xs x
found_exact xs x r rise says = by r (searched xs x r says (λ i j le in_j. elim (cases_eq i j) [ inl e ↦ subst (λ k. get_or xs i 0 ≤ get_or xs k 0) e (omega arith) | inr ne ↦ (let h = AllPairs-from_increasing xs rise i j 0 (omega arith) in_j in omega arith) ]))
  where
    by : (r : Result ℕ ℕ) → MatchResult r (λ i. (i < length xs) × (get_or xs i 0 ≡ x)) (λ i. (i ≤ length xs) × ((k : ℕ) → k < i → get_or xs k 0 < x) × ((k : ℕ) → i ≤ k → k < length xs → x < get_or xs k 0)) → IsTrue (is_ok r) ↔ Contains xs x
    by (Ok i) h = ((λ t. (i, h.0, get_or_default xs i x 0 h.0 ∙ h.1)), (λ t. refl))
    by (Err i) h = ((λ t. absurd (cc)), (λ c. absurd (let e : get_or xs c.0 0 ≡ x = get_or_default xs c.0 0 x c.1 ∙ c.2 in elim (cases_lt c.0 i) [ inl lt ↦ (let q = h.1 c.0 lt in omega arith) | inr le ↦ (let q = h.2 c.0 le c.1 in omega arith) ])))

-- a block that is not empty has a row
pub begins_exact : (T : Table) (n : ℕ) → n + 1 < length T.starts → IsTrue (ltb (slice_index T.starts n) (slice_index T.starts (n + 1))) ↔ ((p c : ℕ) × TableHas T n p c)
begins_exact T n named = (
  (λ t. (slice_index T.middles (slice_index T.starts n), slice_index T.lasts (slice_index T.starts n), record { place = slice_index T.starts n; named = named; from = omega arith; to = ltb-true _ _ t; middle = refl; last = refl })),
  (λ s. lt-ltb _ _ (let x = s.2.from in let y = s.2.to in omega arith)),
)

-- a number that a row begins with, or one that a row ends with
pub first_end : (G : NumberedGraph) (T : Table) (n : ℕ) → ((p c : ℕ) → TableHas T n p c ↔ HasRow G n p c) → (p c : ℕ) × TableHas T n p c → (s p o : ℕ) × HasRow G s p o × ((n ≡ s) ⊎ (n ≡ o))
first_end G T n same x = (n, x.0, x.1, (same x.0 x.1).0 x.2, inl refl)

pub last_end : (G : NumberedGraph) (T : Table) (n : ℕ) → ((p c : ℕ) → TableHas T n p c ↔ HasRow G c p n) → (p c : ℕ) × TableHas T n p c → (s p o : ℕ) × HasRow G s p o × ((n ≡ s) ⊎ (n ≡ o))
last_end G T n same x = (x.1, x.0, n, (same x.0 x.1).0 x.2, inr refl)

pub no_end : (G : NumberedGraph) (T U : Table) (n : ℕ) → ((p c : ℕ) → TableHas T n p c ↔ HasRow G n p c) → ((p c : ℕ) → TableHas U n p c ↔ HasRow G c p n) → ((p c : ℕ) × TableHas T n p c → ⊥) →
    (s p o : ℕ) × HasRow G s p o × ((n ≡ s) ⊎ (n ≡ o)) → (p c : ℕ) × TableHas U n p c
no_end G T U n first last none x = elim x.4 [
  | inl e ↦ absurd (none (x.1, x.2, (first x.1 x.2).1 (subst (λ s. HasRow G s x.1 x.2) (sym e) x.3)))
  | inr e ↦ (x.1, x.0, (last x.1 x.0).1 (subst (λ o. HasRow G x.0 x.1 o) (sym e) x.3))
]
