-- Rows in order.
use Rattle.std.proofs.Common.{List, [], ◌∷◌, ℕ, ◌≡◌, ◌<◌, ◌↔◌, All, Contains, length, get_or, map, Ordering, slice_index, ◌⊎◌, inl, inr, refl, sym, ◌∙◌, ap, ap₂, arith}
use Rattle.std.proofs.lemmas.Bool.{cases_order, le-ltb, eq-eqb, ne_eqb, and_parts, eqb-true}
use Rattle.std.proofs.Common.{nat_eq, true}
use Rattle.std.proofs.lemmas.List.Elements.{All-contains, All-map, Contains-get_or}
use Rattle.std.specs.Ordering.{nat_cmp, ordering_then}
use Rattle.std.specs.declared.cmp.Ordering.TheVariants.{Less, Equal, Greater}
use Rattle.std.specs.Cmp.Lexicographic.{slice_cmp, pointwise}
use Rattle.std.specs.List.Sorted.{IsStrictlySortedBy}
use Rattle.std.proofs.lemmas.Map.Keys.{Less-from_sorted}
use Rattle.std.proofs.lemmas.List.{get_or-map, length-map, get_or_default}
use Rattle.typed_graph.specs.Blocks.{row_at, Before, RowsRise, turned}
use Rattle.typed_graph.proofs.Made.{three}

-- one column decides
step : (x y : ℕ) (rest : Ordering) → ordering_then (nat_cmp x y) rest ≡ Less → (x < y) ⊎ ((x ≡ y) × (rest ≡ Less))
step x y rest e = elim (cases_order x y) [
  | inl same ↦ inr (same, sym (ap (λ o. ordering_then o rest) (equal same)) ∙ e)
  | inr (inl lt) ↦ inl lt
  | inr (inr gt) ↦ absurd (let f : Greater ≡ Less = sym (ap (λ o. ordering_then o rest) (greater gt)) ∙ e in cc)
]
  where
    equal : x ≡ y → nat_cmp x y ≡ Equal
    equal h = rw (le-ltb x y (omega arith), eq-eqb x y h) refl

    greater : y < x → nat_cmp x y ≡ Greater
    greater h = rw (le-ltb x y (omega arith), ne_eqb x y (λ e. omega arith)) refl

before : (a b : List ℕ) → length a ≡ 3 → length b ≡ 3 → slice_cmp nat_cmp a b ≡ Less → Before a b
before a b long_a long_b e =
    let f : slice_cmp nat_cmp (slice_index a 0 ∷ slice_index a 1 ∷ slice_index a 2 ∷ []) (slice_index b 0 ∷ slice_index b 1 ∷ slice_index b 2 ∷ []) ≡ Less = ap₂ (slice_cmp nat_cmp) (sym (three a long_a)) (sym (three b long_b)) ∙ e in
    elim (step (slice_index a 0) (slice_index b 0) _ f) [
      | inl lt ↦ inl lt
      | inr x ↦
          (elim (step (slice_index a 1) (slice_index b 1) _ x.1) [
            | inl lt ↦ inr (x.0, inl lt)
            | inr y ↦
                (elim (step (slice_index a 2) (slice_index b 2) _ y.1) [
                  | inl lt ↦ inr (x.0, inr (y.0, lt))
                  | inr z ↦ absurd (let q = z.1 in cc)
                ])
          ])
    ]

pub rows_rise : (rows : List (List ℕ)) → All (λ row. length row ≡ 3) rows → IsStrictlySortedBy (slice_cmp nat_cmp) rows → RowsRise rows
rows_rise rows long sorted = record {
  three = long;
  rise = λ i j h in_j. before (row_at rows i) (row_at rows j) (long i [] (omega arith)) (long j [] in_j) (Less-from_sorted (slice_cmp nat_cmp) rows i j [] sorted h in_j);
}

-- the turned rows are those of the rows
pub has_turned : (rows : List (List ℕ)) → All (λ row. length row ≡ 3) rows → (n p c : ℕ) → Contains (map turned rows) (n ∷ p ∷ c ∷ []) ↔ Contains rows (c ∷ p ∷ n ∷ [])
has_turned rows long n p c = (
  (λ x.
      let k = x.0 in
      let in_k : k < length rows = omega (arith, x.1, length-map rows turned) in
      let row = row_at rows k in
      let e : turned row ≡ n ∷ p ∷ c ∷ [] = sym (get_or-map turned rows k [] (n ∷ p ∷ c ∷ []) in_k) ∙ x.2 in
      let e0 : slice_index row 2 ≡ n = ap (λ (r : List ℕ). slice_index r 0) e in
      let e1 : slice_index row 1 ≡ p = ap (λ (r : List ℕ). slice_index r 1) e in
      let e2 : slice_index row 0 ≡ c = ap (λ (r : List ℕ). slice_index r 2) e in
      let whole : row ≡ slice_index row 0 ∷ slice_index row 1 ∷ slice_index row 2 ∷ [] = three row (long k [] in_k) in
      (k, in_k, get_or_default rows k (c ∷ p ∷ n ∷ []) [] in_k ∙ whole ∙ ap (λ x. x ∷ slice_index row 1 ∷ slice_index row 2 ∷ []) e2 ∙ ap (λ x. c ∷ x ∷ slice_index row 2 ∷ []) e1 ∙ ap (λ x. c ∷ p ∷ x ∷ []) e0)),
  (λ x.
      let k = x.0 in
      let e : row_at rows k ≡ c ∷ p ∷ n ∷ [] = get_or_default rows k [] (c ∷ p ∷ n ∷ []) x.1 ∙ x.2 in
      (k, omega (arith, x.1, length-map rows turned), get_or-map turned rows k [] (n ∷ p ∷ c ∷ []) x.1 ∙ ap turned e)),
)

pub chain : (A B C : Type 0) → (A ↔ B) → (B ↔ C) → (A ↔ C)
chain A B C f g = ((λ a. g.0 (f.0 a)), (λ c. f.1 (g.1 c)))

pub same_rows : (x y : List ℕ) → pointwise nat_eq x y ≡ true → x ≡ y
same_rows [] [] e = refl
same_rows [] (b ∷ y) e = absurd (cc)
same_rows (a ∷ x) [] e = absurd (cc)
same_rows (a ∷ x) (b ∷ y) e = let h = and_parts (nat_eq a b) (pointwise nat_eq x y) e in ap₂ (λ n ns. n ∷ ns) (eqb-true a b h.0) (same_rows x y h.1)

-- each number of the rows is a name
pub all_named : (rows orig : List (List ℕ)) (names : ℕ) → ((row : List ℕ) → Contains rows row ↔ Contains orig row) → All (λ row. All (λ n. n < names) row) orig → All (λ row. All (λ n. n < names) row) rows
all_named rows orig names same named = λ k d h. All-contains (λ (row : List ℕ). All (λ n. n < names) row) orig (get_or rows k d) named ((same (get_or rows k d)).0 (Contains-get_or rows k d h))

pub firsts_named : (rows : List (List ℕ)) (names : ℕ) → All (λ row. length row ≡ 3) rows → All (λ row. All (λ n. n < names) row) rows → All (λ row. slice_index row 0 < names) rows
firsts_named rows names long named = λ k d h. named k d h 0 0 (let e = long k d h in omega arith)

-- the first numbers stay names where the rows stay the same
pub firsts_kept : (rows orig : List (List ℕ)) (names : ℕ) → ((row : List ℕ) → Contains rows row ↔ Contains orig row) → All (λ row. slice_index row 0 < names) orig → All (λ row. slice_index row 0 < names) rows
firsts_kept rows orig names same named = λ k d h. All-contains (λ (row : List ℕ). slice_index row 0 < names) orig (get_or rows k d) named ((same (get_or rows k d)).0 (Contains-get_or rows k d h))

-- the first number of a turned row is the last of the row
pub turned_firsts : (rows : List (List ℕ)) (names : ℕ) → All (λ row. length row ≡ 3) rows → All (λ row. All (λ n. n < names) row) rows → All (λ row. slice_index row 0 < names) (map turned rows)
turned_firsts rows names long named = All-map (λ (row : List ℕ). slice_index row 0 < names) turned rows
    (λ k d h. named k d h 2 0 (let e = long k d h in omega arith))
