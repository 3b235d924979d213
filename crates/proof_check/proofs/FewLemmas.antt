-- Rows that ascend, looked at one after another.
use Rattle.std.proofs.Common.{List, [], ◌∷◌, ℕ, ◌+◌, ◌-◌, ◌<◌, ◌≤◌, Bool, true, false, cond, nat_eq, Contains, length, get_or, slice_index, Ordering, ◌≡◌, inl, inr, refl, ap, ◌∙◌, arith, true≢false}
use Rattle.std.specs.Ordering.{nat_cmp, is_lt, ordering_then}
use Rattle.std.specs.declared.cmp.Ordering.TheVariants.{Less, Equal, Greater}
use Rattle.std.specs.Cmp.Lexicographic.{slice_cmp}
use Rattle.std.specs.List.Sorted.{IsSorted, IsNonDecreasingBy}
use Rattle.std.proofs.lemmas.List.Sorted.{IsNonDecreasingBy-from_sort}
use Rattle.std.proofs.lemmas.List.{get_or_default}
use Rattle.std.proofs.lemmas.Bool.{cases_lt, le-ltb}
use Rattle.proof_check.specs.Rows.{HasLowerBefore}

-- the first number of a row
abbrev pub first_number : List ℕ → ℕ
first_number row = slice_index row 0

first_decides : (o rest : Ordering) → is_lt (ordering_then o rest) ≡ false → is_lt o ≡ false
first_decides Less rest e = e
first_decides Equal rest e = refl
first_decides Greater rest e = refl

not_less : (x y : ℕ) → y ≤ x → is_lt (nat_cmp x y) ≡ false
not_less x y le = ap (λ b. is_lt (cond b Less (cond (nat_eq x y) Equal Greater))) (le-ltb x y le) ∙ neither (nat_eq x y)
  where
    neither : (b : Bool) → is_lt (cond b Equal Greater) ≡ false
    neither true = refl
    neither false = refl

-- a row that is not below another has no lower first number
first_not_below : (x y : List ℕ) → is_lt (slice_cmp nat_cmp x y) ≡ false → is_lt (nat_cmp (first_number x) (first_number y)) ≡ false
first_not_below [] [] e = refl
first_not_below [] (b ∷ y) e = absurd (true≢false e)
first_not_below (a ∷ x) [] e = not_less a 0 (omega arith)
first_not_below (a ∷ x) (b ∷ y) e = first_decides (nat_cmp a b) (slice_cmp nat_cmp x y) e

-- the first numbers of sorted rows do not fall
pub firsts_rise : (rows : List (List ℕ)) → IsSorted (slice_cmp nat_cmp) rows → IsNonDecreasingBy first_number rows
firsts_rise rows sorted = IsNonDecreasingBy-from_sort first_number rows (λ k d from in_k. first_not_below (get_or rows (k + 1) d) (get_or rows k d) (sorted k d from in_k))

pub lower_before : (rows : List (List ℕ)) (place s : ℕ) → IsSorted (slice_cmp nat_cmp) rows → 0 < place → place ≤ length rows → first_number (get_or rows (place - 1) []) < s → HasLowerBefore rows place s
lower_before rows place s sorted some within low = record {
  within = within;
  lower = λ k h. let r = firsts_rise rows sorted k (place - 1) [] (omega arith) (omega arith) in omega arith;
}

-- none of the first so many rows is this one
abbrev pub NoneBefore : List (List ℕ) → List ℕ → ℕ → Type 0
NoneBefore rows row n = (k : ℕ) → k < n → get_or rows k [] ≡ row → ⊥

-- all rows were looked at
pub none_at_all : (rows : List (List ℕ)) (row : List ℕ) (n : ℕ) → length rows ≤ n → NoneBefore rows row n → Contains rows row → ⊥
none_at_all rows row n all none c = none c.0 (let l = c.1 in omega arith) (get_or_default rows c.0 [] row c.1 ∙ c.2)

-- those from a place on have greater first numbers
pub none_later : (rows : List (List ℕ)) (place s p o : ℕ) → IsSorted (slice_cmp nat_cmp) rows → s < first_number (get_or rows place []) → NoneBefore rows (s ∷ p ∷ o ∷ []) place → Contains rows (s ∷ p ∷ o ∷ []) → ⊥
none_later rows place s p o sorted high none c = elim (cases_lt c.0 place) [
  | inl early ↦ none c.0 early (get_or_default rows c.0 [] (s ∷ p ∷ o ∷ []) c.1 ∙ c.2)
  | inr late ↦
      let rise = firsts_rise rows sorted place c.0 [] late c.1 in
      let same : first_number (get_or rows c.0 []) ≡ s = ap first_number (get_or_default rows c.0 [] (s ∷ p ∷ o ∷ []) c.1 ∙ c.2) in
      omega arith
]

-- a row of three numbers
pub three_numbers : (row : List ℕ) → length row ≡ 3 → row ≡ slice_index row 0 ∷ slice_index row 1 ∷ slice_index row 2 ∷ []
three_numbers [] e = absurd (omega arith)
three_numbers (a ∷ []) e = absurd (omega arith)
three_numbers (a ∷ b ∷ []) e = absurd (omega arith)
three_numbers (a ∷ b ∷ c ∷ []) e = refl
three_numbers (a ∷ b ∷ c ∷ d ∷ row) e = absurd (omega arith)
