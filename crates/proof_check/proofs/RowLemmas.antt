-- Sorted rows.
use Rattle.std.proofs.Common.{List, [], ◌∷◌, ℕ, Bool, true, nat_eq, Result, Ok, Err, Contains, length, get_or, ◌≡◌, ◌↔◌, inl, inr, refl, sym, ap, ap₂, ◌∙◌, arith, true≢false, eqb-true}
use Rattle.std.specs.Result.{is_ok}
use Rattle.std.specs.List.Sorted.{IsSorted, IsSearchInRange, IsBinarySearchResult}
use Rattle.std.specs.Ordering.{nat_cmp, is_eq}
use Rattle.std.specs.declared.cmp.Ordering.TheVariants.{Less, Equal, Greater}
use Rattle.std.specs.Cmp.Lexicographic.{pointwise, slice_cmp, texts_ties}
use Rattle.std.proofs.lemmas.Bool.{and_parts, cases_lt}
use Rattle.std.specs.List.{list_any}
use Rattle.std.proofs.Common.{bytes_eq}
use Rattle.std.proofs.lemmas.List.Folds.{list_any_at}
use Rattle.std.proofs.lemmas.Slice.Eq.{bytes_eq-Decides}
use Rattle.std.proofs.lemmas.Option.{slice_get_within, get_or_from_slice_get}
use Rattle.proof_check.proofs.ListFacts.{both_ways, any_found}
use Rattle.std.proofs.lemmas.Cmp.{nat_list_cmp_total, tied_itself}
use Rattle.std.proofs.lemmas.List.Sorted.{searchable_from_sorted}

same_numbers : (x y : List ℕ) → pointwise nat_eq x y ≡ true → x ≡ y
same_numbers [] [] e = refl
same_numbers [] (b ∷ y) e = absurd (cc)
same_numbers (a ∷ x) [] e = absurd (cc)
same_numbers (a ∷ x) (b ∷ y) e = let h = and_parts (nat_eq a b) (pointwise nat_eq x y) e in ap₂ (λ n ns. n ∷ ns) (eqb-true a b h.0) (same_numbers x y h.1)

tie : (x y : List ℕ) → slice_cmp nat_cmp x y ≡ Equal → x ≡ y
tie x y e = same_numbers x y (texts_ties x y ∙ ap is_eq e)

pub searched_row : (rows : List (List ℕ)) (row : List ℕ) (r : Result ℕ ℕ) → IsSorted (slice_cmp nat_cmp) rows → IsSearchInRange r (length rows) →
    IsBinarySearchResult (λ y. slice_cmp nat_cmp y row) rows r → (is_ok r ≡ true) ↔ Contains rows row
searched_row rows row (Ok i) sorted range found = (λ h. (i, range, tie (get_or rows i row) row (found row)), λ h. refl)
searched_row rows row (Err i) sorted range found =
    let p = found (searchable_from_sorted nat_list_cmp_total (λ (x : List ℕ). x) rows row sorted) in (
      λ h. absurd (true≢false (sym h)),
      λ h.
          let at = h.2 in
          let equal : slice_cmp nat_cmp (get_or rows h.0 row) row ≡ Equal = ap (λ x. slice_cmp nat_cmp x row) at ∙ tied_itself nat_list_cmp_total row in
          elim (cases_lt h.0 i) [
            | inl early ↦ absurd (let less = p.0 h.0 row (omega arith) early in let e : Less ≡ Equal = sym less ∙ equal in cc)
            | inr late ↦ absurd (let more = p.1 h.0 row late h.1 in let e : Greater ≡ Equal = sym more ∙ equal in cc)
          ],
    )

-- a test of a row
pub row_test : (rows : List (List ℕ)) (row : List ℕ) (b : Bool) → (b ≡ true) ↔ Contains rows row → b ≡ list_any (bytes_eq row) rows
row_test rows row b h =
    both_ways b (list_any (bytes_eq row) rows)
    (λ t. let c = h.0 t in list_any_at (bytes_eq row) rows c.0 row c.1 ((bytes_eq-Decides row (get_or rows c.0 row)).1 (sym c.2)))
    (λ t.
    let r = any_found (bytes_eq row) rows t in
    let e : row ≡ r.1 = (bytes_eq-Decides row r.1).0 r.3 in
    h.1 (r.0, slice_get_within rows r.0 r.1 r.2, get_or_from_slice_get rows r.0 r.1 row r.2 ∙ sym e))
