-- Rows in the order of the keys that they are sorted by.
use Rattle.std.proofs.Common.{ℕ, Ordering, List, All, ◌≡◌, length, refl, sym, ap, ◌∙◌, ap₂, ◌+◌, slice_index, arith}
use Rattle.std.specs.Cmp.Lexicographic.{slice_cmp}
use Rattle.std.specs.List.Sorted.{IsSorted, IsSortedByKey}
use Rattle.std.specs.Ordering.{is_lt, nat_cmp, ordering_then}
use Rattle.std.specs.declared.cmp.Ordering.TheVariants.{Less, Equal, Greater}
use Rattle.typed_graph.proofs.Made.{three}

-- the key of a row, and the order of keys
abbrev pub key : List ℕ → ℕ × ℕ × ℕ
key row = (slice_index row 0, slice_index row 1, slice_index row 2)

abbrev pub key_cmp : ℕ × ℕ × ℕ → ℕ × ℕ × ℕ → Ordering
key_cmp x y = ordering_then (ordering_then (nat_cmp x.0 y.0) (nat_cmp x.1 y.1)) (nat_cmp x.2 y.2)

-- of three answers the first that is not `Equal` decides, however they are grouped
regroup : (p q r : Ordering) → ordering_then (ordering_then p q) r ≡ ordering_then p (ordering_then q (ordering_then r Equal))
regroup Less q r = refl
regroup Greater q r = refl
regroup Equal Less r = refl
regroup Equal Greater r = refl
regroup Equal Equal Less = refl
regroup Equal Equal Equal = refl
regroup Equal Equal Greater = refl

-- keys are in the order of their rows
key_order : (a b : List ℕ) → length a ≡ 3 → length b ≡ 3 → key_cmp (key a) (key b) ≡ slice_cmp nat_cmp a b
key_order a b long_a long_b =
    let parts = regroup (nat_cmp (slice_index a 0) (slice_index b 0)) (nat_cmp (slice_index a 1) (slice_index b 1)) (nat_cmp (slice_index a 2) (slice_index b 2)) in
    parts ∙ sym (ap₂ (slice_cmp nat_cmp) (three a long_a) (three b long_b))

-- rows that are sorted by their keys are sorted
pub rows_sorted : (rows : List (List ℕ)) → All (λ row. length row ≡ 3) rows → IsSortedByKey key key_cmp rows → IsSorted (slice_cmp nat_cmp) rows
rows_sorted rows long up k d from in_k = ap is_lt (sym (key_order _ _ (long (k + 1) d in_k) (long k d (omega arith)))) ∙ up k d from in_k
