-- A sort moves the rows, and what is left out stands twice.
use Rattle.std.proofs.Common.{List, ℕ, All, ◌≡◌, length, subst, nat_eq}
use Rattle.std.proofs.lemmas.List.Filters.{dedup_is, All-dedup}
use Rattle.std.proofs.lemmas.List.Kept.{Contains-dedup, Contains-from_dedup, IsStrictlySortedBy-dedup}
use Rattle.std.proofs.lemmas.List.Sorted.{Contains-permutation, All-permutation, IsPermutation-sym}
use Rattle.std.proofs.lemmas.Cmp.{nat_list_cmp_total, nat_list_eq_equiv}
use Rattle.std.specs.Cmp.Lexicographic.{pointwise, texts_ties}
use Rattle.typed_graph.proofs.Order.{same_rows}
use Rattle.typed_graph.proofs.rows.sorted_in_threads.Goals as goal

pub returns-clause-ascending : goal.returns-clause-ascending
returns-clause-ascending g c =
    rw (dedup_is _ _ _ c.dedup.ensures.filtered) (IsStrictlySortedBy-dedup nat_list_cmp_total texts_ties _ c.sort_in_threads.ensures.ascending)

pub returns-clause-three : goal.returns-clause-three
returns-clause-three g c =
    let long : All (λ (row : List ℕ). length row ≡ 3) c.sort_in_threads.new.rows.items = All-permutation (λ (row : List ℕ). length row ≡ 3) _ _ c.sort_in_threads.ensures.permutation (subst (All (λ (row : List ℕ). length row ≡ 3)) c.deref-2.ensures.value c.three_each.ensures) in
    rw (dedup_is _ _ _ c.dedup.ensures.filtered) (All-dedup (pointwise nat_eq) (λ (row : List ℕ). length row ≡ 3) _ long)

pub returns-clause-same : goal.returns-clause-same
returns-clause-same g c = λ row.
    let is = dedup_is _ _ _ c.dedup.ensures.filtered in
    let moved = c.sort_in_threads.ensures.permutation in (
      (λ h. Contains-permutation _ _ row (IsPermutation-sym _ _ moved) (Contains-from_dedup _ _ row (rw is at h))),
      (λ h. rw is (Contains-dedup nat_list_eq_equiv same_rows _ row (Contains-permutation _ _ row moved h))),
    )
