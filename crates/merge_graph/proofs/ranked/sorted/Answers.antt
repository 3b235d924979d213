-- A sort moves the rows, and what is left out stands twice.
use Rattle.std.proofs.lemmas.Cmp.{nat_list_eq_equiv}
use Rattle.std.proofs.lemmas.List.Filters.{dedup_is}
use Rattle.std.proofs.lemmas.List.Kept.{Contains-dedup, Contains-from_dedup}
use Rattle.std.proofs.lemmas.List.Sorted.{Contains-permutation, IsPermutation-sym}
use Rattle.std.specs.Cmp.Lexicographic.{bytes_decides}
use Rattle.merge_graph.proofs.ranked.sorted.Goals as goal

pub returns : goal.returns
returns c = λ row.
    let is = dedup_is _ _ _ c.dedup.ensures.filtered in
    let moved = c.sort_unstable_by_key.ensures.permutation in (
      (λ h. Contains-permutation _ _ row (IsPermutation-sym _ _ moved) (Contains-from_dedup _ _ row (rw is at h))),
      (λ h. rw is (Contains-dedup nat_list_eq_equiv (λ x y. (bytes_decides x y).0) _ row (Contains-permutation _ _ row moved h))),
    )
