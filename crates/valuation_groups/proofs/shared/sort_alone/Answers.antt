use Rattle.std.proofs.Common.{rules}
use Rattle.std.proofs.lemmas.Cmp.{nat_list_cmp_total}
use Rattle.std.proofs.lemmas.Fn.{always_returns_same}
use Rattle.std.proofs.lemmas.List.Sorted.{ranks_by}
use Rattle.std.specs.Ordering.{is_lt, nat_cmp}
use Rattle.std.specs.Cmp.Lexicographic.{slice_cmp}
use Rattle.valuation_groups.specs.Rows.{row_numbered}
use Rattle.valuation_groups.proofs.shared.sort_alone.Goals as goal

pub returns-clause-sorted : goal.returns-clause-sorted
returns-clause-sorted c =
    let key = row_numbered c.args.rows.now.parts in
    c.sort_unstable_by.ensures.sorted (λ a b. is_lt (slice_cmp nat_cmp (key a) (key b))) (ranks_by nat_list_cmp_total key) (always_returns_same _ _ _ (λ a r f' k. search rules))
