use Rattle.std.proofs.Common.{List, ◌++◌, ℕ, ◌≡◌, ◌∙◌, length, take, drop, sym, subst, rules}
use Rattle.std.proofs.lemmas.Cmp.{nat_list_cmp_total}
use Rattle.std.proofs.lemmas.Fn.{always_returns_same}
use Rattle.std.proofs.lemmas.List.{take_at}
use Rattle.std.proofs.lemmas.List.Sorted.{ranks_by}
use Rattle.std.specs.List.Sorted.{IsSortedByKey}
use Rattle.std.specs.Ordering.{is_lt, nat_cmp}
use Rattle.std.specs.Cmp.Lexicographic.{slice_cmp}
use Rattle.valuation_groups.specs.Rows.{row_numbered}
use Rattle.valuation_groups.proofs.shared.sort_in_threads.Goals as goal

pub returns-clause-sorted : goal.returns-clause-sorted
returns-clause-sorted g c =
    let key = row_numbered c.args.rows.now.parts in
    let after : List ℕ = c.par_sort_unstable_by.new.s in
    let up : IsSortedByKey key (slice_cmp nat_cmp) after =
    c.par_sort_unstable_by.ensures.sorted (λ a b. is_lt (slice_cmp nat_cmp (key a) (key b))) (ranks_by nat_list_cmp_total key) (always_returns_same _ _ _ (λ a r f' k. search rules)) in
    let count : length after ≡ c.args.order.now.len = c.par_sort_unstable_by.ensures.len ∙ c.as_mut_slice.ensures.len in
    let written : take c.args.order.now.len (after ++ drop (length after) c.args.order.now.items) ≡ after = take_at after (drop (length after) c.args.order.now.items) c.args.order.now.len count in
    subst (IsSortedByKey key (slice_cmp nat_cmp)) (sym written) up
