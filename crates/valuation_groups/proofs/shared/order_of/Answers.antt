use Rattle.std.proofs.Common.{ap, subst, ◌∙◌}
use Rattle.std.specs.List.{range_with_len}
use Rattle.std.specs.List.Sorted.{IsPermutation}
use Rattle.valuation_groups.proofs.SharedLemmas.{ordered_numbers, ordered_rising, ordered_all}
use Rattle.valuation_groups.proofs.shared.order_of.Goals as goal

pub returns-clause-numbers : goal.returns-clause-numbers
returns-clause-numbers g c =
    let moved = subst (λ ns. IsPermutation ns c.sort.new.order.items) (c.in_ok-order.ensures ∙ ap (range_with_len 0) c.len.ensures.length) c.sort.ensures.permutation in
    ordered_numbers c.args.rows.now.parts c.sort.new.order.items c.leave_one_each.new.order.items moved c.leave_one_each.ensures

pub returns-clause-rising : goal.returns-clause-rising
returns-clause-rising g c =
    let moved = subst (λ ns. IsPermutation ns c.sort.new.order.items) (c.in_ok-order.ensures ∙ ap (range_with_len 0) c.len.ensures.length) c.sort.ensures.permutation in
    ordered_rising c.args.rows.now.parts c.sort.new.order.items c.leave_one_each.new.order.items moved c.leave_one_each.ensures c.sort.ensures.sorted

pub returns-clause-all : goal.returns-clause-all
returns-clause-all g c =
    let moved = subst (λ ns. IsPermutation ns c.sort.new.order.items) (c.in_ok-order.ensures ∙ ap (range_with_len 0) c.len.ensures.length) c.sort.ensures.permutation in
    ordered_all c.args.rows.now c.sort.new.order.items c.leave_one_each.new.order.items c.len.ensures.shape moved c.leave_one_each.ensures
