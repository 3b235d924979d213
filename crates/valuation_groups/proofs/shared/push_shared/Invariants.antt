use Rattle.std.proofs.Common.{◌≡◌, ◌≤◌, ◌-◌, filter, length, take}
use Rattle.valuation_groups.specs.Shared.{grown, in_order, is_shared}
use Rattle.valuation_groups.proofs.OrderLemmas.{IsBorder}
use Rattle.valuation_groups.proofs.shared.push_shared.Given as goal

abbrev pub invariant-loop-from : goal.invariant-loop-from
invariant-loop-from l = record {
  within : l.from ≤ length l.order;
  kept : l.kept ≡ grown l.initial.kept (filter (is_shared (in_order l.rows.parts l.order)) (take l.from (in_order l.rows.parts l.order)));
  border : IsBorder (in_order l.rows.parts l.order) l.from;
}

abbrev pub decreases-loop-from : goal.decreases-loop-from
decreases-loop-from l = length l.order - l.from
