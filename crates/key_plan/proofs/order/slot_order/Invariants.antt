use Rattle.std.proofs.Common.{length, ◌-◌}
use Rattle.key_plan.specs.Making.{IsBegun}
use Rattle.key_plan.proofs.order.slot_order.Given as goal

abbrev pub invariant-loop-marks : goal.invariant-loop-marks
invariant-loop-marks l = IsBegun l.pattern l.marks.items l.order.items

abbrev pub decreases-loop-marks : goal.decreases-loop-marks
decreases-loop-marks l = length l.pattern.slots - length l.order.items
