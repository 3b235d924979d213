use Rattle.key_plan.specs.Making.{IsFirstBelow}
use Rattle.key_plan.proofs.order.next_slot.Given as goal

abbrev pub invariant-loop-slot : goal.invariant-loop-slot
invariant-loop-slot l = IsFirstBelow l.pattern l.marks l.slot l.next
