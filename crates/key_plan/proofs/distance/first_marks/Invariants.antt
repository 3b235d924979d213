use Rattle.std.proofs.Common.{◌≡◌, ◌==◌, map}
use Rattle.std.specs.List.{range_with_len}
use Rattle.key_plan.proofs.distance.first_marks.Given as goal

abbrev pub invariant-loop-slot : goal.invariant-loop-slot
invariant-loop-slot l = l.first.items ≡ map (λ s. s == 0) (range_with_len 0 l.slot)
