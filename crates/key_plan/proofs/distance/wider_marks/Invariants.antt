use Rattle.std.proofs.Common.{◌≡◌, ◌||◌, false, map, slice_index_or}
use Rattle.std.specs.List.{list_any, range_with_len}
use Rattle.chase_laws.specs.Shape.{touches}
use Rattle.key_plan.proofs.distance.wider_marks.Given as goal

abbrev pub invariant-loop-slot : goal.invariant-loop-slot
invariant-loop-slot l = l.wider.items ≡ map (λ s. slice_index_or l.before s false || list_any (touches l.before s) l.edges) (range_with_len 0 l.slot)
