use Rattle.std.proofs.Common.{◌≡◌, map, take}
use Rattle.why_pair.specs.Relinked.{step_number}
use Rattle.why_pair.proofs.keeping.step_numbers.Given as goal

abbrev pub invariant-loop-place : goal.invariant-loop-place
invariant-loop-place l = l.steps.items ≡ map (step_number l.kept) (take l.place-index l.places)
