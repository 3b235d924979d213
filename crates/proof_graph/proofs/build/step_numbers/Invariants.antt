use Rattle.std.proofs.Common.{◌≡◌, ◌+◌, map, take}
use Rattle.proof_graph.proofs.build.step_numbers.Given as goal

abbrev pub invariant-loop-place : goal.invariant-loop-place
invariant-loop-place l = l.steps.items ≡ map (λ p. p + 1) (take l.place-index l.places)
