use Rattle.std.proofs.Common.{◌≡◌, map, take, slice_index}
use Rattle.proof_check.proofs.sides.fill_side.Given as goal

abbrev pub invariant-loop-place : goal.invariant-loop-place
invariant-loop-place l = l.side.items ≡ map (slice_index l.numbers) (take l.place-index l.places)
