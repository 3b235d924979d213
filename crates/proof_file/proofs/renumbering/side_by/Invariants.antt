use Rattle.std.proofs.Common.{◌≡◌, map, take, slice_index}
use Rattle.proof_file.proofs.renumbering.side_by.Given as goal

abbrev pub invariant-loop-number : goal.invariant-loop-number
invariant-loop-number l = l.others.items ≡ map (slice_index l.numbers) (take l.number-index l.side)
