use Rattle.std.proofs.Common.{◌≡◌, drop, slice_index}
use Rattle.proof_check.specs.Verdict.{each_slot}
use Rattle.proof_check.specs.NumberVerdict.{number_is_constant, numbers_are_constants}
use Rattle.proof_check.proofs.side.are_constants.Given as goal

abbrev pub invariant-loop-at : goal.invariant-loop-at
invariant-loop-at l = numbers_are_constants l.slots l.side ≡ each_slot (λ at slot. number_is_constant slot (slice_index l.side at)) l.at (drop l.at l.slots)
