use Rattle.std.proofs.Common.{◌≡◌, drop, slice_index}
use Rattle.proof_check.specs.Verdict.{each_slot}
use Rattle.proof_check.specs.NumberVerdict.{numbers_agree_at, numbers_agree}
use Rattle.proof_check.proofs.values.all_agree.Given as goal

abbrev pub invariant-loop-at : goal.invariant-loop-at
invariant-loop-at l = numbers_agree l.names l.slots l.left l.right ≡ each_slot (λ at slot. numbers_agree_at l.names slot (slice_index l.left at) (slice_index l.right at)) l.at (drop l.at l.slots)
