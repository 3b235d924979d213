use Rattle.std.proofs.Common.{◌≡◌, drop}
use Rattle.proof_check.specs.Verdict.{each_slot}
use Rattle.proof_check.specs.NumberVerdict.{number_has_kind, numbers_have_kinds}
use Rattle.std.proofs.Common.{slice_index}
use Rattle.proof_check.proofs.side.have_kinds.Given as goal

abbrev pub invariant-loop-at : goal.invariant-loop-at
invariant-loop-at l = numbers_have_kinds l.rows l.names l.kind l.slots l.side ≡ each_slot (λ at slot. number_has_kind l.rows l.names l.kind slot (slice_index l.side at)) l.at (drop l.at l.slots)
