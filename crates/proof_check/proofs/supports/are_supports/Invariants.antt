use Rattle.std.proofs.Common.{◌≡◌, ◌≤◌, drop, length, map, bytes_eq}
use Rattle.proof_file.specs.Steps.{SupportShape}
use Rattle.proof_file.specs.Tells.{entities_from, supported_slots}
use Rattle.proof_check.proofs.supports.are_supports.Given as goal

abbrev pub invariant-loop-at : goal.invariant-loop-at
invariant-loop-at l = (l.next ≤ length l.supports) × (bytes_eq (map (λ (s : SupportShape). s.slot) l.supports) (supported_slots l.slots) ≡ bytes_eq (map (λ (s : SupportShape). s.slot) (drop l.next l.supports)) (entities_from l.at (drop l.at l.slots)))
