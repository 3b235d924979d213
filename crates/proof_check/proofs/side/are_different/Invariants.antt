use Rattle.std.proofs.Common.{◌≡◌, drop, nat_eq}
use Rattle.key_file.specs.Key.{all_differ}
use Rattle.proof_check.proofs.side.are_different.Given as goal

abbrev pub invariant-loop-at : goal.invariant-loop-at
invariant-loop-at l = all_differ nat_eq l.side ≡ all_differ nat_eq (drop l.at l.side)
