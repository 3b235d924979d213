use Rattle.std.proofs.Common.{◌≡◌, length}
use Rattle.proof_check.proofs.rows.begins_of.Given as goal

abbrev pub invariant-loop-place : goal.invariant-loop-place
invariant-loop-place l = length l.begins.items ≡ l.count
