use Rattle.std.proofs.Common.{ℕ, ◌<◌, ◌≡◌, false, length, take, get_or}
use Rattle.proof_check.specs.Rows.{has_end}
use Rattle.proof_check.proofs.ends.mark_all.Given as goal

abbrev pub invariant-loop-row : goal.invariant-loop-row
invariant-loop-row l = (n : ℕ) → n < length l.ends → get_or l.ends n false ≡ has_end (take l.row-index l.rows) n
