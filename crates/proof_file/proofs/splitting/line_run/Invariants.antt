use Rattle.std.proofs.Common.{◌-◌, ◌≤◌, length}
use Rattle.nt_lex.specs.Scans.{AllPassBetween}
use Rattle.nt_reader.specs.Lines.{is_line_byte}
use Rattle.proof_file.proofs.splitting.line_run.Given as goal

abbrev pub invariant-loop-end : goal.invariant-loop-end
invariant-loop-end l = (l.end ≤ length l.text) × AllPassBetween is_line_byte l.text 0 l.end

abbrev pub decreases-loop-end : goal.decreases-loop-end
decreases-loop-end l = length l.text - l.end
