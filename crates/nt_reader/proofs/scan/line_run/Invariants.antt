use Rattle.std.proofs.Common.{◌-◌, ◌≤◌, length}
use Rattle.nt_lex.specs.Scans.{AllPassBetween}
use Rattle.nt_reader.specs.Lines.{is_line_byte}
use Rattle.nt_reader.proofs.scan.line_run.Given as goal

abbrev pub invariant-loop-end : goal.invariant-loop-end
invariant-loop-end l = (l.at ≤ l.end) × (l.end ≤ length l.piece) × AllPassBetween is_line_byte l.piece l.at l.end

abbrev pub decreases-loop-end : goal.decreases-loop-end
decreases-loop-end l = length l.piece - l.end
