use Rattle.std.proofs.Common.{◌-◌, ◌≤◌, length}
use Rattle.nt_lex.specs.Scans.{AllPassBetween}
use Rattle.nt_reader.specs.Lines.{is_line_byte}
use Rattle.key_lang.proofs.file.line_run.Given as goal

abbrev pub invariant-loop-end : goal.invariant-loop-end
invariant-loop-end l = (l.at ≤ l.end) × (l.end ≤ length l.bytes) × AllPassBetween is_line_byte l.bytes l.at l.end

abbrev pub decreases-loop-end : goal.decreases-loop-end
decreases-loop-end l = length l.bytes - l.end
