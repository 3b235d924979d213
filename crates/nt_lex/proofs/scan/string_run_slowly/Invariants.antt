use Rattle.std.proofs.Common.{◌-◌, ◌≤◌, length}
use Rattle.nt_lex.specs.Chars.{is_string_plain}
use Rattle.nt_lex.specs.Scans.{AllPassBetween}
use Rattle.nt_lex.proofs.scan.string_run_slowly.Given as goal

abbrev pub invariant-loop-end : goal.invariant-loop-end
invariant-loop-end l = (l.at ≤ l.end) × (l.end ≤ length l.line) × AllPassBetween is_string_plain l.line l.at l.end

abbrev pub decreases-loop-end : goal.decreases-loop-end
decreases-loop-end l = length l.line - l.end
