use Rattle.std.proofs.Common.{◌-◌, ◌≤◌, length}
use Rattle.nt_lex.specs.Chars.{is_letter}
use Rattle.nt_lex.specs.Scans.{AllPassBetween}
use Rattle.nt_lex.proofs.tag.letters_end.Given as goal

abbrev pub invariant-loop-end : goal.invariant-loop-end
invariant-loop-end l = (l.from ≤ l.end) × (l.end ≤ length l.line) × AllPassBetween is_letter l.line l.from l.end

abbrev pub decreases-loop-end : goal.decreases-loop-end
decreases-loop-end l = length l.line - l.end
