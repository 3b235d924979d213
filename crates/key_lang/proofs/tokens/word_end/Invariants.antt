use Rattle.std.proofs.Common.{◌-◌, ◌≤◌, length}
use Rattle.nt_lex.specs.Scans.{AllPassBetween}
use Rattle.key_lang.specs.Tokens.{is_word_byte}
use Rattle.key_lang.proofs.tokens.word_end.Given as goal

abbrev pub invariant-loop-end : goal.invariant-loop-end
invariant-loop-end l = (l.at ≤ l.end) × (l.end ≤ length l.line) × AllPassBetween is_word_byte l.line l.at l.end

abbrev pub decreases-loop-end : goal.decreases-loop-end
decreases-loop-end l = length l.line - l.end
