use Rattle.std.proofs.Common.{◌-◌, ◌≤◌, length}
use Rattle.nt_lex.specs.Scans.{AllPassBetween}
use Rattle.proof_file.specs.Words.{no_blank}
use Rattle.proof_file.proofs.words.word_end.Given as goal

abbrev pub invariant-loop-end : goal.invariant-loop-end
invariant-loop-end l = (l.at ≤ l.end) × (l.end ≤ length l.line) × AllPassBetween no_blank l.line l.at l.end

abbrev pub decreases-loop-end : goal.decreases-loop-end
decreases-loop-end l = length l.line - l.end
