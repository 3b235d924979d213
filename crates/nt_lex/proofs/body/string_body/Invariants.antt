use Rattle.std.proofs.Common.{◌≡◌, ◌-◌, ◌<◌, false, length, drop, get_or, IsUtf8}
use Rattle.nt_lex.specs.Chars.{is_string_plain}
use Rattle.nt_lex.specs.Written.{in_string}
use Rattle.nt_lex.proofs.RunningLemmas.{GoesTo}
use Rattle.nt_lex.proofs.body.string_body.Given as goal

abbrev pub invariant-escapes : goal.invariant-escapes
invariant-escapes l =
    GoesTo in_string l.line l.from l.text.items l.end × IsUtf8 (drop l.end l.line) × (l.end < length l.line → is_string_plain (get_or l.line l.end 0) ≡ false)

abbrev pub decreases-escapes : goal.decreases-escapes
decreases-escapes l = length l.line - l.end
