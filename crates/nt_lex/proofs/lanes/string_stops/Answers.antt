use Rattle.std.proofs.Common.{ℕ, arith}
use Rattle.nt_lex.specs.Chars.{is_string_excluded}
use Rattle.nt_lex.proofs.LaneLemmas.{marks_equal, marks_either, bits_of_marks}
use Rattle.nt_lex.proofs.lanes.string_stops.Goals as goal

pub returns : goal.returns
returns c =
    let v = c.args.bytes in
    let is = λ (b : ℕ). marks_equal v 16 b c.fits-bytes.0 in
    bits_of_marks is_string_excluded v (omega arith)
    (marks_either _ _ v (marks_either _ _ v (marks_either _ _ v (is 0x22) (is 0x5C)) (is 0x0A)) (is 0x0D))
