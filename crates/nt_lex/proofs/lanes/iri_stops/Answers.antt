use Rattle.std.proofs.Common.{ℕ, arith}
use Rattle.nt_lex.specs.Chars.{is_iri_excluded}
use Rattle.nt_lex.proofs.LaneLemmas.{marks_equal, marks_at_most, marks_either, bits_of_marks}
use Rattle.nt_lex.proofs.lanes.iri_stops.Goals as goal

pub returns : goal.returns
returns c =
    let v = c.args.bytes in
    let is = λ (b : ℕ). marks_equal v 16 b c.fits-bytes.0 in
    bits_of_marks is_iri_excluded v (omega arith)
    (marks_either _ _ v (marks_either _ _ v (marks_either _ _ v (marks_either _ _ v (marks_either _ _ v
    (marks_either _ _ v (marks_either _ _ v (marks_either _ _ v (marks_either _ _ v (marks_at_most v 16 0x20 c.fits-bytes.0)
    (is 0x3C)) (is 0x3E)) (is 0x22)) (is 0x7B)) (is 0x7D)) (is 0x7C)) (is 0x5E)) (is 0x60)) (is 0x5C))
