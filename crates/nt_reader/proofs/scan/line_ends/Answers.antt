use Rattle.std.proofs.Common.{arith}
use Rattle.nt_lex.proofs.CallerLemmas.{marks_equal, marks_either, bits_of_marks}
use Rattle.nt_reader.specs.Lines.{is_line_end}
use Rattle.nt_reader.proofs.scan.line_ends.Goals as goal

pub returns : goal.returns
returns c =
    let v = c.args.bytes in
    let long = c.fits-bytes.0 in
    bits_of_marks is_line_end v (omega arith) (marks_either _ _ v (marks_equal v 32 0x0A long) (marks_equal v 32 0x0D long))
