use Rattle.std.proofs.Common.{Some, ap, ◌∙◌}
use Rattle.proof_file.proofs.SideLemmas.{term_read}
use Rattle.proof_file.proofs.sides.read_term.Goals as goal

pub returns-in_ok-number-in-Ok-clause-told : goal.returns-in_ok-number-in-Ok-clause-told
returns-in_ok-number-in-Ok-clause-told c =
    term_read c.number.new.terms c.args.line.now c.args.at c.in_ok-number-in-Ok.field-0 c.in-Ok.end c.in-Ok.term c.in-Ok.ensures.so (c.in_ok-number-in-Ok.ensures.number ∙ ap Some c.lent.ensures)
