use Rattle.std.proofs.Common.{subst, sym}
use Rattle.std.specs.Cow.{cow_slice_items}
use Rattle.std.proofs.lemmas.Result.{err_from_is_err_and}
use Rattle.nt_lex.specs.Reading.{Reads}
use Rattle.nt_lex.proofs.AnswerParts.{iri_reads, iri_stop}
use Rattle.nt_lex.proofs.iri.iri_answer.Goals as goal

pub returns : goal.returns
returns c =
    let line = c.args.line.now in
    subst (λ t. Reads line c.args.at t c.in_ok-text.end) (sym c.new-name.ensures) (iri_reads line c.args.at (cow_slice_items c.in_ok-text.text) c.in_ok-text.end c.in_ok-text.ensures)

pub returns-in_err-text : goal.returns-in_err-text
returns-in_err-text c =
    let p = err_from_is_err_and c.from_residual.result c.from_residual.ensures.1 in
    rw (p.1, p.2) (iri_stop c.args.line.now c.args.at c.in_err-text.field-0.0 c.requires.inside c.requires.opens c.in_err-text.ensures)
