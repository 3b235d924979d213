use Rattle.std.proofs.Common.{sym, ◌∙◌}
use Rattle.std.proofs.lemmas.Result.{err_from_is_err_and}
use Rattle.nt_reader.specs.Line.{no_text, nothing, triple}
use Rattle.nt_reader.proofs.LineLemmas.{true_false}
use Rattle.nt_reader.proofs.LineAnswers.{line_stop}
use Rattle.nt_reader.proofs.line.line_answer.Goals as goal

pub returns-then-not-is_utf8 : goal.returns-then-not-is_utf8
returns-then-not-is_utf8 c = no_text (λ u. true_false (sym (c.is_utf8.ensures.1 u) ∙ c.if-not-is_utf8.true))

pub returns-then-is_over : goal.returns-then-is_over
returns-then-is_over c = nothing c.skip_space-at.result (c.is_utf8.ensures.0 c.if-not-is_utf8.false) c.skip_space-at.ensures (c.is_over.ensures.0 c.if-is_over.true)

pub returns : goal.returns
returns c =
    triple c.skip_space-at.result (c.is_utf8.ensures.0 c.if-not-is_utf8.false) c.skip_space-at.ensures
    (λ o. true_false (sym (c.is_over.ensures.1 o) ∙ c.if-is_over.false)) c.in_ok-read_from_subject.ensures

pub returns-in_err-read_from_subject : goal.returns-in_err-read_from_subject
returns-in_err-read_from_subject c =
    let p = err_from_is_err_and c.from_residual.result c.from_residual.ensures.1 in
    rw (p.1, p.2) (line_stop c.args.line.now c.skip_space-at.result c.in_err-read_from_subject.field-0.0 (c.is_utf8.ensures.0 c.if-not-is_utf8.false) c.skip_space-at.ensures
    (λ o. true_false (sym (c.is_over.ensures.1 o) ∙ c.if-is_over.false)) c.in_err-read_from_subject.ensures)
