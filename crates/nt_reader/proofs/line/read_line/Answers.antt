use Rattle.std.proofs.Common.{Ok, Err, Some, ap, sym, subst, ◌∙◌}
use Rattle.std.proofs.lemmas.Result.{err_from_is_err_and}
use Rattle.nt_lex.proofs.CallerLemmas.{only_from}
use Rattle.nt_reader.specs.Line.{LineSays}
use Rattle.nt_reader.proofs.LineLemmas.{line_once}
use Rattle.nt_reader.proofs.line.read_line.Goals as goal

pub returns-in_ok-to_triple-in-Some-clause-only : goal.returns-in_ok-to_triple-in-Some-clause-only
returns-in_ok-to_triple-in-Some-clause-only c answer says =
    let line = c.args.line.now in
    let read = c.in_ok-to_triple-in-Some in
    line_once line (Ok (Some read.field-0)) answer
    (subst (λ said. LineSays line (Ok said)) (c.in-Some.is ∙ ap Some (sym read.ensures)) c.in_ok-triple.ensures) says

pub returns-in_err-triple-clause-only : goal.returns-in_err-triple-clause-only
returns-in_err-triple-clause-only c =
    let p = err_from_is_err_and c.from_residual.result c.from_residual.ensures.1 in
    rw (p.1, p.2) (only_from (LineSays c.args.line.now) (line_once c.args.line.now) (Err c.in_err-triple.field-0.0) c.in_err-triple.ensures)
