use Rattle.std.proofs.lemmas.Result.{err_from_is_err_and}
use Rattle.nt_reader.proofs.LineAnswers.{predicate_stop, predicate_so}
use Rattle.nt_reader.proofs.line.read_from_predicate.Goals as goal

pub returns : goal.returns
returns c =
    predicate_so c.args.line.now c.args.subject c.in_ok-predicate.predicate c.args.at c.in_ok-predicate.end c.skip_space.result c.in_ok-predicate.ensures.so c.skip_space.ensures _ c.read_from_object.ensures

pub returns-in_err-predicate : goal.returns-in_err-predicate
returns-in_err-predicate c =
    let p = err_from_is_err_and c.from_residual.result c.from_residual.ensures.1 in
    rw (p.1, p.2) (predicate_stop c.args.line.now c.args.subject c.args.at c.in_err-predicate.field-0.0 c.in_err-predicate.ensures.so)
