use Rattle.std.proofs.lemmas.Result.{err_from_is_err_and}
use Rattle.nt_reader.specs.Line.{no_end, whole}
use Rattle.nt_reader.proofs.LineAnswers.{object_stop}
use Rattle.nt_reader.proofs.line.read_from_object.Goals as goal

pub returns-in-None : goal.returns-in-None
returns-in-None c = whole c.in_ok-object.ensures.so c.skip_space.ensures c.in-None.ensures

pub returns : goal.returns
returns c = no_end c.in_ok-object.ensures.so c.skip_space.ensures c.in-Some.ensures

pub returns-in_err-object : goal.returns-in_err-object
returns-in_err-object c =
    let p = err_from_is_err_and c.from_residual.result c.from_residual.ensures.1 in
    rw (p.1, p.2) (object_stop c.args.line.now c.args.subject c.args.predicate c.args.at c.in_err-object.field-0.0 c.in_err-object.ensures.so)
