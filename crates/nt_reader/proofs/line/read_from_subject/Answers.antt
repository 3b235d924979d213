use Rattle.std.proofs.lemmas.Result.{err_from_is_err_and}
use Rattle.nt_reader.proofs.LineAnswers.{subject_stop, subject_so}
use Rattle.nt_reader.proofs.line.read_from_subject.Goals as goal

pub returns : goal.returns
returns c = subject_so c.args.line.now c.in_ok-subject.subject c.args.at c.in_ok-subject.end c.skip_space.result c.in_ok-subject.ensures.so c.skip_space.ensures _ c.read_from_predicate.ensures

pub returns-in_err-subject : goal.returns-in_err-subject
returns-in_err-subject c =
    let p = err_from_is_err_and c.from_residual.result c.from_residual.ensures.1 in
    rw (p.1, p.2) (subject_stop c.args.line.now c.args.at c.in_err-subject.field-0.0 c.in_err-subject.ensures.so)
