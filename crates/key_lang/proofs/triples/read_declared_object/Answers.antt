use Rattle.std.proofs.Common.{refl}
use Rattle.std.proofs.lemmas.Result.{err_from_is_err_and}
use Rattle.key_lang.specs.Answers.{goes_on}
use Rattle.key_lang.proofs.AnswerLemmas.{then_stop}
use Rattle.key_lang.proofs.triples.read_declared_object.Goals as goal

pub returns-clause-so : goal.returns-clause-so
returns-clause-so c = goes_on c.in_ok-place.ensures.so refl

pub returns-in_err-place-clause-so : goal.returns-in_err-place-clause-so
returns-in_err-place-clause-so c =
    let p = err_from_is_err_and c.from_residual.result c.from_residual.ensures.1 in
    rw (p.1, p.2) (then_stop _ _ c.in_err-place.field-0.0 c.in_err-place.ensures.so)
