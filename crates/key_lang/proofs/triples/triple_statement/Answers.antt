use Rattle.std.proofs.Common.{Err}
use Rattle.std.proofs.lemmas.Result.{err_from_is_err_and}
use Rattle.gk_base.specs.declared.stop.Stop.TheVariants.{Fault}
use Rattle.key_lang.specs.declared.fault.KeyFault.TheVariants.{UnknownStatement}
use Rattle.key_lang.proofs.AnswerLemmas.{then_stop, then_so, close_so, open_so}
use Rattle.key_lang.proofs.triples.triple_statement.Goals as goal

pub returns-in_err-from : goal.returns-in_err-from
returns-in_err-from c =
    let p = err_from_is_err_and c.from_residual.result c.from_residual.ensures.1 in
    rw (p.1, p.2) (then_stop _ _ c.in_err-from.field-0.0 c.in_err-from.ensures.so)

pub returns-in_err-pred : goal.returns-in_err-pred
returns-in_err-pred c =
    let p = err_from_is_err_and c.from_residual-in_err-pred.result c.from_residual-in_err-pred.ensures.1 in
    rw (p.1, p.2) (then_so _ _ (c.in_ok-from.from, c.in_ok-from.end) (Err c.in_err-pred.field-0.0) c.in_ok-from.ensures.so (then_stop _ _ c.in_err-pred.field-0.0 c.in_err-pred.ensures.so))

pub returns-in_err-object : goal.returns-in_err-object
returns-in_err-object c =
    let p = err_from_is_err_and c.from_residual-in_err-object.result c.from_residual-in_err-object.ensures.1 in
    rw (p.1, p.2) (then_so _ _ (c.in_ok-from.from, c.in_ok-from.end) (Err c.in_err-object.field-0.0) c.in_ok-from.ensures.so (then_so _ _ (c.in_ok-pred.pred, c.in_ok-pred.end) (Err c.in_err-object.field-0.0) c.in_ok-pred.ensures.so
    (then_stop _ _ c.in_err-object.field-0.0 c.in_err-object.ensures.so)))

pub returns-then-not-closes : goal.returns-then-not-closes
returns-then-not-closes c =
    then_so _ _ (c.in_ok-from.from, c.in_ok-from.end) (Err (Fault UnknownStatement)) c.in_ok-from.ensures.so (then_so _ _ (c.in_ok-pred.pred, c.in_ok-pred.end) (Err (Fault UnknownStatement)) c.in_ok-pred.ensures.so
    (then_so _ _ (c.in_ok-object.object, c.in_ok-object.end) (Err (Fault UnknownStatement)) c.in_ok-object.ensures.so
    (open_so _ _ _ c.closes.result c.closes.ensures c.if-not-closes.true)))

pub returns : goal.returns
returns c =
    then_so _ _ (c.in_ok-from.from, c.in_ok-from.end) c.link.result c.in_ok-from.ensures.so (then_so _ _ (c.in_ok-pred.pred, c.in_ok-pred.end) c.link.result c.in_ok-pred.ensures.so
    (then_so _ _ (c.in_ok-object.object, c.in_ok-object.end) c.link.result c.in_ok-object.ensures.so
    (close_so _ _ _ c.link.result c.closes.result c.closes.ensures c.if-not-closes.false c.link.ensures)))
