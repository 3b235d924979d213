use Rattle.std.proofs.Common.{Err, subst}
use Rattle.std.proofs.lemmas.Result.{err_from_is_err_and}
use Rattle.gk_base.specs.Answers.{IsSo}
use Rattle.gk_base.specs.declared.stop.Stop.TheVariants.{Fault}
use Rattle.key_lang.specs.declared.fault.KeyFault.TheVariants.{UnknownStatement}
use Rattle.key_lang.specs.Answers.{Is}
use Rattle.key_lang.specs.OpenKey.{declare}
use Rattle.key_lang.proofs.AnswerLemmas.{then_stop, then_so, close_so, open_so}
use Rattle.key_lang.proofs.declarations.typed_statement.Goals as goal

pub returns-in_err-name : goal.returns-in_err-name
returns-in_err-name c =
    let p = err_from_is_err_and c.from_residual.result c.from_residual.ensures.1 in
    rw (p.1, p.2) (then_stop _ _ c.in_err-name.field-0.0 c.in_err-name.ensures.so)

pub returns-in_err-kind : goal.returns-in_err-kind
returns-in_err-kind c =
    let p = err_from_is_err_and c.from_residual-in_err-kind.result c.from_residual-in_err-kind.ensures.1 in
    rw (p.1, p.2) (then_so _ _ (c.in_ok-name.name, c.in_ok-name.end) (Err c.in_err-kind.field-0.0) c.in_ok-name.ensures.so (then_stop _ _ c.in_err-kind.field-0.0 c.in_err-kind.ensures.so))

pub returns-then-not-closes : goal.returns-then-not-closes
returns-then-not-closes c =
    then_so _ _ (c.in_ok-name.name, c.in_ok-name.end) (Err (Fault UnknownStatement)) c.in_ok-name.ensures.so (then_so _ _ (c.in_ok-kind.kind, c.in_ok-kind.end) (Err (Fault UnknownStatement)) c.in_ok-kind.ensures.so
    (open_so _ _ _ c.closes.result c.closes.ensures c.if-not-closes.true))

pub returns : goal.returns
returns c =
    then_so _ _ (c.in_ok-name.name, c.in_ok-name.end) c.declare.result c.in_ok-name.ensures.so (then_so _ _ (c.in_ok-kind.kind, c.in_ok-kind.end) c.declare.result c.in_ok-kind.ensures.so
    (close_so _ _ _ c.declare.result c.closes.result c.closes.ensures c.if-not-closes.false
    (subst (λ slot. IsSo (Is (declare c.args.key slot)) c.declare.result) c.typed_slot.ensures c.declare.ensures)))
