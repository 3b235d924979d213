use Rattle.std.proofs.Common.{List, Ok, Err, None, ap}
use Rattle.std.proofs.lemmas.Result.{err_from_is_err_and}
use Rattle.key_file.specs.KeyShape.{KeyShape}
use Rattle.key_lang.specs.Answers.{Is, goes_on, stops}
use Rattle.key_lang.specs.OpenKey.{finish, KeyState}
use Rattle.key_lang.proofs.AnswerLemmas.{then_stop, close_so, open_so}
use Rattle.key_lang.proofs.endings.end_statement.Goals as goal

pub returns-then-not-closes : goal.returns-then-not-closes
returns-then-not-closes c = stops (open_so c.args.line.now c.args.at (Is (finish c.args.key)) c.closes.result c.closes.ensures c.if-not-closes.true)

pub returns : goal.returns
returns c =
    goes_on {x = c.in_ok-whole.whole} (close_so c.args.line.now c.args.at (Is (finish c.args.key)) (Ok c.in_ok-whole.whole) c.closes.result c.closes.ensures c.if-not-closes.false c.in_ok-whole.ensures)
    (ap (λ (keys : List KeyShape). let s : KeyState = record { keys = keys; current = None } in Ok s) c.in_ok-push.ensures.ok)

pub returns-in_err-whole : goal.returns-in_err-whole
returns-in_err-whole c =
    let p = err_from_is_err_and c.from_residual.result c.from_residual.ensures.1 in
    rw (p.1, p.2) (then_stop _ _ c.in_err-whole.field-0.0 (close_so c.args.line.now c.args.at (Is (finish c.args.key)) (Err c.in_err-whole.field-0.0) c.closes.result c.closes.ensures c.if-not-closes.false c.in_err-whole.ensures))
