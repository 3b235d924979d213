use Rattle.std.proofs.Common.{◌≡◌, ℕ, ◌-◌, List, length, take, drop, Ok, Err, refl, subst, arith}
use Rattle.std.proofs.lemmas.List.{take_all, length-drop}
use Rattle.std.proofs.lemmas.Result.{err_from_is_err_and}
use Rattle.gk_base.specs.Answers.{IsSo}
use Rattle.key_lang.specs.Seen.{NumberedSays}
use Rattle.key_lang.proofs.KeysLemmas.{rest_good, rest_stop}
use Rattle.key_lang.proofs.file.see_rest.Goals as goal

rest_is : (bytes : List ℕ) (from : ℕ) → take (length bytes - from) (drop from bytes) ≡ drop from bytes
rest_is bytes from = take_all (length bytes - from) (drop from bytes) (omega (arith, length-drop from bytes))

pub returns : goal.returns
returns c =
    let bytes = c.args.bytes.now in
    let seen = c.args.seen in
    rest_good bytes seen _ c.requires (omega (arith, c.if-seen-bytes.false))
    (subst (λ (l : List ℕ). IsSo (NumberedSays seen.state l seen.number) (Ok c.in_ok-state.state)) (rest_is bytes seen.from) c.in_ok-state.ensures) refl

pub returns-in_err-state : goal.returns-in_err-state
returns-in_err-state c =
    let bytes = c.args.bytes.now in
    let seen = c.args.seen in
    let p = err_from_is_err_and c.from_residual.result c.from_residual.ensures.1 in
    rw (p.1, p.2)
    (rest_stop bytes seen c.in_err-state.field-0.0 c.requires (omega (arith, c.if-seen-bytes.false))
    (subst (λ (l : List ℕ). IsSo (NumberedSays seen.state l seen.number) (Err c.in_err-state.field-0.0)) (rest_is bytes seen.from) c.in_err-state.ensures))
