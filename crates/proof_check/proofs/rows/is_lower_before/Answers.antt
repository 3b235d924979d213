use Rattle.std.proofs.Common.{arith}
use Rattle.std.proofs.lemmas.Bool.{ltb-true}
use Rattle.proof_check.proofs.FewLemmas.{lower_before}
use Rattle.proof_check.proofs.rows.is_lower_before.Goals as goal

pub returns : goal.returns
returns c = λ h.
    let some = c.if-place-eq0.false in
    let within = c.if-place-rows.false in
    lower_before c.args.rows.now c.args.place c.args.s c.requires (omega arith) (omega arith) (ltb-true _ _ h)
