use Rattle.std.proofs.lemmas.Result.{IfOk-weaker}
use Rattle.proof_check.proofs.checker.check_rows.Goals as goal

pub returns : goal.returns
returns c = IfOk-weaker c.check.result _ _ (λ v is triples g. is triples (c.in_ok-new.ensures triples g)) c.check.ensures
