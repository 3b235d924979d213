use Rattle.std.proofs.Common.{eqb-true, sym, subst}
use Rattle.proof_file.specs.InOrder.{ComeInOrder}
use Rattle.proof_file.proofs.OrderLemmas.{FirstSteps, step_comes, all_come}
use Rattle.proof_file.proofs.in_order.come_in_order.Goals as goal

pub loop-step-preserved : goal.loop-step-preserved
loop-step-preserved c =
    step_comes 0 c.loop-step.come c.in-Some.more c.args.steps.now c.loop-step.step-index c.step-item.result c.loop-step.invariant c.in-Some.ensures c.loop-step-test.true (sym c.step-item.is)

pub returns : goal.returns
returns c = λ same terms distinct are.
    all_come c.args.count c.args.steps.now c.loop-step.step-index terms
    (subst (λ n. ComeInOrder 0 n (FirstSteps c.args.steps.now c.loop-step.step-index)) (eqb-true c.loop-step.come c.args.count same) c.loop-step.invariant) c.loop-step-test.false distinct are
