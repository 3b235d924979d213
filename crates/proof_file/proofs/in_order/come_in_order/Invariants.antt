use Rattle.proof_file.specs.InOrder.{ComeInOrder}
use Rattle.proof_file.proofs.OrderLemmas.{FirstSteps}
use Rattle.proof_file.proofs.in_order.come_in_order.Given as goal

abbrev pub invariant-loop-step : goal.invariant-loop-step
invariant-loop-step l = ComeInOrder 0 l.come (FirstSteps l.steps l.step-index)
