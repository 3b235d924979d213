use Rattle.proof_file.specs.InOrder.{ComeInOrder}
use Rattle.proof_file.proofs.OrderLemmas.{FirstOf}
use Rattle.proof_file.proofs.in_order.after_side.Given as goal

abbrev pub invariant-loop-number : goal.invariant-loop-number
invariant-loop-number l = ComeInOrder l.come l.more (FirstOf l.side l.number-index)
