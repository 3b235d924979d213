use Rattle.std.proofs.Common.{◌+◌, inl, inr, sym, subst}
use Rattle.proof_file.specs.InOrder.{ComeInOrder}
use Rattle.proof_file.proofs.OrderLemmas.{FirstOf, known_comes, new_comes, side_comes}
use Rattle.proof_file.proofs.in_order.after_side.Goals as goal

pub loop-number-preserved : goal.loop-number-preserved
loop-number-preserved c =
    let side = c.args.side.now in
    let i = c.loop-number.number-index in
    let before = c.loop-number.invariant in
    elim c.in-Some.ensures [
      | inl old ↦ subst (λ m. ComeInOrder c.args.come m (FirstOf side (i + 1))) (sym old.1) (known_comes c.args.come c.loop-number.more side i before c.loop-number-test.true old.0)
      | inr new ↦ subst (λ m. ComeInOrder c.args.come m (FirstOf side (i + 1))) (sym new.1) (new_comes c.args.come c.loop-number.more side i before c.loop-number-test.true new.0)
    ]

pub returns : goal.returns
returns c = side_comes c.args.come c.loop-number.more c.args.side.now c.loop-number.number-index c.loop-number.invariant c.loop-number-test.false
