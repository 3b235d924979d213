use Rattle.std.proofs.Common.{◌<◌, All, length, subst, sym}
use Rattle.proof_file.specs.Steps.{IsNumberedBelow}
use Rattle.proof_check.proofs.ListFacts.{places_below}
use Rattle.proof_check.proofs.checking.judge_all.Goals as goal

pub fill-requires : goal.fill-requires
fill-requires c = subst (IsNumberedBelow (length c.args.numbers.now)) (sym c.step-item.is) (c.requires.inside c.loop-step.step-index c.step-item.result c.loop-step-test.true)

pub judge-requires-clause-left : goal.judge-requires-clause-left
judge-requires-clause-left c =
    let step = subst (IsNumberedBelow (length c.args.numbers.now)) (sym c.step-item.is) (c.requires.inside c.loop-step.step-index c.step-item.result c.loop-step-test.true) in
    subst (All (λ n. n < length c.args.checker.now.names)) (sym c.in_ok-fill.ensures.left) (places_below c.args.numbers.now c.step-item.result.left (length c.args.checker.now.names) c.requires.named step.0)

pub judge-requires-clause-right : goal.judge-requires-clause-right
judge-requires-clause-right c =
    let step = subst (IsNumberedBelow (length c.args.numbers.now)) (sym c.step-item.is) (c.requires.inside c.loop-step.step-index c.step-item.result c.loop-step-test.true) in
    subst (All (λ n. n < length c.args.checker.now.names)) (sym c.in_ok-fill.ensures.right) (places_below c.args.numbers.now c.step-item.result.right (length c.args.checker.now.names) c.requires.named step.1)
