use Rattle.std.proofs.Common.{get_or, sym, ◌∙◌, subst, take_all, true≢false, Contains}
use Rattle.std.proofs.lemmas.List.Elements.{Contains-get_or}
use Rattle.pair_seed.specs.Gathered.{Gathered}
use Rattle.pair_seed.proofs.Steps.{gathered_push, gathered_skip}
use Rattle.pair_seed.proofs.gather.gather.Goals as goal
use Rattle.pair_seed.proofs.gather.gather.Goals.{then-pairs_with+in_ok-push, else-pairs_with}

pub loop-b-preserved : goal.loop-b-preserved
loop-b-preserved c =
    let bs = c.args.bs.now in
    let i = c.loop-b.b-index in
    elim c.if-pairs_with.branch [
      | then-pairs_with+in_ok-push w ↦
          rw w.near-is (gathered_push c.args.graph.now c.args.pattern.now c.args.a c.args.near.now.items bs c.loop-b.near.items _ i c.loop-b-test.true c.loop-b.invariant
          (c.requires.above (get_or bs i 0) (Contains-get_or bs i 0 c.loop-b-test.true)) (c.pairs_with.ensures.0 w.if-pairs_with.true) w.in_ok-push.ensures.items)
      | else-pairs_with w ↦
          rw w.near-is (gathered_skip c.args.graph.now c.args.pattern.now c.args.a c.args.near.now.items bs c.loop-b.near.items i c.loop-b-test.true c.loop-b.invariant (λ paired. true≢false (sym (c.pairs_with.ensures.1 paired) ∙ w.if-pairs_with.false)))
    ]

pub returns : goal.returns
returns c = subst (λ xs. Gathered c.args.graph.now c.args.pattern.now c.args.a c.args.near.now.items c.loop-b.near.items (λ b. Contains xs b)) (take_all c.loop-b.b-index c.args.bs.now c.loop-b-test.false) c.loop-b.invariant
