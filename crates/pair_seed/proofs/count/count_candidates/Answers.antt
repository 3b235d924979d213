use Rattle.std.proofs.Common.{ℕ, refl, ◌+◌, arith}
use Rattle.std.proofs.lemmas.List.{length-map}
use Rattle.pair_seed.proofs.Bounding.{one_more_below, all_counted}
use Rattle.pair_seed.proofs.InOrder.{of_one, too_many}
use Rattle.pair_seed.proofs.Whole.{exact, no_more}
use Rattle.pair_seed.proofs.count.count_candidates.Goals as goal

pub loop-a-preserved : goal.loop-a-preserved
loop-a-preserved c = record {
  few = omega (arith, c.loop-a.invariant.few, c.if-len-limit.false);
  counted = one_more_below c.args.graph.now c.args.patterns.now c.loop-a.a c.loop-a.count c.len-in-loop-a.result c.partners.new.near.items
      (omega (arith, c.partners.new.near.ok.0, c.len-in-loop-a.ensures)) c.loop-a.invariant.counted c.in_ok-partners.ensures;
}

pub returns-then-len-limit-clause-stop : goal.returns-then-len-limit-clause-stop
returns-then-len-limit-clause-stop c =
    let G = c.args.graph.now in
    let K = c.args.patterns.now in
    let a = c.loop-a.a in
    let near = c.partners.new.near.items in
    let before = c.loop-a.invariant.counted in (
      refl,
      too_many G K 0 a (a + 1) before.0 _ before.2 (of_one G K a near c.in_ok-partners.ensures) c.args.limit
          (omega (arith, c.loop-a.invariant.few, before.1, c.if-len-limit.true, length-map {B = ℕ × ℕ} near (λ (b : ℕ). (c.loop-a.a, b)))),
    )

pub returns-clause-count : goal.returns-clause-count
returns-clause-count c =
    let G = c.args.graph.now in
    let K = c.args.patterns.now in
    let all = c.loop-a.invariant.counted in
    all_counted G K c.loop-a.a c.loop-a.count all (exact G K c.names-a-end.ensures.graph c.all_valid.ensures.facts c.loop-a.a all.0 all.2 (omega (arith, c.names-a-end.ensures.names, c.loop-a-test.false)))

pub returns-clause-no_more : goal.returns-clause-no_more
returns-clause-no_more c =
    let G = c.args.graph.now in
    let K = c.args.patterns.now in
    let all = c.loop-a.invariant.counted in
    no_more G K c.names-a-end.ensures.graph c.all_valid.ensures.facts c.loop-a.a all.0 all.2 (omega (arith, c.names-a-end.ensures.names, c.loop-a-test.false)) c.args.limit (omega (arith, all.1, c.loop-a.invariant.few))
