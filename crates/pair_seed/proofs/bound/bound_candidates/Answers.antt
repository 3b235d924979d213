use Rattle.std.proofs.Common.{arith}
use Rattle.pair_seed.proofs.Bounding.{more_below, no_more_than}
use Rattle.pair_seed.proofs.Whole.{candidate_named}
use Rattle.pair_seed.proofs.bound.bound_candidates.Goals as goal

pub loop-a-preserved : goal.loop-a-preserved
loop-a-preserved c =
    let more = c.in-Some.ensures in
    record {
      few = omega (arith, c.loop-a.invariant.few, more.0);
      most = more_below c.args.graph.now c.args.patterns.now c.loop-a.a c.loop-a.all c.in-Some.more c.loop-a.invariant.most more.1;
    }

pub returns : goal.returns
returns c =
    let G = c.args.graph.now in
    let K = c.args.patterns.now in (
      c.loop-a.invariant.few,
      no_more_than G K c.loop-a.a c.loop-a.all c.loop-a.invariant.most
          (λ a b x. let lt = (candidate_named G K c.names-a-end.ensures.graph c.all_valid.ensures.facts a b x).0 in omega (arith, lt, c.loop-a-test.false, c.names-a-end.ensures.names)),
    )
