use Rattle.std.proofs.Common.{◌<◌, take_all, subst, arith}
use Rattle.pair_seed.specs.Bounds.{AreAtMost, IsLedTo}
use Rattle.pair_seed.specs.Gathered.{HoldsOneOf}
use Rattle.pair_seed.proofs.Bounding.{literal_more, other_at_most}
use Rattle.pair_seed.proofs.bound.above_by_lead.Goals as goal

pub loop-l-preserved : goal.loop-l-preserved
loop-l-preserved c = record {
  few = omega (arith, c.loop-l.invariant.few, c.if-more-room.false);
  most = literal_more c.args.graph.now c.args.lead.folded c.args.lead.pred c.args.a c.outgoing-l-items.result.now c.loop-l.l-index c.loop-l.all c.above_by_literal-more.result
      c.loop-l-test.true c.loop-l.invariant.most c.above_by_literal-more.ensures;
}

pub returns : goal.returns
returns c =
    let G = c.args.graph.now in
    let f = c.args.lead.folded in
    let p = c.args.lead.pred in
    let a = c.args.a in
    let ls = c.outgoing-l-items.result.now in (
      c.loop-l.invariant.few,
      other_at_most (λ b. (a < b) × HoldsOneOf G f p ls b) (λ b. (a < b) × IsLedTo G f a p b) c.loop-l.all
          (subst (λ xs. AreAtMost (λ b. (a < b) × HoldsOneOf G f p xs b) c.loop-l.all) (take_all c.loop-l.l-index ls c.loop-l-test.false) c.loop-l.invariant.most)
          (λ b h. (h.0, (h.1.0, (c.outgoing-l-items.ensures.exact h.1.0).1 h.1.2, h.1.1, h.1.3))),
    )
