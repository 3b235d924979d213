use Rattle.std.proofs.Common.{get_or, take, take_all}
use Rattle.std.proofs.lemmas.List.Elements.{Contains-get_or}
use Rattle.pair_seed.specs.Gathered.{HoldsOneOf}
use Rattle.pair_seed.proofs.Keys.{lead_reaches}
use Rattle.pair_seed.proofs.Steps.{gathered_literal, gathered_by}
use Rattle.pair_seed.proofs.gather.gather_lead.Goals as goal

pub gather_literal-requires-clause-row : goal.gather_literal-requires-clause-row
gather_literal-requires-clause-row c =
    let ls = c.outgoing-l-items.result.now in
    (c.outgoing-l-items.ensures.exact (get_or ls c.loop-l.l-index 0)).0 (Contains-get_or ls c.loop-l.l-index 0 c.loop-l-test.true)

pub loop-l-preserved : goal.loop-l-preserved
loop-l-preserved c = gathered_literal c.args.graph.now c.args.pattern.now c.args.a c.args.near.now.items c.args.lead.folded c.args.lead.pred c.outgoing-l-items.result.now c.loop-l.near.items _ c.loop-l.l-index c.loop-l-test.true c.loop-l.invariant c.in_ok-gather_literal.ensures

pub returns : goal.returns
returns c =
    let ls = c.outgoing-l-items.result.now in
    gathered_by c.args.graph.now c.args.pattern.now c.args.a c.args.near.now.items c.loop-l.near.items (HoldsOneOf c.args.graph.now c.args.lead.folded c.args.lead.pred (take c.loop-l.l-index ls)) _ c.loop-l.invariant
    (λ b mark above paired. rw (take_all c.loop-l.l-index ls c.loop-l-test.false) (lead_reaches c.args.graph.now c.args.pattern.now c.args.lead c.requires.lead c.args.a b paired ls c.outgoing-l-items.ensures.exact))
