-- The lists in the order of the plan are those of the pattern under other numbers.
use Rattle.paired_search.proofs.Moves.{match_there, match_back, ready, begins}
use Rattle.paired_search.proofs.all_keys.search_key.Goals as goal

pub search_placed-requires-clause-ready : goal.search_placed-requires-clause-ready
search_placed-requires-clause-ready g c = ready c.args.pattern.now c.args.plan.now c.slots.ensures.facts c.requires.plan

pub search_placed-requires-clause-begins : goal.search_placed-requires-clause-begins
search_placed-requires-clause-begins g c = begins c.args.pattern.now c.args.plan.now c.slots.ensures.facts c.requires.plan

pub returns-clause-none : goal.returns-clause-none
returns-clause-none g c = λ v w x.
    let back = match_back c.args.graph.now c.args.pattern.now c.args.plan.now (g.S.Sameness.are_same c.args.view.now) c.args.a c.args.b v w c.slots.ensures.facts c.requires.plan x in
    c.search_placed.ensures.none c.if-search_placed.false back.0 back.1 back.2

pub returns-then-search_placed-clause-found : goal.returns-then-search_placed-clause-found
returns-then-search_placed-clause-found g c =
    match_there c.args.graph.now c.args.pattern.now c.args.plan.now (g.S.Sameness.are_same c.args.view.now) c.args.a c.args.b c.search_placed.new.left c.search_placed.new.right c.by_slots.result c.by_slots-then-search_placed.result c.slots.ensures.facts c.requires.plan c.by_slots.ensures c.by_slots-then-search_placed.ensures (c.search_placed.ensures.found c.if-search_placed.true)
