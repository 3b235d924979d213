-- All that begin with the list have the parts of the one that was found.
use Rattle.key_valuations.specs.Listing.{IsReached}
use Rattle.key_valuations.proofs.Moves.{ready}
use Rattle.key_valuations.proofs.FindLaws.{placed_valuation}
use Rattle.key_valuations.proofs.ListingLaws.{adds_none, adds_one, same_parts}
use Rattle.key_valuations.proofs.extend_all.add_completion.Goals as goal

pub complete-requires-clause-ready : goal.complete-requires-clause-ready
complete-requires-clause-ready c = ready c.args.pattern.now c.args.plan.now c.slots.ensures.facts c.requires.plan

pub add_row-requires-clause-valuation : goal.add_row-requires-clause-valuation
add_row-requires-clause-valuation c =
    let done = c.complete.ensures.found c.if-not-complete.false in
    placed_valuation c.args.graph.now c.args.pattern.now c.args.plan.now c.args.marks.now c.slots.ensures.facts c.requires.plan _ _ c.by_slots-valuation.ensures done.valuation

pub returns-then-not-complete : goal.returns-then-not-complete
returns-then-not-complete c = adds_none c.args.graph.now c.args.pattern.now (IsReached c.args.graph.now c.args.plan.now c.args.marks.now c.args.places.now) c.args.rows.now
    (λ v r. c.complete.ensures.none c.if-not-complete.true r.ordered r.completed)

pub returns : goal.returns
returns c =
    let G = c.args.graph.now in
    let Q = c.args.pattern.now in
    let R = c.args.plan.now in
    let marks = c.args.marks.now in
    let p = c.args.places.now in
    let w = c.by_slots-valuation.result in
    let reached : IsReached G R marks p w = record {
      ordered = c.complete.new.places;
      placed = c.by_slots-valuation.ensures;
      completed = c.complete.ensures.found c.if-not-complete.false;
    } in
    adds_one G Q (IsReached G R marks p) c.args.rows.now c.add_row.new.rows w c.in_ok-add_row.ensures reached
    (λ v r. same_parts G Q R marks c.slots.ensures.facts c.requires.plan p v w c.requires.bare c.requires.begun r reached c.args.rows.now.key)
