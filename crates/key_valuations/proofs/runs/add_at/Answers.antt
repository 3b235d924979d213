-- The lists that begin with the name, in the order of the plan and by slots.
use Rattle.std.proofs.Common.{[], ◌∷◌, List, ℕ, sym, ◌∙◌, subst, true≢false}
use Rattle.key_valuations.specs.Listing.{IsReached, IsAt, AddsParts}
use Rattle.key_valuations.proofs.Moves.{ready, begins, in_order}
use Rattle.key_valuations.proofs.FindLaws.{placed_valuation, ordered_begins, ordered_placed}
use Rattle.key_valuations.proofs.ListingLaws.{some_none, some_of_all}
use Rattle.key_valuations.proofs.runs.add_at.Goals as goal

pub begin-requires-clause-ready : goal.begin-requires-clause-ready
begin-requires-clause-ready c = ready c.args.pattern.now c.args.plan.now c.slots.ensures.facts c.requires.plan

pub begin-requires-clause-begins : goal.begin-requires-clause-begins
begin-requires-clause-begins c = begins c.args.pattern.now c.args.plan.now c.slots.ensures.facts c.requires.plan

pub returns-then-not-begin : goal.returns-then-not-begin
returns-then-not-begin c =
    let G = c.args.graph.now in
    let Q = c.args.pattern.now in
    let R = c.args.plan.now in
    let marks = c.args.marks.now in
    some_none G Q (IsAt G Q R.place marks c.args.name) c.args.rows.now (λ v at.
    let both = ordered_begins G Q R marks c.slots.ensures.facts c.requires.plan v c.args.name at.name at.valuation at.marked in
    true≢false (sym (c.begin.ensures.exact.1 both.0) ∙ c.if-not-begin.true))

pub returns : goal.returns
returns c =
    let G = c.args.graph.now in
    let Q = c.args.pattern.now in
    let R = c.args.plan.now in
    let marks = c.args.marks.now in
    let facts = c.slots.ensures.facts in
    let added = subst (λ (p : List ℕ). AddsParts G Q (IsReached G R marks p) c.args.rows.now c.extend_all.new.rows) (c.begin.ensures.begun c.if-not-begin.false) c.in_ok-extend_all.ensures.added in
    some_of_all G Q (IsReached G R marks (c.args.name ∷ [])) (IsAt G Q R.place marks c.args.name) c.args.rows.now c.extend_all.new.rows added
    (λ v r. placed_valuation G Q R marks facts c.requires.plan r.ordered v r.placed r.completed.valuation)
    (λ v at. record {
      ordered = in_order R v;
      placed = ordered_placed G Q R marks facts c.requires.plan v at.valuation;
      completed = (ordered_begins G Q R marks facts c.requires.plan v c.args.name at.name at.valuation at.marked).1;
    })
