-- The lists in the order of the plan are those of the pattern under other numbers.
use Rattle.std.proofs.Common.{sym, ◌∙◌, subst, true≢false, arith}
use Rattle.key_valuations.specs.Marks.{IsCompletedBy}
use Rattle.key_valuations.proofs.Moves.{ready, begins, in_order}
use Rattle.key_valuations.proofs.FindLaws.{placed_valuation, placed_marks, placed_first, ordered_begins}
use Rattle.key_valuations.proofs.find.find_valuation.Goals as goal

pub begin-requires-clause-ready : goal.begin-requires-clause-ready
begin-requires-clause-ready c = ready c.args.pattern.now c.args.plan.now c.slots.ensures.facts c.requires

pub begin-requires-clause-begins : goal.begin-requires-clause-begins
begin-requires-clause-begins c = begins c.args.pattern.now c.args.plan.now c.slots.ensures.facts c.requires

pub begin-requires-clause-marks : goal.begin-requires-clause-marks
begin-requires-clause-marks c = let e = c.slots.ensures.facts.few_slots in let n = c.requires.as_many in let l = c.in_ok-marks.ensures.long in omega arith

pub complete-requires-clause-ready : goal.complete-requires-clause-ready
complete-requires-clause-ready c = ready c.args.pattern.now c.args.plan.now c.slots.ensures.facts c.requires

pub complete-requires-clause-marks : goal.complete-requires-clause-marks
complete-requires-clause-marks c = let e = c.slots.ensures.facts.few_slots in let n = c.requires.as_many in let l = c.in_ok-marks.ensures.long in omega arith

pub by_slots-requires-clause-few : goal.by_slots-requires-clause-few
by_slots-requires-clause-few c = let e = c.slots.ensures.facts.few_slots in let n = c.requires.places.as_long in let k = c.requires.order.one_each in omega arith

pub returns-then-not-begin-clause-none : goal.returns-then-not-begin-clause-none
returns-then-not-begin-clause-none c = λ v has.
    let G = c.args.graph.now in
    let Q = c.args.pattern.now in
    let R = c.args.plan.now in
    let marks = c.in_ok-marks.marks in
    let marked = (c.in_ok-marks.ensures.some G v has.valuation).0 (has.values, has.images) in
    let both = ordered_begins G Q R marks c.slots.ensures.facts c.requires v c.args.name has.name has.valuation marked in
    true≢false (sym (c.begin.ensures.exact.1 both.0) ∙ c.if-not-begin.true)

pub returns-then-not-complete-clause-none : goal.returns-then-not-complete-clause-none
returns-then-not-complete-clause-none c = λ v has.
    let G = c.args.graph.now in
    let Q = c.args.pattern.now in
    let R = c.args.plan.now in
    let marks = c.in_ok-marks.marks in
    let marked = (c.in_ok-marks.ensures.some G v has.valuation).0 (has.values, has.images) in
    let both = ordered_begins G Q R marks c.slots.ensures.facts c.requires v c.args.name has.name has.valuation marked in
    c.complete.ensures.none c.if-not-complete.true (in_order R v)
    (subst (λ p. IsCompletedBy G R.shape marks p (in_order R v)) (sym (c.begin.ensures.begun c.if-not-begin.false)) both.1)

pub returns-clause-found : goal.returns-clause-found
returns-clause-found c =
    let G = c.args.graph.now in
    let Q = c.args.pattern.now in
    let R = c.args.plan.now in
    let marks = c.in_ok-marks.marks in
    let facts = c.slots.ensures.facts in
    let done = c.complete.ensures.found c.if-not-complete.false in
    let placed = c.by_slots.ensures in
    let v' = c.complete.new.places in
    let v = c.by_slots.result in
    let valuation = placed_valuation G Q R marks facts c.requires v' v placed done.valuation in
    let marked = placed_marks G Q R marks facts c.requires v' v placed done.valuation done.marked in
    let given = (c.in_ok-marks.ensures.some G v valuation).1 marked in
    record {
      valuation = valuation;
      name = placed_first G Q R marks facts c.requires v' v c.begin.new.places c.args.name placed (c.begin.ensures.begun c.if-not-begin.false) done.begins;
      values = given.0;
      images = given.1;
    }
