-- One slot after another.
use Rattle.std.proofs.Common.{ℕ, set, ◌≡◌, ◌≢◌, ◌<◌, ◌+◌, length, slice_index, sym, ◌∙◌, ap, subst, arith}
use Rattle.std.proofs.lemmas.Bool.{eqb-true, eqb-false}
use Rattle.key_plan.specs.Route.{Route, IsPlanOf}
use Rattle.chase_laws.specs.Shape.{Shape}
use Rattle.key_valuations.proofs.MarkLaws.{AreMarksTo, marks_more, marks_done, none_left, used_up}
use Rattle.key_valuations.proofs.marks.marks_of.Goals as goal

-- no two slots have one place
apart : (Q : Shape) (R : Route) → IsPlanOf Q R → (s t : ℕ) → s < length Q.slots → t < s → slice_index R.place t ≢ slice_index R.place s
apart Q R plan s t in_s lt e =
    let n = plan.order.one_each in
    let x : t ≡ s = sym (plan.places.slot_at t (omega arith)) ∙ ap (slice_index R.order) e ∙ plan.places.slot_at s (omega arith) in
    absurd (omega arith)

pub loop-s-preserved : goal.loop-s-preserved
loop-s-preserved c =
    let Q = c.args.pattern.now in
    let R = c.args.plan.now in
    let s = c.loop-s.s in
    let next = c.in-Some.next in
    let in_s : s < length Q.slots = omega (arith, ap length c.slots-count.ensures.slots) in
    let n = c.requires.order.one_each in
    let within : slice_index R.place s < 16 = omega (arith, c.requires.places.within s (omega arith), c.slots-count.ensures.facts.few_slots) in
    subst (λ (k : ℕ). AreMarksTo Q R.place c.args.values.now c.args.images.now (set c.loop-s.marks k next.mark) (s + 1) next.values.now next.images.now) (sym c.place.ensures)
    (marks_more Q R.place c.args.values.now c.args.images.now c.loop-s.marks s c.loop-s.values_left.now c.loop-s.images_left.now c.loop-s.invariant
    c.slot_at-slot.result c.slot_at-slot.ensures next.mark next.values.now next.images.now c.in-Some.ensures.some (λ t lt. apart Q R c.requires s t in_s lt) within)

pub returns-in_default-clause-none : goal.returns-in_default-clause-none
returns-in_default-clause-none c = λ G v has.
    let Q = c.args.pattern.now in
    let in_s : c.loop-s.s < length Q.slots = omega (arith, ap length c.slots-count.ensures.slots) in
    used_up Q c.args.plan.now.place c.args.values.now c.args.images.now c.loop-s.marks c.loop-s.s c.loop-s.values_left.now c.loop-s.images_left.now c.loop-s.invariant
    c.slot_at-slot.result c.slot_at-slot.ensures c.in_default.ensures.none in_s G v has

pub returns-then-not-is_empty-clause-none : goal.returns-then-not-is_empty-clause-none
returns-then-not-is_empty-clause-none c = λ G v has.
    let Q = c.args.pattern.now in
    let all : c.loop-s.s ≡ length Q.slots = omega (arith, ap length c.slots-count.ensures.slots) in
    let none = none_left Q c.args.plan.now.place c.args.values.now c.args.images.now c.loop-s.marks c.loop-s.s c.loop-s.values_left.now c.loop-s.images_left.now all c.loop-s.invariant G v has in
    eqb-false _ _ (sym c.is_empty.ensures ∙ c.if-not-is_empty.true) none.0

pub returns-then-not-is_empty-2-clause-none : goal.returns-then-not-is_empty-2-clause-none
returns-then-not-is_empty-2-clause-none c = λ G v has.
    let Q = c.args.pattern.now in
    let all : c.loop-s.s ≡ length Q.slots = omega (arith, ap length c.slots-count.ensures.slots) in
    let none = none_left Q c.args.plan.now.place c.args.values.now c.args.images.now c.loop-s.marks c.loop-s.s c.loop-s.values_left.now c.loop-s.images_left.now all c.loop-s.invariant G v has in
    eqb-false _ _ (sym c.is_empty-2.ensures ∙ c.if-not-is_empty-2.true) none.1

pub returns-clause-some : goal.returns-clause-some
returns-clause-some c =
    let Q = c.args.pattern.now in
    let all : c.loop-s.s ≡ length Q.slots = omega (arith, ap length c.slots-count.ensures.slots) in
    marks_done Q c.args.plan.now.place c.args.values.now c.args.images.now c.loop-s.marks c.loop-s.s c.loop-s.values_left.now c.loop-s.images_left.now all
    (eqb-true _ _ (sym c.is_empty.ensures ∙ c.if-not-is_empty.false)) (eqb-true _ _ (sym c.is_empty-2.ensures ∙ c.if-not-is_empty-2.false)) c.loop-s.invariant
