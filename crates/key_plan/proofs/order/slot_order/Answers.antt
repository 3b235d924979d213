-- One slot more, until all are there.
use Rattle.std.proofs.Common.{◌≡◌, ◌∙◌, ◌++◌, [], ◌∷◌, List, Bool, true, Some, ℕ, length, sym, ap, subst, arith}
use Rattle.std.proofs.Math.ListN.{set}
use Rattle.std.proofs.lemmas.Option.{slice_get_within}
use Rattle.chase_laws.specs.declared.pattern.Slot.TheVariants.{Entity}
use Rattle.key_plan.specs.Making.{IsBegun, IsFirstBelow}
use Rattle.key_plan.proofs.Ordered.{begun_first, begun_more, not_all_marked, order_of, listing_of}
use Rattle.key_plan.proofs.order.slot_order.Goals as goal

pub loop-marks-init : goal.loop-marks-init
loop-marks-init c =
    let Q = c.args.pattern.now in
    let facts = c.slots-count.ensures.facts in
    let items : c.push.new.self.items ≡ 0 ∷ [] = c.in_ok-push.ensures.items ∙ ap (λ (xs : List ℕ). xs ++ 0 ∷ []) c.in_ok-order.ensures.items in
    subst (IsBegun Q c.in_ok-marks.marks.items) (sym items) (begun_first Q c.in_ok-marks.marks.items c.in_ok-marks.ensures (slice_get_within Q.slots 0 (Entity facts.first.0) facts.first.1))

pub next_slot-slot-requires-clause-left : goal.next_slot-slot-requires-clause-left
next_slot-slot-requires-clause-left c =
    let Q = c.args.pattern.now in
    let begun : IsBegun Q c.deref.result.now c.loop-marks.order.items = subst (λ (ms : List Bool). IsBegun Q ms c.loop-marks.order.items) (sym c.deref.ensures.value) c.loop-marks.invariant in
    not_all_marked Q c.deref.result.now c.loop-marks.order.items begun (omega (arith, ap length c.slots-count.ensures.slots, c.len.ensures, c.loop-marks-test.true))

pub loop-marks-preserved : goal.loop-marks-preserved
loop-marks-preserved c =
    let Q = c.args.pattern.now in
    let ms = c.loop-marks.marks.items in
    let next = subst (λ (xs : List Bool). IsFirstBelow Q xs (length Q.slots) (Some c.next_slot-slot.result)) c.deref.ensures.value c.next_slot-slot.ensures in
    subst (IsBegun Q (set ms c.next_slot-slot.result true)) (sym c.in_ok-push-2.ensures.items) (begun_more Q ms c.loop-marks.order.items c.loop-marks.invariant c.next_slot-slot.result next)

pub returns-clause-order : goal.returns-clause-order
returns-clause-order c =
    let Q = c.args.pattern.now in
    order_of Q c.loop-marks.marks.items c.loop-marks.order.items c.loop-marks.invariant c.slots-count.ensures.facts (omega (arith, ap length c.slots-count.ensures.slots, c.len.ensures, c.loop-marks-test.false))

pub returns-clause-listing : goal.returns-clause-listing
returns-clause-listing c =
    let Q = c.args.pattern.now in
    listing_of Q c.loop-marks.marks.items c.loop-marks.order.items c.loop-marks.invariant c.slots-count.ensures.facts (omega (arith, ap length c.slots-count.ensures.slots, c.len.ensures, c.loop-marks-test.false))
