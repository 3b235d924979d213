-- One leading slot after another.
use Rattle.std.proofs.Common.{List, ℕ, Some, set, get_or, length, slice_index, ◌<◌, sym, ◌∙◌, ap, subst, arith}
use Rattle.std.proofs.Math.ListN.{length-set}
use Rattle.std.proofs.lemmas.Option.{slice_get_within}
use Rattle.chase_laws.proofs.CallerLemmas.{All-at}
use Rattle.key_valuations.specs.Marks.{AreMarkedBySlots}
use Rattle.key_valuations.specs.Leading.{IsLeading}
use Rattle.key_valuations.proofs.LeadingLaws.{marks_led, leading_is}
use Rattle.key_valuations.proofs.leading.leading_marks.Goals as goal

pub place-place-requires : goal.place-place-requires
place-place-requires c =
    let is = All-at (IsLeading c.args.pattern.now) c.args.leading.now c.loop-at.at c.lead_at-lead.result c.requires.leading c.lead_at-lead.ensures in
    let n = c.requires.plan.order.one_each in
    omega (arith, slice_get_within c.args.pattern.now.slots c.lead_at-lead.result.slot _ is.kind, c.requires.plan.places.as_long)

pub bounds-marks-place : goal.bounds-marks-place
bounds-marks-place c =
    let is = All-at (IsLeading c.args.pattern.now) c.args.leading.now c.loop-at.at c.lead_at-lead.result c.requires.leading c.lead_at-lead.ensures in
    let n = c.requires.plan.order.one_each in
    let in_slots = slice_get_within c.args.pattern.now.slots c.lead_at-lead.result.slot _ is.kind in
    omega (arith, c.place-place.ensures, c.requires.plan.places.within c.lead_at-lead.result.slot (omega arith), c.slots.ensures.facts.few_slots, c.loop-at.invariant.long)

pub loop-at-preserved : goal.loop-at-preserved
loop-at-preserved c =
    let Q = c.args.pattern.now in
    let R = c.args.plan.now in
    let leading = c.args.leading.now in
    let values = c.args.values.now in
    let at = c.loop-at.at in
    let lead = c.lead_at-lead.result in
    let marks = c.loop-at.marks in
    let value = get_or values at 0 in
    let is = All-at (IsLeading Q) leading at lead c.requires.leading c.lead_at-lead.ensures in
    let n = c.requires.plan.order.one_each in
    let in_slots = slice_get_within Q.slots lead.slot _ is.kind in
    let within : slice_index R.place lead.slot < length marks = omega (arith, c.requires.plan.places.within lead.slot (omega arith), c.slots.ensures.facts.few_slots, c.loop-at.invariant.long) in
    record {
      long = simp length-set c.loop-at.invariant.long;
      marked = λ G v e. subst (λ (k : ℕ). AreMarkedBySlots G Q R.place (set marks k (Some value)) v) (sym c.place-place.ensures)
          (marks_led Q R c.requires.plan lead is marks value within G v (sym (leading_is G leading lead v at c.lead_at-lead.ensures) ∙ ap (λ (xs : List ℕ). get_or xs at 0) e) (c.loop-at.invariant.marked G v e));
    }
