-- From the last place on.
use Rattle.std.proofs.Common.{◌≡◌, ◌-◌, inl, inr, slice_get, sym, ◌∙◌, ap, subst, arith}
use Rattle.std.proofs.lemmas.Bool.{cases_eq}
use Rattle.std.proofs.lemmas.Option.{slice_get_within}
use Rattle.key_valuations.specs.Listing.{IsBare}
use Rattle.key_valuations.proofs.PartLaws.{some_same}
use Rattle.key_valuations.proofs.extend_all.bare_from.Goals as goal

pub loop-place-init : goal.loop-place-init
loop-place-init c = record {
  bare = λ s slot past at. absurd (omega (arith, slice_get_within c.args.plan.now.shape.slots s slot at));
  within = omega arith;
}

pub loop-place-preserved : goal.loop-place-preserved
loop-place-preserved c = record {
  bare = λ s slot past at. elim (cases_eq s (c.loop-place.place - 1)) [
    | inl e ↦
        (let same : slot ≡ c.slot.result = some_same slot c.slot.result (sym at ∙ ap (slice_get c.args.plan.now.shape.slots) e ∙ c.slot.ensures) in
        subst IsBare (sym same) (c.is_bare.ensures c.if-not-is_bare.false))
    | inr ne ↦ c.loop-place.invariant.bare s slot (omega arith) at
  ];
  within = omega arith;
}
