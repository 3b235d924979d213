-- One distance more.
use Rattle.std.proofs.Common.{slice_index, arith}
use Rattle.std.proofs.lemmas.Bool.{cases_eq}
use Rattle.std.proofs.Common.{◌≡◌, inl, inr, ap}
use Rattle.key_plan.proofs.distance.greatest.Goals as goal

pub loop-distance-preserved : goal.loop-distance-preserved
loop-distance-preserved c = record {
  within = λ s h. elim (cases_eq s c.loop-distance.distance-index) [
    | inl e ↦ (let at : slice_index c.args.distances.now s ≡ slice_index c.args.distances.now c.loop-distance.distance-index = ap (slice_index c.args.distances.now) e in omega arith)
    | inr ne ↦ (let before = c.loop-distance.invariant.within s (omega arith) in omega arith)
  ];
  least = λ n h. let before = c.loop-distance.invariant.least n h in let here = h c.loop-distance.distance-index c.loop-distance-test.true in omega arith;
}

pub returns : goal.returns
returns c = record { within = λ s h. c.loop-distance.invariant.within s (omega arith); least = c.loop-distance.invariant.least }
