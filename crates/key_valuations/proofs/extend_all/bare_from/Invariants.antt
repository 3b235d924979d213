use Rattle.std.proofs.Common.{◌≤◌, length}
use Rattle.key_valuations.specs.Listing.{AreBareFrom}
use Rattle.key_valuations.proofs.extend_all.bare_from.Given as goal

abbrev pub invariant-loop-place : goal.invariant-loop-place
invariant-loop-place l = record {
  bare : AreBareFrom l.plan.shape l.place;
  within : l.place ≤ length l.plan.shape.slots;
}

abbrev pub decreases-loop-place : goal.decreases-loop-place
decreases-loop-place l = l.place
