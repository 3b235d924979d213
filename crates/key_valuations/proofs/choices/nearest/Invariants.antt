use Rattle.std.proofs.Common.{ℕ, Contains}
use Rattle.key_valuations.specs.Part.{HoldsAt}
use Rattle.key_valuations.specs.Marks.{Covers}
use Rattle.key_valuations.proofs.choices.nearest.Given as goal

abbrev pub invariant-loop-place : goal.invariant-loop-place
invariant-loop-place l = record {
  covers : Covers l.graph l.places l.block l.names;
  holds : (m : ℕ) → Contains l.names m → HoldsAt l.graph l.places l.block l.chosen m;
}
