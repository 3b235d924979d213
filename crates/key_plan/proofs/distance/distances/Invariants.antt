use Rattle.std.proofs.Common.{◌≡◌, ℕ, IsTrue, length, slice_index}
use Rattle.chase_laws.specs.Shape.{marks, reached}
use Rattle.key_plan.specs.Distance.{IsDistance}
use Rattle.key_plan.proofs.distance.distances.Given as goal

abbrev pub invariant-loop-level : goal.invariant-loop-level
invariant-loop-level l = record {
  marks : l.marks.items ≡ marks l.pattern l.level;
  one_each : length l.distances.items ≡ length l.pattern.slots;
  each : (s : ℕ) → IsTrue (reached l.pattern l.level s) → IsDistance l.pattern s (slice_index l.distances.items s);
}
