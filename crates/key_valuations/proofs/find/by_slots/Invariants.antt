use Rattle.std.proofs.Common.{ℕ, ◌≡◌, ◌<◌, length, slice_index}
use Rattle.key_valuations.proofs.find.by_slots.Given as goal

abbrev pub invariant-loop-slot : goal.invariant-loop-slot
invariant-loop-slot l = record {
  long : length l.list ≡ l.slot;
  each : (s : ℕ) → s < l.slot → slice_index l.list s ≡ slice_index l.places (slice_index l.plan.place s);
}
