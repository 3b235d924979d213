use Rattle.std.proofs.Common.{◌≡◌, ◌<◌, ℕ, length, slice_get, slice_index}
use Rattle.key_plan.proofs.renumber.moved_slots.Given as goal

abbrev pub invariant-loop-slot : goal.invariant-loop-slot
invariant-loop-slot l = record {
  long : length l.list.items ≡ l.slot-index;
  each : (k : ℕ) → k < l.slot-index → slice_get l.list.items k ≡ slice_get l.slots (slice_index l.order k);
}
