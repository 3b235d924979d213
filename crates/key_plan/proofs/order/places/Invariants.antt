use Rattle.std.proofs.Common.{◌≡◌, ◌<◌, ℕ, length, slice_index}
use Rattle.key_plan.proofs.order.places.Given as goal

abbrev pub invariant-loop-place : goal.invariant-loop-place
invariant-loop-place l = record {
  one_each : length l.places.items ≡ length l.order;
  each : (k : ℕ) → k < l.place → slice_index l.places.items (slice_index l.order k) ≡ k;
}
