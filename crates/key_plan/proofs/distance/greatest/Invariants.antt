use Rattle.std.proofs.Common.{◌≤◌, ◌<◌, ℕ, length, slice_index}
use Rattle.key_plan.proofs.distance.greatest.Given as goal

abbrev pub invariant-loop-distance : goal.invariant-loop-distance
invariant-loop-distance l = record {
  within : (s : ℕ) → s < l.distance-index → slice_index l.distances s ≤ l.most;
  least : (n : ℕ) → ((s : ℕ) → s < length l.distances → slice_index l.distances s ≤ n) → l.most ≤ n;
}
