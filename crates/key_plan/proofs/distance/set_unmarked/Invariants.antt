use Rattle.std.proofs.Common.{◌≡◌, ◌≤◌, ◌<◌, ℕ, true, false, slice_index, slice_index_or}
use Rattle.key_plan.proofs.distance.set_unmarked.Given as goal

abbrev pub invariant-loop-slot : goal.invariant-loop-slot
invariant-loop-slot l = record {
  above : (s : ℕ) → l.slot ≤ s → slice_index l.distances s ≡ slice_index l.initial.distances s;
  marked : (s : ℕ) → slice_index_or l.marks s false ≡ true → slice_index l.distances s ≡ slice_index l.initial.distances s;
  others : (s : ℕ) → s < l.slot → slice_index_or l.marks s false ≡ false → slice_index l.distances s ≡ l.distance;
}
