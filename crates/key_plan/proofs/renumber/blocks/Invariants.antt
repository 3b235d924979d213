use Rattle.std.proofs.Common.{◌≡◌, ◌<◌, ℕ, length, slice_index_or}
use Rattle.key_plan.specs.Making.{block_of}
use Rattle.key_plan.proofs.renumber.blocks.Given as goal

abbrev pub invariant-loop-place : goal.invariant-loop-place
invariant-loop-place l = record {
  long : length l.blocks.items ≡ l.place;
  each : (s : ℕ) → s < l.place → (d : _) → (slice_index_or l.blocks.items s d).items ≡ block_of l.edges s;
}
