use Rattle.std.proofs.Common.{ℕ, Some, slice_get, ◌≡◌, ◌≢◌, ◌<◌}
use Rattle.chase_laws.specs.declared.pattern.Edge.{Edge}
use Rattle.pair_filter.proofs.leaf.is_leaf.Given as goal

-- none of the edges so far
abbrev pub invariant-loop-place : goal.invariant-loop-place
invariant-loop-place l = (k : ℕ) (e : Edge) → k < l.place → l.skipped ≢ Some k → slice_get l.pattern.edges k ≡ Some e → (e.from ≢ l.s) × (e.to ≢ l.s)
