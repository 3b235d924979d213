use Rattle.std.proofs.Common.{ℕ, Some, slice_get, ◌≡◌, ◌<◌}
use Rattle.chase_laws.specs.declared.pattern.Edge.{Edge}
use Rattle.pair_seed.specs.Folds.{IsFoldedEdge}
use Rattle.pair_seed.proofs.folds.has_folded.Given as goal

abbrev pub invariant-loop-place : goal.invariant-loop-place
invariant-loop-place l = (k : ℕ) (e : Edge) → k < l.place → slice_get l.pattern.edges k ≡ Some e → IsFoldedEdge l.pattern e → ⊥
