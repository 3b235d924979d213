use Rattle.std.proofs.Common.{ℕ, Some, Contains, slice_get, ◌≡◌, ◌<◌}
use Rattle.chase_laws.specs.declared.pattern.Edge.{Edge}
use Rattle.chase_laws.specs.Shape.{Shape}
use Rattle.pair_seed.specs.Folds.{IsFoldedEdge}
use Rattle.pair_seed.proofs.folds.any_folded.Given as goal

abbrev pub invariant-loop-pattern : goal.invariant-loop-pattern
invariant-loop-pattern l = (key : ℕ) (Q : Shape) (e : Edge) → key < l.pattern-index → slice_get l.patterns key ≡ Some Q → Contains Q.edges e → IsFoldedEdge Q e → ⊥
