use Rattle.std.proofs.Common.{ℕ, Some, slice_get, ◌<◌, ◌≡◌}
use Rattle.chase_laws.specs.Shape.{Shape}
use Rattle.chase_laws.specs.SameRows.{IsUnfolded}
use Rattle.graph_rows.proofs.numbered_keys.have_folded.Given as goal

abbrev pub invariant-loop-pattern : goal.invariant-loop-pattern
invariant-loop-pattern l = (key : ℕ) (Q : Shape) → key < l.pattern-index → slice_get l.patterns key ≡ Some Q → IsUnfolded Q
