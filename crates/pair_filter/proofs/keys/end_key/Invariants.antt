use Rattle.std.proofs.Common.{ℕ, Some, slice_get, ◌≡◌, ◌≤◌}
use Rattle.chase_laws.specs.Shape.{Shape}
use Rattle.paired_search.specs.KeyRange.{IsIdle}
use Rattle.pair_filter.proofs.keys.end_key.Given as goal

-- each key from there on is idle
abbrev pub invariant-loop-key : goal.invariant-loop-key
invariant-loop-key l = (key : ℕ) (Q : Shape) → l.key ≤ key → slice_get l.patterns key ≡ Some Q → IsIdle l.graph Q l.pair.0 l.pair.1
