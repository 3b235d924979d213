use Rattle.std.proofs.Common.{ℕ, Some, slice_get, ◌≡◌, ◌<◌}
use Rattle.chase_laws.specs.Shape.{Shape}
use Rattle.pair_filter.specs.Keys.{IsRuledOut}
use Rattle.pair_filter.proofs.keys.first_key.Given as goal

-- each key so far is ruled out
abbrev pub invariant-loop-key : goal.invariant-loop-key
invariant-loop-key l = (key : ℕ) (Q : Shape) → key < l.key → slice_get l.patterns key ≡ Some Q → IsRuledOut l.graph Q l.pair.0 l.pair.1
