use Rattle.std.proofs.Common.{ℕ, take, Contains}
use Rattle.chase_laws.specs.Graph.{IsLiteral}
use Rattle.pair_filter.proofs.leaf.has_literal_among.Given as goal

-- none of the names so far
abbrev pub invariant-loop-l : goal.invariant-loop-l
invariant-loop-l l = (x : ℕ) → Contains (take l.l-index l.us) x → Contains l.ws x → ¬ (IsLiteral l.graph x)
