use Rattle.std.proofs.Common.{ℕ, Contains, take}
use Rattle.chase_laws.specs.Graph.{IsLiteral}
use Rattle.pair_seed.proofs.share.has_common_literal.Given as goal

abbrev pub invariant-loop-l : goal.invariant-loop-l
invariant-loop-l l = (x : ℕ) → IsLiteral l.graph x → Contains l.ys x → Contains (take l.l-index l.xs) x → ⊥
