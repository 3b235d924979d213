use Rattle.std.proofs.Common.{ℕ, Contains, take, slice_index}
use Rattle.chase_laws.specs.Graph.{IsLiteral}
use Rattle.pair_seed.specs.Folds.{HasAlike}
use Rattle.pair_seed.proofs.share.share_folded.Given as goal

abbrev pub invariant-loop-l : goal.invariant-loop-l
invariant-loop-l l = (x : ℕ) → IsLiteral l.graph x → HasAlike l.graph l.b l.p (slice_index l.graph.alike x) → Contains (take l.l-index l.l-items) x → ⊥
