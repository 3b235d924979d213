use Rattle.std.proofs.Common.{ℕ, ◌<◌, ◌-◌, length}
use Rattle.proof_graph.specs.Tree.{Climbs, since, never}
use Rattle.proof_graph.proofs.trees.top.Given as goal

abbrev pub invariant-loop-top : goal.invariant-loop-top
invariant-loop-top l = (l.top < length l.nodes) × ((r : ℕ) → Climbs l.nodes never l.top r → Climbs l.nodes never l.at r)

abbrev pub decreases-loop-top : goal.decreases-loop-top
decreases-loop-top l = never - since l.nodes l.top
