use Rattle.std.proofs.Common.{◌≡◌, length}
use Rattle.chase_laws.specs.Joined.{links}
use Rattle.proof_graph.specs.Tree.{AreTreesOf}
use Rattle.proof_graph.proofs.trees.grown.Given as goal

abbrev pub invariant-loop-place : goal.invariant-loop-place
invariant-loop-place l = (length l.nodes.items ≡ l.count) × AreTreesOf (links l.journal) l.nodes.items l.place
