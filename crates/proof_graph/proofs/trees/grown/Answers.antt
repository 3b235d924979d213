use Rattle.chase_laws.specs.Joined.{links}
use Rattle.proof_graph.proofs.TreeLemmas.{lone_trees}
use Rattle.proof_graph.proofs.trees.grown.Goals as goal

pub loop-place-init : goal.loop-place-init
loop-place-init c = (c.in_ok-nodes.ensures.count, lone_trees (links c.args.journal.now) c.in_ok-nodes.nodes.items c.in_ok-nodes.ensures.lone)
