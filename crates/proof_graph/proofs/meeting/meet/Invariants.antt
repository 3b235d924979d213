use Rattle.std.proofs.Common.{◌<◌, ◌+◌, ◌-◌, length}
use Rattle.proof_graph.specs.Tree.{Approach, since, never}
use Rattle.proof_graph.proofs.meeting.meet.Given as goal

abbrev pub invariant-loop-of_x : goal.invariant-loop-of_x
invariant-loop-of_x l = (l.of_x < length l.nodes) × (l.of_y < length l.nodes) × Approach l.nodes l.x l.y l.of_x l.of_y l.below l.from_x

abbrev pub decreases-loop-of_x : goal.decreases-loop-of_x
decreases-loop-of_x l = (never - since l.nodes l.of_x) + (never - since l.nodes l.of_y)
