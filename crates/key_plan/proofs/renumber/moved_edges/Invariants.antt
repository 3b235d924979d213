use Rattle.std.proofs.Common.{◌≡◌, map, take}
use Rattle.key_plan.specs.Route.{moved}
use Rattle.key_plan.proofs.renumber.moved_edges.Given as goal

abbrev pub invariant-loop-edge : goal.invariant-loop-edge
invariant-loop-edge l = l.list.items ≡ map (moved l.places) (take l.edge-index l.edges)
