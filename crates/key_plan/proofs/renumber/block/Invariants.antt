use Rattle.std.proofs.Common.{◌≡◌, ◌++◌, filter, take}
use Rattle.key_plan.specs.Making.{is_proper, is_loop}
use Rattle.key_plan.proofs.renumber.block.Given as goal

abbrev pub invariant-loop-edge : goal.invariant-loop-edge
invariant-loop-edge l = l.block.items ≡ filter (is_proper l.place) (take l.edge-index l.edges)

abbrev pub invariant-loop-edge-2 : goal.invariant-loop-edge-2
invariant-loop-edge-2 l = l.block.items ≡ filter (is_proper l.place) l.edges ++ filter (is_loop l.place) (take l.edge-index l.edges)
