use Rattle.std.proofs.Common.{◌≡◌, map, take}
use Rattle.typed_graph.specs.Blocks.{turned}
use Rattle.typed_graph.proofs.rows.turn.Given as goal

abbrev pub invariant-loop-row : goal.invariant-loop-row
invariant-loop-row l = l.out.items ≡ map turned (take l.row-index l.rows)
