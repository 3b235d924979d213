use Rattle.std.proofs.Common.{◌≡◌, take, map}
use Rattle.merge_graph.specs.Ranked.{ranked_row}
use Rattle.merge_graph.proofs.ranked.ranked_rows.Given as goal

abbrev pub invariant-loop-row : goal.invariant-loop-row
invariant-loop-row l = l.ranked.items ≡ map (ranked_row l.ranks l.faces) (take l.row-index l.rows)
