use Rattle.std.proofs.Common.{◌≤◌, length, take, map}
use Rattle.merge_graph.specs.Ranked.{HoldsLines, ranked_line}
use Rattle.merge_graph.proofs.ascending.joined_ascending.Given as goal

abbrev pub invariant-loop-row : goal.invariant-loop-row
invariant-loop-row l = record {
  last : l.lines.last ≤ length l.lines.text.items;
  holds : HoldsLines (map (ranked_line l.texts l.order) (take l.row-index l.rows)) l.lines.text.items l.lines.last;
}
