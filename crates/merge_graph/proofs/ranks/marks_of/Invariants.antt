use Rattle.std.proofs.Common.{◌≡◌, length, take, All}
use Rattle.merge_graph.specs.Ranked.{HasMarks}
use Rattle.merge_graph.proofs.ranks.marks_of.Given as goal

abbrev pub invariant-loop-row : goal.invariant-loop-row
invariant-loop-row l = record {
  long : length l.marks.items ≡ length l.faces;
  marked : All (HasMarks l.marks.items l.faces) (take l.row-index l.rows);
}
