use Rattle.std.proofs.Common.{All, take}
use Rattle.merge_graph.specs.MergedGraph.{IsWithin}
use Rattle.merge_tests.proofs.merged.are_within.Given as goal

abbrev pub invariant-loop-row : goal.invariant-loop-row
invariant-loop-row l = All (IsWithin l.count) (take l.row-index l.rows)
