-- The edges before are passed.
use Rattle.std.proofs.Common.{take}
use Rattle.key_file.proofs.WalkLemmas.{ArePassed}
use Rattle.key_file.proofs.walks.wider_marks.Given as goal

abbrev pub invariant-loop-edge : goal.invariant-loop-edge
invariant-loop-edge l = ArePassed l.slots (take l.edge-index l.edges) l.first l.marks
