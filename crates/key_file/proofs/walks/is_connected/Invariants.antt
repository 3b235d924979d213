-- The marks are those of walks of so many edges.
use Rattle.key_file.specs.Walks.{AreMarks}
use Rattle.key_file.proofs.walks.is_connected.Given as goal

abbrev pub invariant-loop-walk : goal.invariant-loop-walk
invariant-loop-walk l = AreMarks l.slots l.edges l._walk l.marks
