use Rattle.term_text.specs.CanonicalText.{texts_of}
use Rattle.merge_graph.specs.Faces.{KeepsFaces}
use Rattle.merge_graph.proofs.faces.table_of.Given as goal

abbrev pub invariant-loop-place : goal.invariant-loop-place
invariant-loop-place l = KeepsFaces (texts_of l.names) l.labels l.place l.table
