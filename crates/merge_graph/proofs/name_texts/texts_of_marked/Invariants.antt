use Rattle.term_text.specs.CanonicalText.{texts_of}
use Rattle.merge_graph.proofs.RankLemmas.{HoldsTexts}
use Rattle.merge_graph.proofs.name_texts.texts_of_marked.Given as goal

abbrev pub invariant-loop-place : goal.invariant-loop-place
invariant-loop-place l = HoldsTexts (texts_of l.names) l.marks l.place l.bytes.items l.starts.items
