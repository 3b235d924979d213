use Rattle.std.proofs.Common.{◌≡◌, take, map}
use Rattle.term_text.specs.CanonicalText.{triple_text}
use Rattle.merge_graph.specs.MergedGraph.{image}
use Rattle.merge_graph.proofs.lines.image_lines.Given as goal

abbrev pub invariant-loop-row : goal.invariant-loop-row
invariant-loop-row l = l.lines.items ≡ map (λ row. triple_text (image l.names l.faces row)) (take l.row-index l.rows)
