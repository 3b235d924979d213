-- The lines are those of the images, each once.
use Rattle.std.proofs.Common.{List, ℕ, Contains, ◌↔◌, subst, ap, ◌∙◌}
use Rattle.std.specs.List.{flat_map}
use Rattle.merge_graph.proofs.lines.lines_by_bytes.Goals as goal

pub returns : goal.returns
returns c = record {
  lines = c.sorted_once-lines.result.items;
  ascends = c.sorted_once-lines.ensures.ascends;
  same = λ line. subst (λ (ls : List (List ℕ)). Contains c.sorted_once-lines.result.items line ↔ Contains ls line) c.in_ok-image_lines.ensures (c.sorted_once-lines.ensures.same line);
  whole = c.in_ok-text.ensures ∙ ap (flat_map (λ line. line)) c.deref.ensures.value;
}
