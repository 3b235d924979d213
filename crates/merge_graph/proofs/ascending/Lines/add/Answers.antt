-- The line that was put behind the others is above the last one, or equals it and is taken back.
use Rattle.std.proofs.Common.{◌≡◌, ◌++◌, ◌∙◌, arith}
use Rattle.merge_graph.specs.Ranked.{line_of_texts, ranked_line}
use Rattle.merge_graph.proofs.JoinedLemmas.{added_above, added_same, line_not_empty}
use Rattle.merge_graph.proofs.ascending.Lines.add.Goals as goal

pub returns-in-Less-clause-lines : goal.returns-in-Less-clause-lines
returns-in-Less-clause-lines c = λ fits all h.
    let text = c.args.self.now.text.items in
    let line = ranked_line c.args.texts.now c.args.order.now c.args.row.now in
    let put : c.put_line.new.text.items ≡ text ++ line = c.in_ok-put_line.ensures ∙ (λ i. text ++ line_of_texts (c.text-subject.ensures i) (c.text-predicate.ensures i) (c.text-object.ensures i)) in
    added_above all text line _ _ _ _ _ put c.deref.ensures.value (omega arith) c.compare_lines.ensures c.in-Less.is h

pub returns-in-Equal-clause-lines : goal.returns-in-Equal-clause-lines
returns-in-Equal-clause-lines c = λ fits all h.
    let text = c.args.self.now.text.items in
    let line = ranked_line c.args.texts.now c.args.order.now c.args.row.now in
    let put : c.put_line.new.text.items ≡ text ++ line = c.in_ok-put_line.ensures ∙ (λ i. text ++ line_of_texts (c.text-subject.ensures i) (c.text-predicate.ensures i) (c.text-object.ensures i)) in
    added_same all text line _ _ _ _ _ _ put c.deref.ensures.value (omega arith) c.compare_lines.ensures c.in-Equal.is (line_not_empty _ _ _) c.truncate.ensures.items h
