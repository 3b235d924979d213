use Rattle.std.proofs.Common.{◌++◌, ap, ◌∙◌}
use Rattle.demo_graph.proofs.LineLemmas.{one_number_more}
use Rattle.demo_graph.proofs.texts.demo_texts.Goals as goal

pub loop-number-preserved : goal.loop-number-preserved
loop-number-preserved c =
    let before = c.loop-number.graph.items in
    let typed = c.extend_from_slice.new.self.items in
    let named = c.extend_from_slice-in-loop-number.new.self.items in
    one_number_more c.loop-number.number before typed named c.extend_from_slice-in-loop-number-2.new.self.items c.loop-number.invariant
    (c.in_ok-extend_from_slice.ensures.items ∙ ap (λ bs. before ++ bs) (c.as_bytes.ensures.value ∙ c.in_ok-type_lines.ensures))
    (c.in_ok-extend_from_slice-2.ensures.items ∙ ap (λ bs. typed ++ bs) (c.as_bytes-in-loop-number.ensures.value ∙ c.in_ok-name_lines.ensures))
    (c.in_ok-extend_from_slice-3.ensures.items ∙ ap (λ bs. named ++ bs) (c.as_bytes-in-loop-number-2.ensures.value ∙ c.in_ok-last_lines.ensures))
