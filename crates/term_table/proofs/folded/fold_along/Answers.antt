use Rattle.std.proofs.Common.{ℕ, [], ◌∷◌, ◌++◌, slice_range, sym, ap, ◌∙◌}
use Rattle.term_table.specs.Folding.{folded_literals, folded_term}
use Rattle.term_table.proofs.FoldedLemmas.{folded_literals-literal, folded_literals-other, range_more}
use Rattle.term_table.proofs.folded.fold_along.Goals as goal
use Rattle.term_table.proofs.folded.fold_along.Goals.{then-is_literal+in_ok-push_folded, else-is_literal}

pub loop-place-preserved : goal.loop-place-preserved
loop-place-preserved c =
    let terms = c.args.terms.now in
    let from : ℕ = c.args.from in
    let place : ℕ = c.loop-place.place in
    let t = c.get-term.result in
    let more = range_more terms from place t c.loop-place.auto.place c.get-term.ensures in
    let before = slice_range terms from place in
    elim c.if-is_literal.branch [
      | then-is_literal+in_ok-push_folded w ↦
          let literal = sym c.is_literal.ensures ∙ w.if-is_literal.true in
          w.folded-is ∙ w.in_ok-push_folded.ensures ∙ ap (λ l. l ++ folded_term t ∷ []) c.loop-place.invariant
          ∙ sym (ap folded_literals more ∙ folded_literals-literal before t literal)
      | else-is_literal w ↦
          let other = sym c.is_literal.ensures ∙ w.if-is_literal.false in
          w.folded-is ∙ c.loop-place.invariant ∙ sym (ap folded_literals more ∙ folded_literals-other before t other)
    ]
