use Rattle.std.proofs.Common.{ap, sym, ◌∙◌, ◌++◌, ◌∷◌, []}
use Rattle.valuation_groups.proofs.SharedLemmas.{range_more}
use Rattle.valuation_groups.proofs.shared.numbers_below.Goals as goal

pub loop-number-preserved : goal.loop-number-preserved
loop-number-preserved c = c.in_ok-push.ensures.items ∙ ap (λ ns. ns ++ c.loop-number.number ∷ []) c.loop-number.invariant ∙ sym (range_more c.loop-number.number)
