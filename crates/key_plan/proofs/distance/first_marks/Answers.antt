-- One slot more.
use Rattle.std.proofs.Common.{arith, sym, ap, ◌∙◌, ◌++◌, ◌∷◌, [], ◌==◌}
use Rattle.std.proofs.lemmas.List.FromFn.{map-range_with_len_more}
use Rattle.key_plan.proofs.distance.first_marks.Goals as goal

pub loop-slot-preserved : goal.loop-slot-preserved
loop-slot-preserved c =
    c.in_ok-push.ensures.items ∙ ap (λ xs. xs ++ (c.loop-slot.slot == 0) ∷ []) c.loop-slot.invariant ∙ sym (map-range_with_len_more (λ s. s == 0) 0 c.loop-slot.slot c.loop-slot.slot (omega arith))
