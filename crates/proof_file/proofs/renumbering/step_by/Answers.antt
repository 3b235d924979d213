use Rattle.std.proofs.Common.{length, map, slice_index, sym, ap, subst, ◌∙◌}
use Rattle.proof_file.specs.Steps.{StepNumbers}
use Rattle.proof_file.specs.Progress.{AreBelow}
use Rattle.proof_file.proofs.renumbering.step_by.Goals as goal

pub side_by-requires : goal.side_by-requires
side_by-requires c = subst (AreBelow (length c.args.numbers.now)) (sym (c.deref.ensures.value ∙ ap (λ (s : StepNumbers). s.left) c.step.view_is)) c.requires.0

pub side_by-requires-2 : goal.side_by-requires-2
side_by-requires-2 c = subst (AreBelow (length c.args.numbers.now)) (sym (c.deref-2.ensures.value ∙ ap (λ (s : StepNumbers). s.right) c.step.view_is)) c.requires.1

pub returns : goal.returns
returns c =
    let f = slice_index c.args.numbers.now in
    let left = c.in_ok-left.ensures ∙ ap (map f) (c.deref.ensures.value ∙ ap (λ (s : StepNumbers). s.left) c.step.view_is) in
    let right = c.in_ok-right.ensures ∙ ap (map f) (c.deref-2.ensures.value ∙ ap (λ (s : StepNumbers). s.right) c.step.view_is) in
    let key = ap (λ (s : StepNumbers). s.key) c.step.view_is in
    let supports = ap (λ (s : StepNumbers). s.supports) c.step.view_is in
    λ i. record { key = key i; left = left i; right = right i; supports = supports i }
