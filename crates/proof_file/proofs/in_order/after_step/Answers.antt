use Rattle.std.proofs.Common.{List, map, ap, subst, ◌∙◌}
use Rattle.std.proofs.lemmas.Option.{IfSome_then}
use Rattle.gk_base.specs.declared.term.Term.{Term}
use Rattle.proof_file.specs.Steps.{StepNumbers, term_at}
use Rattle.proof_file.specs.InOrder.{ComeInOrder}
use Rattle.proof_file.proofs.OrderLemmas.{both_come}
use Rattle.proof_file.proofs.in_order.after_step.Goals as goal

pub returns-in-Some : goal.returns-in-Some
returns-in-Some c =
    let step = c.args.step.now in
    let left : List Term → List Term = λ terms. map (term_at terms) step.left in
    let right : List Term → List Term = λ terms. map (term_at terms) step.right in
    let first = subst (λ side. ComeInOrder c.args.come c.in-Some.more (λ terms. map (term_at terms) side)) (c.deref.ensures.value ∙ ap (λ (s : StepNumbers). s.left) c.step.view_is) c.in-Some.ensures in
    IfSome_then c.after_side-in-Some.result c.after_side-in-Some.ensures (λ all later.
    both_come c.args.come c.in-Some.more all left right first
    (subst (λ side. ComeInOrder c.in-Some.more all (λ terms. map (term_at terms) side)) (c.deref-in-Some.ensures.value ∙ ap (λ (s : StepNumbers). s.right) c.step.view_is) later))
