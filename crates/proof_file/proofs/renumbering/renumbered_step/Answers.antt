use Rattle.std.proofs.Common.{length, map, sym, ap, subst, ◌∙◌}
use Rattle.std.proofs.lemmas.List.Sums.{fold-append}
use Rattle.term_table.specs.Numbering.{place_of, with_term, with_terms}
use Rattle.proof_file.specs.Steps.{StepNumbers, term_at}
use Rattle.proof_file.specs.Progress.{AreBelow}
use Rattle.proof_file.proofs.InNumbers.{left_stays}
use Rattle.proof_file.proofs.renumbering.renumbered_step.Goals as goal

pub numbers-requires-clause-named : goal.numbers-requires-clause-named
numbers-requires-clause-named c = subst (AreBelow (length c.args.names.now)) (sym (c.deref.ensures.value ∙ ap (λ (s : StepNumbers). s.left) c.step.view_is)) c.requires.below.0

pub numbers-requires-2-clause-named : goal.numbers-requires-2-clause-named
numbers-requires-2-clause-named c = subst (AreBelow (length c.args.names.now)) (sym (c.deref-2.ensures.value ∙ ap (λ (s : StepNumbers). s.right) c.step.view_is)) c.requires.below.1

pub returns-clause-terms : goal.returns-clause-terms
returns-clause-terms c =
    let f = term_at c.args.names.now in
    let first = c.args.numbers.now.terms in
    let terms = c.numbers.new.self.terms in
    let step = c.args.step in
    let left_is = c.deref.ensures.value ∙ ap (λ (s : StepNumbers). s.left) c.step.view_is in
    let right_is = c.deref-2.ensures.value ∙ ap (λ (s : StepNumbers). s.right) c.step.view_is in
    let grown = c.in_ok-left.ensures.terms ∙ ap (λ side. with_terms first (map f side)) left_is in
    let grown_more = c.in_ok-right.ensures.terms ∙ ap (λ side. with_terms terms (map f side)) right_is in
    grown_more ∙ ap (λ ts. with_terms ts (map f step.right)) grown ∙ sym (fold-append with_term first (map f step.left) (map f step.right))

pub returns-clause-step : goal.returns-clause-step
returns-clause-step c =
    let f = term_at c.args.names.now in
    let first = c.args.numbers.now.terms in
    let terms = c.numbers.new.self.terms in
    let later = c.numbers-2.new.self.terms in
    let step = c.args.step in
    let left_is = c.deref.ensures.value ∙ ap (λ (s : StepNumbers). s.left) c.step.view_is in
    let right_is = c.deref-2.ensures.value ∙ ap (λ (s : StepNumbers). s.right) c.step.view_is in
    let grown = c.in_ok-left.ensures.terms ∙ ap (λ side. with_terms first (map f side)) left_is in
    let grown_more = c.in_ok-right.ensures.terms ∙ ap (λ side. with_terms terms (map f side)) right_is in
    let left = c.in_ok-left.ensures.numbers ∙ ap (λ side. map (place_of terms) (map f side)) left_is ∙ left_stays first terms later (map f step.left) (map f step.right) grown grown_more in
    let right = c.in_ok-right.ensures.numbers ∙ ap (λ side. map (place_of later) (map f side)) right_is in
    let key = ap (λ (s : StepNumbers). s.key) c.step.view_is in
    let supports = ap (λ (s : StepNumbers). s.supports) c.step.view_is in
    λ i. record { key = key i; left = left i; right = right i; supports = supports i }
