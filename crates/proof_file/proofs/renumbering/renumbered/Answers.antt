use Rattle.std.proofs.Common.{All, [], ◌∷◌, ◌++◌, length, map, ◌≡◌, sym, ap, ap₂, subst, ◌∙◌, append-nil}
use Rattle.std.proofs.lemmas.List.{map_push}
use Rattle.std.proofs.lemmas.List.Elements.{All-head}
use Rattle.std.specs.Vec.Iter.{into_iter_items}
use Rattle.term_table.specs.Numbering.{with_terms, names_of}
use Rattle.proof_file.specs.Steps.{StepNumbers, step_terms, steps_terms, step_with, in_numbers, IsNumberedBelow}
use Rattle.proof_file.specs.TermNumbers.{by_numbers}
use Rattle.proof_file.proofs.InNumbers.{All-parts, names_more, numbers_more, in_numbers_parts}
use Rattle.proof_file.proofs.NamedLemmas.{map_parts}
use Rattle.proof_file.proofs.ReadLemmas.{none_of, taken_front}
use Rattle.proof_file.proofs.renumbering.renumbered.Goals as goal

pub step_by-requires : goal.step_by-requires
step_by-requires c =
    let P : StepNumbers → Type 0 = IsNumberedBelow (length c.args.numbers.now) in
    let x = c.in-Some.step in
    let given : into_iter_items c.into_iter-step-iterator.result ≡ c.args.steps.items = search in
    let front = taken_front c.into_iter-step-iterator.result c.loop-step.yielded c.loop-step.step-iterator c.loop-step.yielded_by in
    let rest = into_iter_items c.next.new.self in
    let all = subst (All P) (sym given ∙ front ∙ ap (λ l. c.loop-step.yielded ++ l) c.in-Some.ensures.steps.0) c.requires.below in
    All-head P x rest (All-parts P c.loop-step.yielded (x ∷ rest) all).1

pub renumbered_step-requires-clause-below : goal.renumbered_step-requires-clause-below
renumbered_step-requires-clause-below c =
    let P : StepNumbers → Type 0 = IsNumberedBelow (length c.args.names.now) in
    let g = by_numbers c.args.numbers.now in
    let x = c.in-Some.step in
    let given : into_iter_items c.into_iter-step-iterator.result ≡ c.args.steps.items = search in
    let front = taken_front c.into_iter-step-iterator.result c.loop-step.yielded c.loop-step.step-iterator c.loop-step.yielded_by in
    let rest = into_iter_items c.next.new.self in
    let all = subst (λ l. All P (map g l)) (sym given ∙ front ∙ ap (λ l. c.loop-step.yielded ++ l) c.in-Some.ensures.steps.0) c.requires.named in
    let parts = All-parts P (map g c.loop-step.yielded) (map g (x ∷ rest)) (subst (All P) (map_parts g c.loop-step.yielded (x ∷ rest)) all) in
    subst P (sym c.in_ok-named.ensures) (All-head P (g x) (map g rest) parts.1)

pub loop-step-preserved : goal.loop-step-preserved
loop-step-preserved c =
    let f = step_with c.args.names.now in
    let g = by_numbers c.args.numbers.now in
    let x = c.in-Some.step in
    let S = map f (map g c.loop-step.yielded) in
    let T = c.loop-step.places.terms in
    let later = c.renumbered_step.new.numbers.terms in
    let before = c.loop-step.invariant in
    let named = c.in_ok-named.ensures in
    let grown = c.in_ok-renumbered_step.ensures.terms ∙ ap (λ s. with_terms T (step_terms (f s))) named in
    let made = c.in_ok-renumbered_step.ensures.step ∙ ap (λ s. in_numbers later (f s)) named in
    let more = ap (map f) (map_push g c.loop-step.yielded x) ∙ map_push f (map g c.loop-step.yielded) (g x) in
    record {
      terms = grown ∙ ap (λ ts. with_terms ts (step_terms (f (g x)))) before.terms ∙ sym (names_more S (f (g x))) ∙ ap (λ steps. names_of (steps_terms steps)) (sym more);
      steps = c.in_ok-push.ensures.items ∙ ap₂ (λ steps step. steps ++ step ∷ []) before.steps made ∙ sym (numbers_more S (f (g x)) T later before.terms grown) ∙ ap (map (in_numbers later)) (sym more);
      places = c.in_ok-renumbered_step.ensures.places;
    }

pub invariant_of-result : goal.invariant_of-result
invariant_of-result c =
    let S = map (step_with c.args.names.now) (map (by_numbers c.args.numbers.now) c.loop-step.yielded) in
    (in_numbers_parts S c.loop-step.places.terms c.loop-step.made.items c.loop-step.invariant.terms c.loop-step.invariant.steps).0

pub returns : goal.returns
returns c =
    let f = step_with c.args.names.now in
    let g = by_numbers c.args.numbers.now in
    let given : into_iter_items c.into_iter-step-iterator.result ≡ c.args.steps.items = search in
    let front = taken_front c.into_iter-step-iterator.result c.loop-step.yielded c.loop-step.step-iterator c.loop-step.yielded_by in
    let none = none_of (into_iter_items c.loop-step.step-iterator) (sym c.loop-step.step-iterator.rest.ok.0 ∙ c.in-None.ensures.steps.0) in
    let whole = sym (append-nil c.loop-step.yielded) ∙ ap (λ l. c.loop-step.yielded ++ l) (sym none) ∙ sym front ∙ given in
    (in_numbers_parts (map f (map g c.loop-step.yielded)) c.loop-step.places.terms c.loop-step.made.items c.loop-step.invariant.terms c.loop-step.invariant.steps).1
    ∙ ap (λ steps. map f (map g steps)) whole
