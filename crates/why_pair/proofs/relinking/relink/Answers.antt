use Rattle.std.proofs.Common.{[], ◌∷◌, ◌++◌, ◌+◌, ◌≡◌, Some, map, length, slice_get, sym, ap, ap₂, subst, ◌∙◌, arith, append-nil, length-append}
use Rattle.std.specs.Option.{option_map}
use Rattle.std.specs.Vec.Iter.{into_iter_items}
use Rattle.std.proofs.lemmas.List.{length-map}
use Rattle.std.proofs.lemmas.Option.{slice_get-map, slice_get_within, slice_get-get_or}
use Rattle.proof_file.specs.Steps.{step_with, IsProof}
use Rattle.why_pair.specs.Relinked.{relinked_numbers, relinked_step, with_each}
use Rattle.why_pair.proofs.LinkLemmas.{taken_front, none_of, at_front, with_more, still_proof, with_terms_each}
use Rattle.why_pair.proofs.relinking.relink.Goals as goal

pub relinked_step-requires-clause-linked : goal.relinked_step-requires-clause-linked
relinked_step-requires-clause-linked c =
    let T = c.proof.inside.terms in
    let S = c.proof.inside.steps.items in
    let x = c.in-Some.step in
    let e = c.index-entries-at.result in
    let Y = c.loop-step.yielded in
    let at = c.loop-step.at in
    let rest = into_iter_items c.next.new.self in
    let given : into_iter_items c.into_iter-step-iterator.result ≡ S = search in
    let front = taken_front c.into_iter-step-iterator.result Y c.loop-step.step-iterator c.loop-step.yielded_by in
    let whole : S ≡ Y ++ x ∷ rest = sym given ∙ front ∙ ap (λ l. Y ++ l) c.in-Some.ensures.steps.0 in
    let here : slice_get S at ≡ Some x = ap (λ l. slice_get l at) whole ∙ ap (slice_get (Y ++ x ∷ rest)) c.loop-step.invariant.at ∙ at_front Y x rest in
    let shape : slice_get c.args.proof at ≡ Some (step_with T x) = ap (λ l. slice_get l at) (sym c.proof.view_is) ∙ slice_get-map (step_with T) S at ∙ ap (option_map (step_with T)) here in
    let within = slice_get_within c.args.proof at (step_with T x) shape in
    let count = c.requires.one_each in
    let entry : slice_get c.args.entries.now at ≡ Some e = slice_get-get_or c.args.entries.now at e (omega arith) ∙ ap Some (sym c.index-entries-at.is) in
    c.requires.linked at e (step_with T x) entry shape

pub loop-step-preserved : goal.loop-step-preserved
loop-step-preserved c =
    let f = relinked_numbers c.args.ways.now c.args.kept.now in
    let T = c.proof.inside.terms in
    let S = c.proof.inside.steps.items in
    let x = c.in-Some.step in
    let e = c.index-entries-at.result in
    let Y = c.loop-step.yielded in
    let at = c.loop-step.at in
    let rest = into_iter_items c.next.new.self in
    let E = c.args.entries.now in
    let before = c.loop-step.invariant in
    let given : into_iter_items c.into_iter-step-iterator.result ≡ S = search in
    let front = taken_front c.into_iter-step-iterator.result Y c.loop-step.step-iterator c.loop-step.yielded_by in
    let whole : S ≡ Y ++ x ∷ rest = sym given ∙ front ∙ ap (λ l. Y ++ l) c.in-Some.ensures.steps.0 in
    let here : slice_get S at ≡ Some x = ap (λ l. slice_get l at) whole ∙ ap (slice_get (Y ++ x ∷ rest)) before.at ∙ at_front Y x rest in
    let within = slice_get_within S at x here in
    let count : length S ≡ length E = sym (length-map S (step_with T)) ∙ ap length c.proof.view_is ∙ c.requires.one_each in
    let entry : slice_get E at ≡ Some e = slice_get-get_or E at e (omega arith) ∙ ap Some (sym c.index-entries-at.is) in
    let long : length (Y ++ x ∷ []) ≡ length Y + 1 = length-append Y (x ∷ []) in
    let at_is = before.at in
    record {
      at = omega arith;
      made = c.in_ok-push.ensures.items ∙ ap₂ (λ steps step. steps ++ step ∷ []) before.made c.in_ok-relinked_step.ensures
          ∙ sym (with_more f E Y e x (ap (slice_get E) (sym at_is) ∙ entry));
    }

pub invariant_of-result : goal.invariant_of-result
invariant_of-result c =
    let T = c.proof.inside.terms in
    let S = c.proof.inside.steps.items in
    let Y = c.loop-step.yielded in
    let E = c.args.entries.now in
    let given : into_iter_items c.into_iter-step-iterator.result ≡ S = search in
    let front = taken_front c.into_iter-step-iterator.result Y c.loop-step.step-iterator c.loop-step.yielded_by in
    let none = none_of (into_iter_items c.loop-step.step-iterator) (sym c.loop-step.step-iterator.rest.ok.0 ∙ c.in-None.ensures.steps.0) in
    let whole = sym (append-nil Y) ∙ ap (λ l. Y ++ l) (sym none) ∙ sym front ∙ given in
    let count : length S ≡ length E = sym (length-map S (step_with T)) ∙ ap length c.proof.view_is ∙ c.requires.one_each in
    subst (IsProof T) (sym (c.loop-step.invariant.made ∙ ap (with_each (relinked_numbers c.args.ways.now c.args.kept.now) E) whole))
    (still_proof c.args.ways.now c.args.kept.now T E S (omega arith) c.proof.invariant)

pub returns : goal.returns
returns c =
    let T = c.proof.inside.terms in
    let S = c.proof.inside.steps.items in
    let Y = c.loop-step.yielded in
    let E = c.args.entries.now in
    let given : into_iter_items c.into_iter-step-iterator.result ≡ S = search in
    let front = taken_front c.into_iter-step-iterator.result Y c.loop-step.step-iterator c.loop-step.yielded_by in
    let none = none_of (into_iter_items c.loop-step.step-iterator) (sym c.loop-step.step-iterator.rest.ok.0 ∙ c.in-None.ensures.steps.0) in
    let whole = sym (append-nil Y) ∙ ap (λ l. Y ++ l) (sym none) ∙ sym front ∙ given in
    ap (map (step_with T)) (c.loop-step.invariant.made ∙ ap (with_each (relinked_numbers c.args.ways.now c.args.kept.now) E) whole)
    ∙ with_terms_each c.args.ways.now c.args.kept.now T E S ∙ ap (with_each (relinked_step c.args.ways.now c.args.kept.now) E) c.proof.view_is
