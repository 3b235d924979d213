use Rattle.std.proofs.Common.{List, ℕ, ◌<◌, ◌≡◌, All, length, map, slice_index, sym, ap, ap₂, subst, ◌∙◌}
use Rattle.std.proofs.lemmas.List.{length-map}
use Rattle.std.proofs.lemmas.Result.{IfOk-weaker}
use Rattle.term_table.specs.Numbering.{names_of, place_of, with_terms}
use Rattle.proof_file.specs.Steps.{steps_terms, step_with, IsNumberedBelow}
use Rattle.proof_file.specs.TermNumbers.{by_numbers}
use Rattle.proof_file.proofs.NamedLemmas.{places_in, steps_named, steps_below_names, own_distinct}
use Rattle.proof_file.proofs.renumbering.proof_of_steps.Goals as goal

pub invariant_of-result : goal.invariant_of-result
invariant_of-result c =
    let T = c.args.terms in
    let names_are = c.in_ok-numbers.ensures.ok ∙ ap (λ names. with_terms names T) (c.expect.ensures ∙ c.new-names.ensures) in
    let numbers_are = c.in_ok-numbers.ensures.numbers ∙ ap (λ names. map (place_of names) T) names_are in
    let own = subst (λ (ns : List ℕ). (i : ℕ) → i < length ns → slice_index ns i ≡ i) (c.deref.ensures.value ∙ numbers_are) (c.are_own_places.ensures c.if-are_own_places.true) in
    record {
      named = c.come_in_order.ensures c.if-come_in_order.true T (own_distinct T own) (sym c.len-count.ensures)
          ∙ ap (λ steps. names_of (steps_terms (map (step_with T) steps))) c.deref-then-are_own_places.ensures.value;
      inside = c.requires;
    }

pub renumbered-requires-clause-below : goal.renumbered-requires-clause-below
renumbered-requires-clause-below c =
    let count = ap length (c.deref-2.ensures.value ∙ c.in_ok-numbers.ensures.numbers) ∙ length-map c.args.terms (place_of c.intern_all.new.self) in
    subst (λ n. All (IsNumberedBelow n) c.args.steps.items) (sym count) c.requires

pub renumbered-requires-clause-named : goal.renumbered-requires-clause-named
renumbered-requires-clause-named c =
    let T = c.args.terms in
    let S = c.args.steps.items in
    let names_are = c.in_ok-numbers.ensures.ok ∙ ap (λ names. with_terms names T) (c.expect.ensures ∙ c.new-names.ensures) in
    let numbers_are = c.deref-2.ensures.value ∙ c.in_ok-numbers.ensures.numbers ∙ ap (λ names. map (place_of names) T) names_are in
    subst (λ ns. All (IsNumberedBelow (length c.intern_all.new.self)) (map (by_numbers ns) S)) (sym numbers_are)
    (subst (λ names. All (IsNumberedBelow (length names)) (map (by_numbers (places_in T)) S)) (sym names_are) (steps_below_names T S c.requires))

pub returns : goal.returns
returns c =
    let T = c.args.terms in
    let S = c.args.steps.items in
    let names_are = c.in_ok-numbers.ensures.ok ∙ ap (λ names. with_terms names T) (c.expect.ensures ∙ c.new-names.ensures) in
    let numbers_are = c.deref-2.ensures.value ∙ c.in_ok-numbers.ensures.numbers ∙ ap (λ names. map (place_of names) T) names_are in
    let same = ap₂ (λ names ns. map (step_with names) (map (by_numbers ns) S)) names_are numbers_are ∙ steps_named T S c.requires in
    IfOk-weaker c.renumbered.result (λ proof. proof ≡ map (step_with c.intern_all.new.self) (map (by_numbers c.deref-2.result.now) S)) (λ proof. proof ≡ map (step_with T) S) (λ proof is. is ∙ same) c.renumbered.ensures
