use Rattle.std.proofs.Common.{[], ◌∷◌, ◌++◌, ◌+◌, ◌≡◌, Some, length, map, take, slice_get, arith, sym, ap, ap₂, subst, ◌∙◌}
use Rattle.std.proofs.lemmas.List.{take_all, map_more, get_or_read}
use Rattle.std.proofs.lemmas.Option.{slice_get_within, slice_get-get_or}
use Rattle.term_table.specs.Numbering.{with_terms, names_of}
use Rattle.proof_file.specs.Steps.{NoneTwiceInSupports, step_terms, steps_terms, in_numbers}
use Rattle.proof_file.specs.Tells.{TellsAll}
use Rattle.proof_graph.specs.Built.{built_entry, FitsPattern}
use Rattle.proof_file.proofs.CallerLemmas.{names_more, numbers_more, in_numbers_parts}
use Rattle.proof_graph.proofs.TellsLemmas.{supported_fits, told_all, once_all, entry_is}
use Rattle.proof_graph.proofs.build.build_proof.Goals as goal

pub bounds-patterns-key : goal.bounds-patterns-key
bounds-patterns-key c =
    let i = c.loop-entry.entry-index in
    let e = c.entry-item.result in
    let at : slice_get c.args.journal.now i ≡ Some e = slice_get-get_or c.args.journal.now i e c.loop-entry-test.true ∙ ap Some (sym c.entry-item.is) in
    let s = c.requires.supported i e at in
    slice_get_within c.args.patterns.now e.key s.pattern s.key

pub bounds-key_names-key : goal.bounds-key_names-key
bounds-key_names-key c =
    let i = c.loop-entry.entry-index in
    let e = c.entry-item.result in
    let at : slice_get c.args.journal.now i ≡ Some e = slice_get-get_or c.args.journal.now i e c.loop-entry-test.true ∙ ap Some (sym c.entry-item.is) in
    let s = c.requires.supported i e at in
    let w = slice_get_within c.args.patterns.now e.key s.pattern s.key in
    let n = c.requires.named in
    omega arith

pub step-requires-clause-fits : goal.step-requires-clause-fits
step-requires-clause-fits c =
    let H = c.args.journal.now in
    let K = c.args.patterns.now in
    let i = c.loop-entry.entry-index in
    let e = c.entry-item.result in
    let Q = c.index-patterns-key.result in
    let at : slice_get H i ≡ Some e = slice_get-get_or H i e c.loop-entry-test.true ∙ ap Some (sym c.entry-item.is) in
    let s = c.requires.supported i e at in
    let w = slice_get_within K e.key s.pattern s.key in
    let found : slice_get K e.key ≡ Some Q = slice_get-get_or K e.key Q w ∙ ap Some (sym c.index-patterns-key.is) in
    subst (λ J. FitsPattern (length c.args.names.now) J Q e) (sym c.in_ok-ways.ensures) (supported_fits (length c.args.names.now) K H i e Q s found)

pub loop-entry-preserved : goal.loop-entry-preserved
loop-entry-preserved c =
    let H = c.args.journal.now in
    let K = c.args.patterns.now in
    let key_names = c.args.key_names.now in
    let names = c.args.names.now in
    let i = c.loop-entry.entry-index in
    let e = c.entry-item.result in
    let l = c.loop-entry-test.true in
    let at : slice_get H i ≡ Some e = slice_get-get_or H i e l ∙ ap Some (sym c.entry-item.is) in
    let s = c.requires.supported i e at in
    let w = slice_get_within K e.key s.pattern s.key in
    let n = c.requires.named in
    let pattern = get_or_read K e.key c.index-patterns-key.result w c.index-patterns-key.is (record { slots = []; edges = [] }) in
    let name = get_or_read key_names e.key c.index-key_names-key.result (omega arith) c.index-key_names-key.is [] in
    let B = built_entry names K key_names H in
    let S = map B (take i H) in
    let T = c.loop-entry.numbers.terms in
    let later = c.step.new.numbers.terms in
    let before = c.loop-entry.invariant in
    let step_is = entry_is names K key_names c.in_ok-ways.ways H c.index-patterns-key.result c.index-key_names-key.result e c.in_ok-ways.ensures pattern name in
    let grown = c.in_ok-made.ensures.terms ∙ ap (λ step. with_terms T (step_terms step)) step_is in
    let made = c.in_ok-made.ensures.step ∙ ap (in_numbers later) step_is in
    let more : map B (take (i + 1) H) ≡ S ++ B e ∷ [] = map_more B H i e l ∙ ap (λ f. S ++ B f ∷ []) (sym c.entry-item.is) in
    record {
      terms = grown ∙ ap (λ ts. with_terms ts (step_terms (B e))) before.terms ∙ sym (names_more S (B e)) ∙ ap (λ steps. names_of (steps_terms steps)) (sym more);
      steps = c.in_ok-push.ensures.items ∙ ap₂ (λ steps step. steps ++ step ∷ []) before.steps made ∙ sym (numbers_more S (B e) T later before.terms grown) ∙ ap (map (in_numbers later)) (sym more);
      places = c.in_ok-made.ensures.places;
    }

pub invariant_of-result : goal.invariant_of-result
invariant_of-result c =
    let i = c.loop-entry.entry-index in
    let B = built_entry c.args.names.now c.args.patterns.now c.args.key_names.now c.args.journal.now in
    (in_numbers_parts (map B (take i c.args.journal.now)) c.loop-entry.numbers.terms c.loop-entry.steps.items c.loop-entry.invariant.terms c.loop-entry.invariant.steps).0

pub returns-clause-tells : goal.returns-clause-tells
returns-clause-tells c =
    let H = c.args.journal.now in
    let i = c.loop-entry.entry-index in
    let B = built_entry c.args.names.now c.args.patterns.now c.args.key_names.now H in
    let past = c.loop-entry-test.false in
    let view = (in_numbers_parts (map B (take i H)) c.loop-entry.numbers.terms c.loop-entry.steps.items c.loop-entry.invariant.terms c.loop-entry.invariant.steps).1 in
    subst (TellsAll c.args.names.now c.args.patterns.now c.args.key_names.now H) (sym (view ∙ ap (map B) (take_all i H past)))
    (told_all c.args.names.now c.len-distinct.ensures.distinct c.args.patterns.now c.args.key_names.now H c.all_valid.ensures.facts c.requires.supported c.requires.named)

pub returns-clause-once : goal.returns-clause-once
returns-clause-once c =
    let H = c.args.journal.now in
    let i = c.loop-entry.entry-index in
    let B = built_entry c.args.names.now c.args.patterns.now c.args.key_names.now H in
    let past = c.loop-entry-test.false in
    let view = (in_numbers_parts (map B (take i H)) c.loop-entry.numbers.terms c.loop-entry.steps.items c.loop-entry.invariant.terms c.loop-entry.invariant.steps).1 in
    subst NoneTwiceInSupports (sym (view ∙ ap (map B) (take_all i H past)))
    (once_all c.args.names.now c.len-distinct.ensures.distinct c.args.patterns.now c.args.key_names.now H c.all_valid.ensures.facts c.requires.supported c.requires.named)
