-- The verdict over numbers is that over terms.
use Rattle.std.proofs.Common.{List, [], ◌∷◌, ◌++◌, ℕ, zero, suc, ◌+◌, ◌<◌, true, Option, Some, None, map, length, slice_get, slice_index, get_or, All, ◌≡◌, refl, sym, ap, ap₂, subst, ◌∙◌, arith, eqb-true}
use Rattle.std.specs.Option.{option_map}
use Rattle.std.proofs.lemmas.Bool.{and_parts}
use Rattle.std.proofs.lemmas.List.{length-map, map-append}
use Rattle.std.proofs.lemmas.Option.{slice_get-map, slice_get_within, slice_get-get_or, get_or_from_slice_get}
use Rattle.gk_base.specs.declared.term.Term.{Term}
use Rattle.gk_base.specs.declared.term.Term.TheVariants.{Plain}
use Rattle.gk_base.specs.declared.term.Triple.{Triple}
use Rattle.term_table.specs.Numbering.{is_named, place_of, with_terms}
use Rattle.term_table.proofs.CallerLemmas.{is_named-came, slice_get-place_of, place_of-within}
use Rattle.key_file.specs.KeyShape.{KeyShape}
use Rattle.key_file.specs.Key.{IsKey}
use Rattle.key_file.specs.KeyFile.{IsKeyFile}
use Rattle.key_file.specs.Compile.{shape_of}
use Rattle.key_file.proofs.CallerLemmas.{key_facts}
use Rattle.proof_file.specs.Steps.{StepNumbers, step_with, term_at, step_ends, IsNumberedBelow}
use Rattle.proof_check.specs.Verdict.{key_place, reason_at, reason_of, rejected_or, verdict_after, verdict}
use Rattle.proof_check.specs.Ready.{both_terms, AreNumberedLinks, IsMadeOf, renumbered, reason_by, reason_with, number_ends, verdict_with}
use Rattle.proof_check.specs.declared.checker.Checker.{Checker}
use Rattle.proof_check.specs.declared.reason.Reason.{Reason}
use Rattle.proof_check.specs.declared.verdict.Verdict.{Verdict}
use Rattle.proof_check.specs.declared.verdict.Verdict.TheVariants.{Accepted}
use Rattle.proof_check.proofs.ListFacts.{get_or-map, places_below}
use Rattle.proof_check.proofs.ToNumbers.{holds_at, ends_inside}
use Rattle.proof_check.proofs.SameReason.{HasNames, reason_same}

-- ---- a step by the numbers of names

-- terms that came behind names, and their numbers
module _ (before names terms : List Term) (numbers : List ℕ) (grown : names ≡ with_terms before terms) (are : numbers ≡ map (place_of names) terms) where
  named : (n : ℕ) (u : Term) → slice_get terms n ≡ Some u → is_named names u ≡ true
  named n u at = ap (λ l. is_named l u) grown ∙ is_named-came before terms n u at

  -- there is a number for each term
  pub one_each : length numbers ≡ length terms
  one_each = ap length are ∙ length-map terms (place_of names)

  -- they are places of names
  pub numbers_inside : All (λ n. n < length names) numbers
  numbers_inside = λ i d l.
      let size = one_each in
      let within : i < length terms = omega arith in
      let at = slice_get-get_or terms i (Plain []) within in
      let is = ap (λ l. get_or l i d) are ∙ get_or-map (place_of names) terms i (Plain []) d within in
      let w = place_of-within names (term_at terms i) (named i (term_at terms i) at) in
      omega arith

  -- at which the terms stand
  number_term : (n : ℕ) → n < length terms → term_at names (slice_index numbers n) ≡ term_at terms n
  number_term n h =
      let u = term_at terms n in
      let at = slice_get-get_or terms n (Plain []) h in
      ap (λ l. term_at names (slice_index l n)) are ∙ ap (term_at names) (get_or-map (place_of names) terms n (Plain []) 0 h)
      ∙ get_or_from_slice_get names (place_of names u) u (Plain []) (slice_get-place_of names u (named n u at))

  side_same : (side : List ℕ) → All (λ n. n < length terms) side → map (term_at names) (map (slice_index numbers) side) ≡ map (term_at terms) side
  side_same [] h = refl
  side_same (n ∷ side) h = ap₂ (λ t ts. t ∷ ts) (number_term n (h 0 0 (omega arith))) (side_same side (λ i d l. h (suc i) d (omega arith)))

  pub steps_same : (steps : List StepNumbers) → All (IsNumberedBelow (length terms)) steps → map (step_with names) (map (renumbered numbers) steps) ≡ map (step_with terms) steps
  steps_same [] h = refl
  steps_same (step ∷ steps) h =
      let here = h 0 step (omega arith) in
      let l = side_same step.left here.0 in
      let r = side_same step.right here.1 in
      let one : step_with names (renumbered numbers step) ≡ step_with terms step = λ i. record { key = step.key; left = l i; right = r i; supports = step.supports } in
      ap₂ (λ t ts. t ∷ ts) one (steps_same steps (λ i d l. h (suc i) d (omega arith)))

  side_inside : (side : List ℕ) → All (λ n. n < length terms) side → All (λ n. n < length names) (map (slice_index numbers) side)
  side_inside side h = places_below numbers side (length names) numbers_inside (subst (λ count. All (λ n. n < count) side) (sym one_each) h)

  pub steps_inside : (steps : List StepNumbers) → All (IsNumberedBelow (length terms)) steps → All (IsNumberedBelow (length names)) (map (renumbered numbers) steps)
  steps_inside steps h = λ i d l.
      let c = length-map steps (renumbered numbers) in
      let within : i < length steps = omega arith in
      let here = h i d within in
      subst (IsNumberedBelow (length names)) (sym (get_or-map (renumbered numbers) steps i d d within)) (side_inside (get_or steps i d).left here.0, side_inside (get_or steps i d).right here.1)

-- ---- the verdict

module _ (triples : List Triple) (keys : List KeyShape) (checker : Checker) (made : IsMadeOf checker triples keys) (file : IsKeyFile keys) where
  abbrev names : List Term
  names = checker.names

  key_is : (k : ℕ) (key : KeyShape) → slice_get keys k ≡ Some key → IsKey key
  key_is k key at = subst IsKey (get_or_from_slice_get keys k key key at) (file.valid k key (slice_get_within keys k key at))

  has_names : (k : ℕ) (key : KeyShape) → slice_get keys k ≡ Some key → HasNames names key
  has_names k key at = record { slots = λ s j slot u in_key in_slot. made.named.slots k s j key slot u at in_key in_slot; preds = λ i e in_key. made.named.preds k i key e at in_key }

  by_key : (ends : List (ℕ × ℕ)) → AreNumberedLinks (length names) ends → (step : StepNumbers) → IsNumberedBelow (length names) step → (k : ℕ) (o : Option KeyShape) → slice_get keys k ≡ o →
      reason_by checker ends step (option_map (shape_of names) o) ≡ reason_at triples (map (both_terms names) ends) (step_with names step) o
  by_key ends inside step is k None at = refl
  by_key ends inside step is k (Some key) at =
      reason_same triples names checker.rows checker.known.items checker.kind made.look key (has_names k key at) (ends_inside key (key_is k key at)) ends inside step is.0 is.1

  pub reason_is : (ends : List (ℕ × ℕ)) → AreNumberedLinks (length names) ends → (step : StepNumbers) → IsNumberedBelow (length names) step →
      reason_with checker keys ends step ≡ reason_of triples keys (map (both_terms names) ends) (step_with names step)
  reason_is ends inside step is =
      let k = key_place keys step.key in
      ap (λ ps. reason_by checker ends step (slice_get ps k)) made.compiled ∙ ap (reason_by checker ends step) (slice_get-map (shape_of names) keys k)
      ∙ by_key ends inside step is k (slice_get keys k) refl

  -- a step against which there is no reason has ends
  has_some : (earlier : List (Term × Term)) (step : StepNumbers) → reason_of triples keys earlier (step_with names step) ≡ None → (0 < length step.left) × (0 < length step.right)
  has_some earlier step h =
      let found = holds_at triples earlier (step_with names step) (slice_get keys (key_place keys step.key)) h in
      let parts = and_parts _ _ found.2.shape in
      let counts = and_parts _ _ parts.0 in
      let l : length (map (term_at names) step.left) ≡ length found.0.slots = eqb-true _ _ counts.0 in
      let r : length (map (term_at names) step.right) ≡ length found.0.slots = eqb-true _ _ counts.1 in
      let p = length-map step.left (term_at names) in
      let q = length-map step.right (term_at names) in
      let some = slice_get_within found.0.slots 0 _ (key_facts found.0 (key_is (key_place keys step.key) found.0 found.1)).first.2 in
      (omega arith, omega arith)

  ends_more : (ends : List (ℕ × ℕ)) (p : ℕ × ℕ) → AreNumberedLinks (length names) ends → (p.0 < length names) × (p.1 < length names) → AreNumberedLinks (length names) (ends ++ p ∷ [])
  ends_more [] p inside is zero q at = let same : p ≡ q = cc in subst (λ (r : ℕ × ℕ). (r.0 < length names) × (r.1 < length names)) same is
  ends_more [] p inside is (suc k) q at = absurd cc
  ends_more (e ∷ ends) p inside is zero q at = inside zero q at
  ends_more (e ∷ ends) p inside is (suc k) q at = ends_more ends p (λ i r h. inside (suc i) r h) is k q at

  same_from : (ends : List (ℕ × ℕ)) → AreNumberedLinks (length names) ends → (steps : List StepNumbers) → All (IsNumberedBelow (length names)) steps →
      verdict_with checker keys ends steps ≡ verdict_after triples keys (map (both_terms names) ends) (map (step_with names) steps)
  same_from ends inside [] is = let n = length-map ends (both_terms names) in ap Accepted (sym n)
  same_from ends inside (step ∷ steps) is =
      let here : IsNumberedBelow (length names) step = is 0 step (omega arith) in
      let n = length-map ends (both_terms names) in
      let reason = reason_is ends inside step here in
      ap (λ o. rejected_or o (length ends + 1) (verdict_with checker keys (ends ++ number_ends step ∷ []) steps)) reason
      ∙ by_reason _ _ _ (reason_of triples keys (map (both_terms names) ends) (step_with names step)) refl (λ none.
      let some = has_some (map (both_terms names) ends) step none in
      let grown = ends_more ends (number_ends step) inside (here.0 0 0 some.0, here.1 0 0 some.1) in
      let link : both_terms names (number_ends step) ≡ step_ends (step_with names step) = λ i. (sym (get_or-map (term_at names) step.left 0 0 (Plain []) some.0) i, sym (get_or-map (term_at names) step.right 0 0 (Plain []) some.1) i) in
      same_from (ends ++ number_ends step ∷ []) grown steps (λ i d l. is (suc i) d (omega arith))
      ∙ ap (λ l. verdict_after triples keys l (map (step_with names) steps)) (map-append (both_terms names) ends (number_ends step ∷ []) ∙ ap (λ e. map (both_terms names) ends ++ e ∷ []) link))
      ∙ ap (λ m. rejected_or (reason_of triples keys (map (both_terms names) ends) (step_with names step)) (m + 1) (verdict_after triples keys (map (both_terms names) ends ++ step_ends (step_with names step) ∷ []) (map (step_with names) steps))) (sym n)
    where
      by_reason : (number : ℕ) (a b : Verdict) (o : Option Reason) → reason_of triples keys (map (both_terms names) ends) (step_with names step) ≡ o → (reason_of triples keys (map (both_terms names) ends) (step_with names step) ≡ None → a ≡ b) → rejected_or o number a ≡ rejected_or o number b
      by_reason number a b None e h = h e
      by_reason number a b (Some r) e h = refl

  pub same_verdict : (steps : List StepNumbers) → All (IsNumberedBelow (length names)) steps → verdict_with checker keys [] steps ≡ verdict triples keys (map (step_with names) steps)
  same_verdict steps h = same_from [] (λ k p at. absurd cc) steps h
