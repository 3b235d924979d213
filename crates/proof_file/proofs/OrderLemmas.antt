-- Terms that come in the order of their numbers.
use Rattle.std.proofs.Common.{List, [], ◌∷◌, ◌++◌, ℕ, ◌+◌, ◌<◌, ◌≤◌, false, Some, length, map, take, get_or, slice_get, ◌≡◌, refl, sym, ap, subst, ◌∙◌, arith}
use Rattle.std.proofs.lemmas.Bool.{false_from_ne_true}
use Rattle.std.proofs.lemmas.List.{take_all, take_more, map_more, get_or-take, length-take-le}
use Rattle.std.proofs.lemmas.List.Sums.{fold-append}
use Rattle.std.proofs.lemmas.Option.{slice_get-get_or, slice_get_within, get_or_from_slice_get}
use Rattle.gk_base.specs.declared.term.Term.{Term}
use Rattle.gk_base.specs.declared.term.Term.TheVariants.{Plain}
use Rattle.term_table.specs.Numbering.{is_named, with_term, with_terms, names_of, AreDistinct}
use Rattle.term_table.proofs.CallerLemmas.{is_named-at, place-is_named, with_term-named, with_term-new}
use Rattle.proof_file.specs.Steps.{StepNumbers, term_at, step_terms, steps_terms, step_with}
use Rattle.proof_file.specs.InOrder.{ComeInOrder}
use Rattle.proof_file.proofs.InNumbers.{side_terms, steps_terms-push}

-- the term at a place among the first terms of a list
among_first : (terms : List Term) (more n : ℕ) → n < more → more ≤ length terms → slice_get (take more terms) n ≡ Some (term_at terms n)
among_first terms more n l le =
    let count = length-take-le more terms le in
    slice_get-get_or (take more terms) n (Plain []) (omega arith) ∙ ap Some (get_or-take more terms n (Plain []) l)

-- it is not among those before it
not_before : (terms : List Term) (n : ℕ) → AreDistinct terms → n < length terms → is_named (take n terms) (term_at terms n) ≡ false
not_before terms n distinct l =
    let t = term_at terms n in
    false_from_ne_true (is_named (take n terms) t) (λ named.
    let found = place-is_named (take n terms) t named in
    let k = found.0 in
    let count = length-take-le n terms (omega arith) in
    let within = slice_get_within (take n terms) k t found.1 in
    let below : k < n = omega arith in
    let there : slice_get terms k ≡ Some t =
    slice_get-get_or terms k (Plain []) (omega arith) ∙ ap Some (sym (get_or-take n terms k (Plain []) below) ∙ get_or_from_slice_get (take n terms) k t (Plain []) found.1) in
    let same = distinct.one_place k n t there (slice_get-get_or terms n (Plain []) l) in
    omega arith)

-- the terms of the first numbers of a side
abbrev pub FirstOf : List ℕ → ℕ → List Term → List Term
FirstOf side i terms = map (term_at terms) (take i side)

-- one number more that has come
pub known_comes : (come more : ℕ) (side : List ℕ) (i : ℕ) → ComeInOrder come more (FirstOf side i) → i < length side → get_or side i 0 < more → ComeInOrder come more (FirstOf side (i + 1))
known_comes come more side i h l known = record {
  not_fewer = h.not_fewer;
  then_come = λ terms distinct le.
      let t = term_at terms (get_or side i 0) in
      side_terms terms (take come terms) side i l ∙ ap (λ ts. with_term ts t) (h.then_come terms distinct le)
      ∙ with_term-named (take more terms) t (is_named-at (take more terms) t (get_or side i 0) (among_first terms more (get_or side i 0) known le));
}

-- one that is the next
pub new_comes : (come more : ℕ) (side : List ℕ) (i : ℕ) → ComeInOrder come more (FirstOf side i) → i < length side → get_or side i 0 ≡ more → ComeInOrder come (more + 1) (FirstOf side (i + 1))
new_comes come more side i h l next = record {
  not_fewer = (let le = h.not_fewer in omega arith);
  then_come = λ terms distinct le.
      let t = term_at terms more in
      side_terms terms (take come terms) side i l ∙ ap (λ n. with_term (with_terms (take come terms) (FirstOf side i terms)) (term_at terms n)) next
      ∙ ap (λ ts. with_term ts t) (h.then_come terms distinct (omega arith))
      ∙ with_term-new (take more terms) t (not_before terms more distinct (omega arith))
      ∙ sym (take_more terms more (Plain []) (omega arith));
}

-- the whole side
pub side_comes : (come more : ℕ) (side : List ℕ) (i : ℕ) → ComeInOrder come more (FirstOf side i) → length side ≤ i → ComeInOrder come more (λ terms. map (term_at terms) side)
side_comes come more side i h past = record {
  not_fewer = h.not_fewer;
  then_come = λ terms distinct le. ap (λ ns. with_terms (take come terms) (map (term_at terms) ns)) (sym (take_all i side past)) ∙ h.then_come terms distinct le;
}

-- one part after another
pub both_come : (come more all : ℕ) (first later : List Term → List Term) → ComeInOrder come more first → ComeInOrder more all later → ComeInOrder come all (λ terms. first terms ++ later terms)
both_come come more all first later f g =
    let m = f.not_fewer in
    let n = g.not_fewer in
    record {
      not_fewer = omega arith;
      then_come = λ terms distinct le.
          fold-append with_term (take come terms) (first terms) (later terms) ∙ ap (λ ts. with_terms ts (later terms)) (f.then_come terms distinct (omega arith)) ∙ g.then_come terms distinct le;
    }

-- the terms of the first steps
abbrev pub FirstSteps : List StepNumbers → ℕ → List Term → List Term
FirstSteps steps i terms = steps_terms (map (step_with terms) (take i steps))

-- one step more
pub step_comes : (come more all : ℕ) (steps : List StepNumbers) (i : ℕ) (step : StepNumbers) → ComeInOrder come more (FirstSteps steps i) → ComeInOrder more all (λ terms. step_terms (step_with terms step)) →
    i < length steps → get_or steps i step ≡ step → ComeInOrder come all (FirstSteps steps (i + 1))
step_comes come more all steps i step f g l is =
    let both = both_come come more all (FirstSteps steps i) (λ terms. step_terms (step_with terms step)) f g in
    record {
      not_fewer = both.not_fewer;
      then_come = λ terms distinct le.
          ap (λ ss. with_terms (take come terms) (steps_terms ss)) (map_more (step_with terms) steps i step l ∙ ap (λ s. map (step_with terms) (take i steps) ++ step_with terms s ∷ []) is)
          ∙ ap (with_terms (take come terms)) (steps_terms-push (map (step_with terms) (take i steps)) (step_with terms step))
          ∙ both.then_come terms distinct le;
    }

-- all of them
pub all_come : (count : ℕ) (steps : List StepNumbers) (i : ℕ) (terms : List Term) → ComeInOrder 0 count (FirstSteps steps i) → length steps ≤ i → AreDistinct terms → length terms ≡ count →
    terms ≡ names_of (steps_terms (map (step_with terms) steps))
all_come count steps i terms h past distinct are =
    sym (ap (λ ss. names_of (steps_terms (map (step_with terms) ss))) (sym (take_all i steps past)) ∙ h.then_come terms distinct (omega arith) ∙ take_all count terms (omega arith))
