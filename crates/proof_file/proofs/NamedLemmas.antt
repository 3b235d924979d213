-- Steps with names in place of the terms of a list.
use Rattle.std.proofs.Common.{List, [], ◌∷◌, ◌++◌, ℕ, ◌<◌, true, Some, All, length, map, slice_get, slice_index, ◌≡◌, refl, sym, ap, ap₂, subst, ◌∙◌}
use Rattle.std.proofs.lemmas.List.{length-map}
use Rattle.std.proofs.lemmas.List.Elements.{All-nil, All-cons, All-head, All-tail}
use Rattle.std.proofs.lemmas.Option.{slice_get-map, slice_get-get_or, slice_get_within, get_or_from_slice_get}
use Rattle.std.specs.Option.{option_map}
use Rattle.gk_base.specs.declared.term.Term.{Term}
use Rattle.gk_base.specs.declared.term.Term.TheVariants.{Plain}
use Rattle.term_table.specs.Numbering.{is_named, place_of, names_of, AreDistinct}
use Rattle.term_table.proofs.CallerLemmas.{is_named-came, place_of-within, slice_get-place_of}
use Rattle.proof_file.specs.Steps.{StepNumbers, term_at, step_with, IsNumberedBelow}
use Rattle.proof_file.specs.TermNumbers.{by_numbers}

pub map_parts : {X Y : Type 0} (f : X → Y) (xs ys : List X) → map f (xs ++ ys) ≡ map f xs ++ map f ys
map_parts f [] ys = refl
map_parts f (x ∷ xs) ys = ap (λ l. f x ∷ l) (map_parts f xs ys)

-- the numbers of the terms of a list as names
abbrev pub places_in : List Term → List ℕ
places_in terms = map (place_of (names_of terms)) terms

module _ (terms : List Term) where
  place_is : (n : ℕ) → n < length terms → slice_index (places_in terms) n ≡ place_of (names_of terms) (term_at terms n)
  place_is n l =
      get_or_from_slice_get (places_in terms) n (place_of (names_of terms) (term_at terms n)) 0
      (slice_get-map (place_of (names_of terms)) terms n ∙ ap (option_map (place_of (names_of terms))) (slice_get-get_or terms n (Plain []) l))

  is_name : (n : ℕ) → n < length terms → is_named (names_of terms) (term_at terms n) ≡ true
  is_name n l = is_named-came [] terms n (term_at terms n) (slice_get-get_or terms n (Plain []) l)

  side_named : (side : List ℕ) → All (λ n. n < length terms) side → map (term_at (names_of terms)) (map (slice_index (places_in terms)) side) ≡ map (term_at terms) side
  side_named [] h = refl
  side_named (n ∷ side) h =
      let P : ℕ → Type 0 = λ k. k < length terms in
      let l = All-head P n side h in
      ap₂ (λ t ts. t ∷ ts)
      (ap (term_at (names_of terms)) (place_is n l) ∙ get_or_from_slice_get (names_of terms) (place_of (names_of terms) (term_at terms n)) (term_at terms n) (Plain []) (slice_get-place_of (names_of terms) (term_at terms n) (is_name n l)))
      (side_named side (All-tail P n side h))

  side_below : (side : List ℕ) → All (λ n. n < length terms) side → All (λ n. n < length (names_of terms)) (map (slice_index (places_in terms)) side)
  side_below [] h = All-nil (λ n. n < length (names_of terms))
  side_below (n ∷ side) h =
      let P : ℕ → Type 0 = λ k. k < length terms in
      let Q : ℕ → Type 0 = λ k. k < length (names_of terms) in
      let l = All-head P n side h in
      All-cons Q (slice_index (places_in terms) n) (map (slice_index (places_in terms)) side)
      (subst Q (sym (place_is n l)) (place_of-within (names_of terms) (term_at terms n) (is_name n l))) (side_below side (All-tail P n side h))

  -- the steps have the same terms
  pub steps_named : (steps : List StepNumbers) → All (IsNumberedBelow (length terms)) steps → map (step_with (names_of terms)) (map (by_numbers (places_in terms)) steps) ≡ map (step_with terms) steps
  steps_named [] h = refl
  steps_named (step ∷ steps) h =
      let here = All-head (IsNumberedBelow (length terms)) step steps h in
      let l = side_named step.left here.0 in
      let r = side_named step.right here.1 in
      let one : step_with (names_of terms) (by_numbers (places_in terms) step) ≡ step_with terms step = λ i. record { key = step.key; left = l i; right = r i; supports = step.supports } in
      ap₂ (λ s ss. s ∷ ss) one (steps_named steps (All-tail (IsNumberedBelow (length terms)) step steps h))

  -- and their numbers are those of names
  pub steps_below_names : (steps : List StepNumbers) → All (IsNumberedBelow (length terms)) steps → All (IsNumberedBelow (length (names_of terms))) (map (by_numbers (places_in terms)) steps)
  steps_below_names [] h = All-nil (IsNumberedBelow (length (names_of terms)))
  steps_below_names (step ∷ steps) h =
      let here = All-head (IsNumberedBelow (length terms)) step steps h in
      All-cons (IsNumberedBelow (length (names_of terms))) (by_numbers (places_in terms) step) (map (by_numbers (places_in terms)) steps)
      (side_below step.left here.0, side_below step.right here.1) (steps_below_names steps (All-tail (IsNumberedBelow (length terms)) step steps h))

  -- terms that have their own places as names are distinct
  pub own_distinct : ((i : ℕ) → i < length (places_in terms) → slice_index (places_in terms) i ≡ i) → AreDistinct terms
  own_distinct own = record {
    one_place = λ i j t at_i at_j.
        sym (own i (within i t at_i)) ∙ place_is i (slice_get_within terms i t at_i) ∙ ap (place_of (names_of terms)) (get_or_from_slice_get terms i t (Plain []) at_i ∙ sym (get_or_from_slice_get terms j t (Plain []) at_j))
        ∙ sym (place_is j (slice_get_within terms j t at_j)) ∙ own j (within j t at_j);
  }
    where
      within : (i : ℕ) (t : Term) → slice_get terms i ≡ Some t → i < length (places_in terms)
      within i t at = subst (λ n. i < n) (sym (length-map terms (place_of (names_of terms)))) (slice_get_within terms i t at)
