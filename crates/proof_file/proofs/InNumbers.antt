-- Steps with numbers in place of their terms.
use Rattle.std.proofs.Common.{List, [], ◌∷◌, ◌++◌, ℕ, ◌+◌, ◌<◌, true, All, map, length, get_or, take, ◌≡◌, refl, sym, ap, ap₂, subst, ◌∙◌, append-nil, append_assoc}
use Rattle.std.proofs.lemmas.List.{map_push, map_more}
use Rattle.std.proofs.lemmas.List.Sums.{fold-append}
use Rattle.std.proofs.lemmas.List.Elements.{All-nil, All-cons, All-head, All-tail, All-weaker, All-map}
use Rattle.std.proofs.lemmas.Option.{slice_get-get_or, get_or_from_slice_get}
use Rattle.gk_base.specs.declared.term.Term.{Term}
use Rattle.gk_base.specs.declared.term.Term.TheVariants.{Plain}
use Rattle.term_table.specs.Numbering.{is_named, place_of, with_term, with_terms, names_of, AreDistinct}
use Rattle.term_table.proofs.CallerLemmas.{is_named-came, is_named-with_terms, AreDistinct-names_of, place_of-at, place_of-with_terms, place_of-within, slice_get-place_of, names_of-append}
use Rattle.proof_file.specs.CanonicalProof.{numbered_text, proof_text}
use Rattle.proof_file.specs.Steps.{StepShape, StepNumbers, term_at, step_terms, steps_terms, step_with, IsNumberedBelow, IsProof, in_numbers}

-- each of these terms is a name
abbrev pub AreNamedIn : List Term → List Term → Type 0
AreNamedIn terms side = All (λ t. is_named terms t ≡ true) side

pub named_came : (terms side : List Term) → AreNamedIn (with_terms terms side) side
named_came terms side i d l = is_named-came terms side i (get_or side i d) (slice_get-get_or side i d l)

pub named_stay : (terms more side : List Term) → AreNamedIn terms side → AreNamedIn (with_terms terms more) side
named_stay terms more side h = All-weaker (λ t. is_named terms t ≡ true) (λ t. is_named (with_terms terms more) t ≡ true) (λ t k. is_named-with_terms terms more t k) side h

-- the numbers of names stay as more terms come
pub places_stay : (terms more side : List Term) → AreNamedIn terms side → map (place_of (with_terms terms more)) side ≡ map (place_of terms) side
places_stay terms more [] h = refl
places_stay terms more (t ∷ side) h =
    let P : Term → Type 0 = λ u. is_named terms u ≡ true in
    ap₂ (λ n ns. n ∷ ns) (place_of-with_terms terms more t (All-head P t side h)) (places_stay terms more side (All-tail P t side h))

-- the terms with the numbers of names are the names
pub terms_back : (terms side : List Term) → AreNamedIn terms side → map (term_at terms) (map (place_of terms) side) ≡ side
terms_back terms [] h = refl
terms_back terms (t ∷ side) h =
    let P : Term → Type 0 = λ u. is_named terms u ≡ true in
    ap₂ (λ u us. u ∷ us) (get_or_from_slice_get terms (place_of terms t) t (Plain []) (slice_get-place_of terms t (All-head P t side h))) (terms_back terms side (All-tail P t side h))

places_below : (terms side : List Term) → AreNamedIn terms side → All (λ n. n < length terms) (map (place_of terms) side)
places_below terms side h = All-map (λ n. n < length terms) (place_of terms) side (All-weaker (λ t. is_named terms t ≡ true) (λ t. place_of terms t < length terms) (λ t k. place_of-within terms t k) side h)

-- what holds of each element of two lists in a row
pub All-parts : {X : Type 0} (P : X → Type 0) (xs ys : List X) → All P (xs ++ ys) → All P xs × All P ys
All-parts P [] ys h = (All-nil P, h)
All-parts P (x ∷ xs) ys h = let r = All-parts P xs ys (All-tail P x (xs ++ ys) h) in (All-cons P x xs (All-head P x (xs ++ ys) h) r.0, r.1)

module _ (terms : List Term) where
  abbrev Named : Term → Type 0
  Named t = is_named terms t ≡ true

  pub step_stays : (more : List Term) (step : StepShape) → AreNamedIn terms (step_terms step) → in_numbers (with_terms terms more) step ≡ in_numbers terms step
  step_stays more step h =
      let parts = All-parts Named step.left step.right h in
      let l = places_stay terms more step.left parts.0 in
      let r = places_stay terms more step.right parts.1 in
      λ i. record { key = step.key; left = l i; right = r i; supports = step.supports }

  pub steps_stay : (more : List Term) (steps : List StepShape) → AreNamedIn terms (steps_terms steps) → map (in_numbers (with_terms terms more)) steps ≡ map (in_numbers terms) steps
  steps_stay more [] h = refl
  steps_stay more (step ∷ steps) h =
      let parts = All-parts Named (step_terms step) (steps_terms steps) h in
      ap₂ (λ s ss. s ∷ ss) (step_stays more step parts.0) (steps_stay more steps parts.1)

  step_back : (step : StepShape) → AreNamedIn terms (step_terms step) → step_with terms (in_numbers terms step) ≡ step
  step_back step h =
      let parts = All-parts Named step.left step.right h in
      let l = terms_back terms step.left parts.0 in
      let r = terms_back terms step.right parts.1 in
      λ i. record { key = step.key; left = l i; right = r i; supports = step.supports }

  pub steps_back : (steps : List StepShape) → AreNamedIn terms (steps_terms steps) → map (step_with terms) (map (in_numbers terms) steps) ≡ steps
  steps_back [] h = refl
  steps_back (step ∷ steps) h =
      let parts = All-parts Named (step_terms step) (steps_terms steps) h in
      ap₂ (λ s ss. s ∷ ss) (step_back step parts.0) (steps_back steps parts.1)

  pub steps_below : (steps : List StepShape) → AreNamedIn terms (steps_terms steps) → All (IsNumberedBelow (length terms)) (map (in_numbers terms) steps)
  steps_below [] h = All-nil (IsNumberedBelow (length terms))
  steps_below (step ∷ steps) h =
      let parts = All-parts Named (step_terms step) (steps_terms steps) h in
      let sides = All-parts Named step.left step.right parts.0 in
      All-cons (IsNumberedBelow (length terms)) (in_numbers terms step) (map (in_numbers terms) steps)
      (places_below terms step.left sides.0, places_below terms step.right sides.1) (steps_below steps parts.1)

-- the terms of steps are the names of themselves
pub all_named : (steps : List StepShape) → AreNamedIn (names_of (steps_terms steps)) (steps_terms steps)
all_named steps = named_came [] (steps_terms steps)

-- steps in numbers are those of a proof
pub in_numbers_proof : (steps : List StepShape) → IsProof (names_of (steps_terms steps)) (map (in_numbers (names_of (steps_terms steps))) steps)
in_numbers_proof steps =
    let terms = names_of (steps_terms steps) in
    let back = steps_back terms steps (all_named steps) in
    record { named = ap (λ l. names_of (steps_terms l)) (sym back); inside = steps_below terms steps (all_named steps) }

-- which has these steps
pub in_numbers_view : (steps : List StepShape) → map (step_with (names_of (steps_terms steps))) (map (in_numbers (names_of (steps_terms steps))) steps) ≡ steps
in_numbers_view steps = steps_back (names_of (steps_terms steps)) steps (all_named steps)

-- the same where the parts are equal to those
pub in_numbers_parts : (steps : List StepShape) (terms : List Term) (numbers : List StepNumbers) → terms ≡ names_of (steps_terms steps) → numbers ≡ map (in_numbers terms) steps → IsProof terms numbers × (map (step_with terms) numbers ≡ steps)
in_numbers_parts steps terms numbers named are =
    let is : numbers ≡ map (in_numbers (names_of (steps_terms steps))) steps = are ∙ ap (λ t. map (in_numbers t) steps) named in (
      subst (λ t. IsProof t numbers) (sym named) (subst (λ n. IsProof (names_of (steps_terms steps)) n) (sym is) (in_numbers_proof steps)),
      ap (λ t. map (step_with t) numbers) named ∙ ap (map (step_with (names_of (steps_terms steps)))) is ∙ in_numbers_view steps,
    )

-- the steps of a proof have the places of their terms
again : (terms : List Term) (side : List ℕ) → AreDistinct terms → All (λ n. n < length terms) side → map (place_of terms) (map (term_at terms) side) ≡ side
again terms [] distinct h = refl
again terms (n ∷ side) distinct h =
    let P : ℕ → Type 0 = λ k. k < length terms in
    ap₂ (λ k ks. k ∷ ks) (place_of-at terms distinct (term_at terms n) n (slice_get-get_or terms n (Plain []) (All-head P n side h))) (again terms side distinct (All-tail P n side h))

pub steps_again : (terms : List Term) (steps : List StepNumbers) → AreDistinct terms → All (IsNumberedBelow (length terms)) steps → map (in_numbers terms) (map (step_with terms) steps) ≡ steps
steps_again terms [] distinct h = refl
steps_again terms (step ∷ steps) distinct h =
    let here = All-head (IsNumberedBelow (length terms)) step steps h in
    let l = again terms step.left distinct here.0 in
    let r = again terms step.right distinct here.1 in
    let one : in_numbers terms (step_with terms step) ≡ step = λ i. record { key = step.key; left = l i; right = r i; supports = step.supports } in
    ap₂ (λ s ss. s ∷ ss) one (steps_again terms steps distinct (All-tail (IsNumberedBelow (length terms)) step steps h))

-- ---- one step more

pub steps_terms-push : (steps : List StepShape) (step : StepShape) → steps_terms (steps ++ step ∷ []) ≡ steps_terms steps ++ step_terms step
steps_terms-push [] step = append-nil (step_terms step)
steps_terms-push (s ∷ steps) step = ap (λ l. step_terms s ++ l) (steps_terms-push steps step) ∙ sym (append_assoc (step_terms s) (steps_terms steps) (step_terms step))

pub names_more : (steps : List StepShape) (step : StepShape) → names_of (steps_terms (steps ++ step ∷ [])) ≡ with_terms (names_of (steps_terms steps)) (step_terms step)
names_more steps step = ap names_of (steps_terms-push steps step) ∙ names_of-append (steps_terms steps) (step_terms step)

pub numbers_more : (steps : List StepShape) (step : StepShape) (terms later : List Term) → terms ≡ names_of (steps_terms steps) → later ≡ with_terms terms (step_terms step) →
    map (in_numbers later) (steps ++ step ∷ []) ≡ map (in_numbers terms) steps ++ in_numbers later step ∷ []
numbers_more steps step terms later named grown =
    let named_all = subst (λ t. AreNamedIn t (steps_terms steps)) (sym named) (all_named steps) in
    map_push (in_numbers later) steps step ∙ ap (λ l. l ++ in_numbers later step ∷ []) (ap (λ t. map (in_numbers t) steps) grown ∙ steps_stay terms (step_terms step) steps named_all)

-- ---- the numbers of a side, one by one

pub side_terms : (names terms : List Term) (side : List ℕ) (i : ℕ) → i < length side →
    with_terms terms (map (term_at names) (take (i + 1) side)) ≡ with_term (with_terms terms (map (term_at names) (take i side))) (term_at names (get_or side i 0))
side_terms names terms side i l =
    ap (with_terms terms) (map_more (term_at names) side i 0 l) ∙ fold-append with_term terms (map (term_at names) (take i side)) (term_at names (get_or side i 0) ∷ [])

pub side_numbers : (names first terms later : List Term) (side : List ℕ) (i : ℕ) → i < length side → terms ≡ with_terms first (map (term_at names) (take i side)) →
    later ≡ with_term terms (term_at names (get_or side i 0)) →
    map (place_of later) (map (term_at names) (take (i + 1) side)) ≡ map (place_of terms) (map (term_at names) (take i side)) ++ place_of later (term_at names (get_or side i 0)) ∷ []
side_numbers names first terms later side i l named grown =
    let before = map (term_at names) (take i side) in
    let t = term_at names (get_or side i 0) in
    let named_all : AreNamedIn terms before = subst (λ ts. AreNamedIn ts before) (sym named) (named_came first before) in
    ap (map (place_of later)) (map_more (term_at names) side i 0 l) ∙ map_push (place_of later) before t
    ∙ ap (λ ns. ns ++ place_of later t ∷ []) (ap (λ ts. map (place_of ts) before) grown ∙ places_stay terms (t ∷ []) before named_all)

-- the numbers of the left side stay as the right one comes
pub left_stays : (first terms later left right : List Term) → terms ≡ with_terms first left → later ≡ with_terms terms right → map (place_of terms) left ≡ map (place_of later) left
left_stays first terms later left right named grown =
    let named_all : AreNamedIn terms left = subst (λ ts. AreNamedIn ts left) (sym named) (named_came first left) in
    sym (ap (λ ts. map (place_of ts) left) grown ∙ places_stay terms right left named_all)

-- ---- the text of a proof

pub text_again : (terms : List Term) (steps : List StepNumbers) → IsProof terms steps → numbered_text terms steps ≡ proof_text (map (step_with terms) steps)
text_again terms steps is =
    let shapes = map (step_with terms) steps in
    let distinct : AreDistinct terms = subst AreDistinct (sym is.named) (AreDistinct-names_of (steps_terms shapes)) in
    ap (numbered_text terms) (sym (steps_again terms steps distinct is.inside)) ∙ ap (λ ts. numbered_text ts (map (in_numbers ts) shapes)) is.named
