-- A proof that tells a journal can be written and read again.
use Rattle.std.proofs.Common.{Bool, List, [], ◌∷◌, ℕ, ◌^◌, ◌<◌, ◌≤◌, true, false, nat_le, Some, All, AllPairs, map, length, take, slice_get, get_or, ◌≡◌, ◌≢◌, inl, inr, refl, sym, ap, subst, ◌∙◌, arith}
use Rattle.std.specs.Cmp.{IsEquivalence}
use Rattle.std.specs.List.{list_all}
use Rattle.std.specs.Option.{option_map}
use Rattle.std.proofs.lemmas.Bool.{and_parts, leb-true}
use Rattle.std.proofs.lemmas.List.{length-map, length-take-le}
use Rattle.std.proofs.lemmas.List.Elements.{All-nil, All-cons, All-head, All-tail, All-append, All-get_or, All-map, All-weaker}
use Rattle.std.proofs.lemmas.Map.Made.{IsDistinct-from_AllPairs, length-le_from_is_member}
use Rattle.std.proofs.lemmas.Option.{slice_get-get_or, slice_get-map, slice_get_cases, slice_get_within}
use Rattle.gk_base.specs.declared.term.Term.{Term}
use Rattle.gk_base.specs.declared.term.Term.TheVariants.{Plain}
use Rattle.chase_laws.specs.declared.entry.Entry.{Entry}
use Rattle.chase_laws.specs.declared.pattern.Slot.TheVariants.{Entity}
use Rattle.chase_laws.specs.Shape.{Shape, IsPattern, PatternFacts}
use Rattle.chase_laws.proofs.CallerLemmas.{All-at}
use Rattle.key_file.specs.Name.{is_name}
use Rattle.term_table.specs.Numbering.{same_term, is_named, names_of}
use Rattle.term_table.proofs.CallerLemmas.{AreDistinct-names_of, is_named-at, place-is_named, same_term-Decides, same_term-refl}
use Rattle.term_text.specs.ReadBack.{CanBeSpelled}
use Rattle.proof_file.specs.Steps.{SupportShape, StepShape, term_at, step_terms, steps_terms}
use Rattle.proof_file.specs.Tells.{supported_slots, IsSupported, AreSupported, is_earlier, are_earlier, Tells, TellsAll}
use Rattle.proof_file.specs.CanonicalProof.{HasSupportForm, HasStepForm, CanBeRead}
use Rattle.proof_file.proofs.InNumbers.{AreNamedIn}
use Rattle.proof_file.proofs.SlotLemmas.{supported_at}
use Rattle.proof_file.proofs.ReadBack.{names_too}

-- ---- distinct names among names

same_bools : (a b : Bool) → (a ≡ true → b ≡ true) → (b ≡ true → a ≡ true) → a ≡ b
same_bools true b h k = sym (h refl)
same_bools false true h k = k refl
same_bools false false h k = refl

same_term_equiv : IsEquivalence same_term
same_term_equiv = record {
  refl = same_term-refl;
  symm = λ x y. same_bools (same_term x y) (same_term y x) (λ e. (same_term-Decides y x).1 (sym ((same_term-Decides x y).0 e))) (λ e. (same_term-Decides x y).1 (sym ((same_term-Decides y x).0 e)));
  congr = λ x y z e. ap (λ (t : Term). same_term t z) ((same_term-Decides x y).0 e);
}

names_differ : (terms : List Term) → AllPairs (λ x y. x ≢ y) (names_of terms)
names_differ terms i j d before inside same =
    let names = names_of terms in
    let one = (AreDistinct-names_of terms).one_place i j (get_or names i d) (slice_get-get_or names i d (omega arith)) (slice_get-get_or names j d inside ∙ ap Some (sym same)) in
    absurd (omega arith)

-- terms that are all named make no more names
names_few : (names terms : List Term) → AreNamedIn names terms → length (names_of terms) ≤ length names
names_few names terms named =
    let made = names_of terms in
    let all = names_too (λ t. is_named names t ≡ true) [] terms (All-nil (λ t. is_named names t ≡ true)) named in
    length-le_from_is_member same_term_equiv made names (IsDistinct-from_AllPairs same_term-Decides made (names_differ terms))
    (λ q h. let place = place-is_named made q h in All-at (λ t. is_named names t ≡ true) made place.0 q all place.1)

-- ---- one step

all_from : {X : Type 0} (p : X → Bool) (xs : List X) → list_all p xs ≡ true → All (λ x. p x ≡ true) xs
all_from p [] h = All-nil (λ x. p x ≡ true)
all_from p (x ∷ xs) h = let parts = and_parts (p x) (list_all p xs) h in All-cons (λ y. p y ≡ true) x xs parts.0 (all_from p xs parts.1)

-- numbers of earlier steps, of which there are few
earlier_form : (count n : ℕ) → count < 2 ^ 32 → is_earlier count n ≡ true → (0 < n) × (n < 2 ^ 32)
earlier_form count n few h =
    let parts = and_parts (nat_le 1 n) (nat_le n count) h in
    let low = leb-true 1 n parts.0 in
    let high = leb-true n count parts.1 in
    (omega arith, omega arith)

module _ (names : List Term) (K : List Shape) (key_names : List (List ℕ)) (facts : (Q : Shape) → IsPattern Q → PatternFacts Q)
    (spelled : All CanBeSpelled names) (patterns : All IsPattern K) (named : All (λ name. is_name name ≡ true) key_names) where
  -- names, by their numbers
  side_spelled : (side : List ℕ) → All (λ n. n < length names) side → All CanBeSpelled (map (term_at names) side)
  side_spelled side below =
      All-map CanBeSpelled (term_at names) side (All-weaker (λ n. n < length names) (λ n. CanBeSpelled (term_at names n)) (λ n l. All-get_or CanBeSpelled names n (Plain []) l spelled) side below)

  side_named : (side : List ℕ) → All (λ n. n < length names) side → AreNamedIn names (map (term_at names) side)
  side_named side below =
      All-map (λ t. is_named names t ≡ true) (term_at names) side
      (All-weaker (λ n. n < length names) (λ n. is_named names (term_at names n) ≡ true) (λ n l. is_named-at names (term_at names n) n (slice_get-get_or names n (Plain []) l)) side below)

  module _ (before : List Entry) (earlier : List StepShape) (few : length earlier < 2 ^ 32) (e : Entry) (step : StepShape) (sup : IsSupported (length names) K before e) (told : Tells names K key_names earlier e step) where
    step_named : AreNamedIn names (step_terms step)
    step_named =
        All-append (λ t. is_named names t ≡ true) step.left step.right
        (subst (AreNamedIn names) (sym told.left) (side_named e.left sup.left_named)) (subst (AreNamedIn names) (sym told.right) (side_named e.right sup.right_named))

    support_form : All HasSupportForm step.supports
    support_form k d inside =
        let support = get_or step.supports k d in
        let at : slice_get step.supports k ≡ Some support = slice_get-get_or step.supports k d inside in
        let slot_at : slice_get (supported_slots told.pattern.slots) k ≡ Some support.slot =
        ap (λ l. slice_get l k) (sym told.slots) ∙ slice_get-map (λ (s : SupportShape). s.slot) step.supports k ∙ ap (option_map (λ (s : SupportShape). s.slot)) at
        in
        let slot = supported_at told.pattern.slots k support.slot slot_at in
        let within = slice_get_within told.pattern.slots support.slot (Entity slot.1) slot.2 in
        let slots = (facts told.pattern (All-at IsPattern K e.key told.pattern patterns told.found)).few_slots in
        let numbers = all_from (are_earlier (length earlier)) step.supports told.earlier k d inside in (
          omega arith,
          All-weaker (λ n. is_earlier (length earlier) n ≡ true) (λ n. (0 < n) × (n < 2 ^ 32)) (λ n h. earlier_form (length earlier) n few h) support.steps
              (all_from (is_earlier (length earlier)) support.steps numbers),
        )

    step_form : HasStepForm step
    step_form =
        let first = (facts sup.pattern (All-at IsPattern K e.key sup.pattern patterns sup.key)).first in
        let some = slice_get_within sup.pattern.slots 0 (Entity first.0) first.1 in
        let left = ap length told.left in
        let right = ap length told.right in
        let left_map = length-map e.left (term_at names) in
        let right_map = length-map e.right (term_at names) in
        let left_count = sup.left_count in
        let right_count = sup.right_count in
        record {
          key = All-at (λ name. is_name name ≡ true) key_names e.key step.key named told.key;
          left_some = omega arith;
          right_some = omega arith;
          spelled = All-append CanBeSpelled step.left step.right
              (subst (All CanBeSpelled) (sym told.left) (side_spelled e.left sup.left_named)) (subst (All CanBeSpelled) (sym told.right) (side_spelled e.right sup.right_named));
          supports = support_form;
        }

  -- ---- all steps

  module _ (H : List Entry) (steps : List StepShape) (few : length H < 2 ^ 32) (sup : AreSupported (length names) K H) (told : TellsAll names K key_names H steps) where
    -- each step tells an entry
    of_each : (P : StepShape → Type 0) →
        ((before : List Entry) (earlier : List StepShape) → length earlier < 2 ^ 32 → (e : Entry) (step : StepShape) → IsSupported (length names) K before e → Tells names K key_names earlier e step → P step) → All P steps
    of_each P tell i d inside =
        let step = get_or steps i d in
        let count = told.one_each in
        let taken = length-take-le i steps (omega arith) in
        elim ((slice_get_cases H i).1) [
          | inl there ↦ tell (take i H) (take i steps) (omega arith) there.0 step (sup i there.0 there.2) (told.each i there.0 step there.2 (slice_get-get_or steps i d inside))
          | inr past ↦ absurd (let l = past.0 in omega arith)
        ]

    steps_named : (ss : List StepShape) → All (λ (step : StepShape). AreNamedIn names (step_terms step)) ss → AreNamedIn names (steps_terms ss)
    steps_named [] h = All-nil (λ t. is_named names t ≡ true)
    steps_named (step ∷ ss) h =
        let P : StepShape → Type 0 = λ s. AreNamedIn names (step_terms s) in
        All-append (λ t. is_named names t ≡ true) (step_terms step) (steps_terms ss) (All-head P step ss h) (steps_named ss (All-tail P step ss h))

    pub told_readable : length names < 2 ^ 32 → CanBeRead steps
    told_readable small =
        let P : StepShape → Type 0 = λ (step : StepShape). AreNamedIn names (step_terms step) in
        let all = names_few names (steps_terms steps) (steps_named steps (of_each P step_named)) in
        let count = told.one_each in
        record { each = of_each HasStepForm step_form; few_terms = omega arith; few_steps = omega arith }
