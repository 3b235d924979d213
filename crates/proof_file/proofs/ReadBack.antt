-- The canonical text of a proof is read as this proof.
use Rattle.std.proofs.Common.{List, [], ◌∷◌, ◌++◌, ℕ, suc, ◌+◌, ◌-◌, ◌^◌, ◌<◌, ◌≤◌, Bool, true, false, ◌&&◌, ◌==◌, nat_le, nat_lt, Result, Ok, Err, All, codes, length, map, slice_index, take, ◌≡◌, ◌↔◌, refl, sym, ap, ap₂, subst, ◌∙◌, arith, lit<, append-nil, append_assoc}
use Rattle.std.specs.List.{flat_map, list_all}
use Rattle.std.specs.Fmt.{decimal}
use Rattle.std.proofs.lemmas.Bool.{cond_both, cond-true, cond-false, le-leb, le-ltb, ne_eqb, eq-eqb}
use Rattle.std.proofs.lemmas.Bool.Decides.{nat_tests}
use Rattle.std.proofs.lemmas.List.{length-map}
use Rattle.std.proofs.lemmas.List.Concat.{flat_map-append}
use Rattle.std.proofs.lemmas.List.Elements.{All-nil, All-cons, All-head, All-tail, All-append}
use Rattle.gk_base.specs.declared.term.Term.{Term}
use Rattle.gk_base.specs.declared.term.Term.TheVariants.{Iri, Blank, Plain, Typed, Lang}
use Rattle.nt_lex.specs.Chars.{is_blank}
use Rattle.nt_lex.specs.Reading.{begins_term}
use Rattle.nt_reader.specs.Lines.{is_line_byte, cut_of, lines}
use Rattle.nt_reader.specs.File.{judged, line_of_next}
use Rattle.nt_reader.proofs.CallerLemmas.{AllOf, IsText, text_append, text_cons, text_low, text_term, with_end, joined, lines_joined}
use Rattle.key_file.specs.Name.{is_name}
use Rattle.term_table.specs.Numbering.{is_named, place_of, with_term, with_terms, names_of}
use Rattle.term_text.specs.CanonicalText.{term_text}
use Rattle.term_text.specs.ReadBack.{CanBeSpelled}
use Rattle.term_text.proofs.CallerLemmas.{spelled_whole}
use Rattle.proof_file.specs.Steps.{SupportShape, StepShape, step_terms, steps_terms, in_numbers}
use Rattle.proof_file.specs.CanonicalProof.{numbers_text, support_text, side_text, key_line, step_text, listed_text, count_text, numbered_text, proof_text, HasSupportForm, HasStepForm, CanBeRead}
use Rattle.proof_file.specs.Words.{words_of}
use Rattle.proof_file.specs.ProofText as text
use Rattle.proof_file.specs.ProofText.{StageShape, AtHeader, AtCount, AtTerm, AtStep, AtLeft, AtRight, AtSupport, AtEnd, ProofState, proof_start, at_next, after_header, header_of, after_count, stage_of_terms, after_step_or_end, after_support_or_done, numbered_side, after_left, after_right, OneTermSays, StageSays, ProofLinesSay, proof_ended, ProofSays}
use Rattle.proof_file.specs.declared.version.Version.TheVariants.{Two}
use Rattle.proof_file.specs.declared.fault.ProofFault.TheVariants.{CountDiffers, FileTooLong}
use Rattle.proof_file.specs.declared.fault.ProofRefusal.{ProofRefusal}
use Rattle.proof_file.proofs.InNumbers.{AreNamedIn, All-parts, all_named}
use Rattle.proof_file.proofs.ReadableLemmas.{says_within}
use Rattle.proof_file.proofs.FormLemmas.{from_one, decimal_text, numbers_plain, name_text, places_small, support_small, count_says, step_says, end_says, side_says, support_says}

-- ---- lines that follow one another

-- whatever lines follow, these lead from the one state to the other
abbrev Comes : ProofState → List (List ℕ) → ProofState → Type 0
Comes p content q = (number : ℕ) (more : List (List ℕ)) (answer : Result ProofState ProofRefusal) → ((n : ℕ) → ProofLinesSay q n more answer) → ProofLinesSay p number (content ++ more) answer

comes_none : (p : ProofState) → Comes p [] p
comes_none p number more answer later = later number

comes_line : (p q r : ProofState) (line : List ℕ) (content : List (List ℕ)) → IsText line → StageSays p p.stage line (Ok q) → Comes q content r → Comes p (line ∷ content) r
comes_line p q r line content plain says on number more answer later = text.good_line (text.in_utf8 plain.utf8 says) (on (number + 1) more answer later)

comes_append : (p q r : ProofState) (xs ys : List (List ℕ)) → Comes p xs q → Comes q ys r → Comes p (xs ++ ys) r
comes_append p q r xs ys on after number more answer later =
    subst (λ (l : List (List ℕ)). ProofLinesSay p number l answer) (sym (append_assoc xs ys more)) (on number (ys ++ more) answer (λ n. after n more answer later))

comes_all : (p q : ProofState) (content : List (List ℕ)) → Comes p content q → ProofLinesSay p 1 content (Ok q)
comes_all p q content on = subst (λ (l : List (List ℕ)). ProofLinesSay p 1 l (Ok q)) (append-nil content) (on 1 [] (Ok q) (λ n. text.no_line))

-- ---- the lines of terms

begins : (term : Term) → (begins_term (slice_index (term_text term) 0) ≡ true) × (is_blank (slice_index (term_text term) 0) ≡ false)
begins (Iri name) = (refl, refl)
begins (Blank label) = (refl, refl)
begins (Plain form) = (refl, refl)
begins (Typed form datatype) = (refl, refl)
begins (Lang form tag) = (refl, refl)

term_says : (term : Term) → CanBeSpelled term → OneTermSays (term_text term) (Ok term)
term_says term can =
    let whole = spelled_whole can.piece term can.spells in
    let line = term_text term in
    let first = begins term in
    text.only_term {next = 0} {end = length line}
    (record { ordered = omega arith; in_range = omega arith; pass = λ k from below. absurd (omega arith); stops = λ some. first.1 })
    first.0
    (record { piece = line; rest = []; spells = whole.spells; stops = whole.stops; here = sym (append-nil line); ends = omega arith })
    (record { ordered = omega arith; in_range = omega arith; pass = λ k from below. absurd (omega arith); stops = λ some. absurd (omega arith) })

-- the terms that have come, and those that come
abbrev listing : List Term → List Term → ProofState
listing done todo = record { version = Two; terms = done; steps = []; stage = stage_of_terms (length todo) }

more_terms : (k : ℕ) → stage_of_terms (suc k) ≡ AtTerm (suc k)
more_terms k = cond-false (suc k == 0) AtStep (AtTerm (suc k)) (ne_eqb (suc k) 0 (λ e. absurd (omega arith)))

one_less : (k : ℕ) → k ≡ suc k - 1
one_less k = omega arith

terms_come : (done todo : List Term) → All CanBeSpelled todo → Comes (listing done todo) (map term_text todo) (listing (done ++ todo) [])
terms_come done [] spelled = subst (λ (ts : List Term). Comes (listing done []) [] (listing ts [])) (sym (append-nil done)) (comes_none (listing done []))
terms_come done (term ∷ todo) spelled =
    let can = All-head CanBeSpelled term todo spelled in
    let p = listing done (term ∷ todo) in
    let grown = done ++ term ∷ [] in
    let q = listing grown todo in
    comes_line p q (listing (done ++ term ∷ todo) []) (term_text term) (map term_text todo) (text_term (term_text term) term (spelled_whole can.piece term can.spells).spells)
    (subst (λ stage. StageSays p stage (term_text term) (Ok q)) (sym (more_terms (length todo)))
    (Ok term, term_says term can, ap (λ n. Ok (record { version = Two; terms = grown; steps = []; stage = stage_of_terms n })) (one_less (length todo))))
    (subst (λ (ts : List Term). Comes q (map term_text todo) (listing ts [])) (append_assoc done (term ∷ []) todo) (terms_come grown todo (All-tail CanBeSpelled term todo spelled)))

-- ---- the lines of steps

-- a word and a number
abbrev counted : List ℕ → ℕ → List ℕ
counted word count = word ++ 0x20 ∷ decimal count

abbrev side_content : List ℕ → List Term → List Term → List ℕ
side_content word terms side = word ++ numbers_text (from_one (map (place_of terms) side))

abbrev support_content : SupportShape → List ℕ
support_content support = codes "by" ++ numbers_text (support.slot ∷ support.steps)

abbrev supports_content : StepShape → List (List ℕ)
supports_content step = map support_content step.supports ++ codes "done" ∷ []

abbrev step_content : List Term → StepShape → List (List ℕ)
step_content terms step =
    (codes "step" ++ 0x20 ∷ step.key) ∷ side_content (codes "left") terms step.left ∷ side_content (codes "right") terms step.right ∷ supports_content step

-- ---- they are texts

-- a space, or a character that shows
abbrev is_shown : ℕ → Bool
is_shown b = nat_le 0x20 b && nat_lt b 0x7F

shown_low : (b : ℕ) → is_shown b ≡ true → b < 128
shown_low b h = grind (arith, nat_tests)

shown_plain : (b : ℕ) → is_shown b ≡ true → is_line_byte b ≡ true
shown_plain b h = grind (arith, nat_tests)

shown_text : (word : List ℕ) → list_all is_shown word ≡ true → IsText word
shown_text word h = text_low is_shown shown_low shown_plain word h

counted_text : (word : List ℕ) (count : ℕ) → list_all is_shown word ≡ true → count < 2 ^ 64 → IsText (counted word count)
counted_text word count h small = text_append word (0x20 ∷ decimal count) (shown_text word h) (text_cons 0x20 (decimal count) (lit< tt) refl (decimal_text count small))

key_text : (name : List ℕ) → is_name name ≡ true → IsText (codes "step" ++ 0x20 ∷ name)
key_text name h = text_append (codes "step") (0x20 ∷ name) (shown_text (codes "step") refl) (text_cons 0x20 name (lit< tt) refl (name_text name h))

side_plain : (word : List ℕ) (terms side : List Term) → list_all is_shown word ≡ true → length terms < 2 ^ 32 → AreNamedIn terms side → IsText (side_content word terms side)
side_plain word terms side h few named =
    text_append word (numbers_text (from_one (map (place_of terms) side))) (shown_text word h) (numbers_plain (from_one (map (place_of terms) side)) (places_small terms side few named))

support_plain : (support : SupportShape) → HasSupportForm support → IsText (support_content support)
support_plain support form =
    text_append (codes "by") (numbers_text (support.slot ∷ support.steps)) (shown_text (codes "by") refl) (numbers_plain (support.slot ∷ support.steps) (support_small support form))

-- ---- what they say

-- a proof file of version 2 that lists these terms
abbrev at_stage : List Term → List StepShape → StageShape → ProofState
at_stage terms done stage = record { version = Two; terms = terms; steps = done; stage = stage }

-- a step with these supports of its own
abbrev with_supports : StepShape → List SupportShape → StepShape
with_supports step supports = record { key = step.key; left = step.left; right = step.right; supports = supports }

module _ (terms : List Term) (few : length terms < 2 ^ 32) where
  supports_come : (before : List StepShape) (step : StepShape) (done todo : List SupportShape) → All HasSupportForm todo →
      Comes (at_stage terms before (AtSupport (with_supports step done))) (map support_content todo) (at_stage terms before (AtSupport (with_supports step (done ++ todo))))
  supports_come before step done [] forms =
      let p = at_stage terms before (AtSupport (with_supports step done)) in
      subst (λ (l : List SupportShape). Comes p [] (at_stage terms before (AtSupport (with_supports step l)))) (sym (append-nil done)) (comes_none p)
  supports_come before step done (support ∷ todo) forms =
      let form = All-head HasSupportForm support todo forms in
      let grown = done ++ support ∷ [] in
      let p = at_stage terms before (AtSupport (with_supports step done)) in
      let q = at_stage terms before (AtSupport (with_supports step grown)) in
      comes_line p q (at_stage terms before (AtSupport (with_supports step (done ++ support ∷ todo)))) (support_content support) (map support_content todo) (support_plain support form)
      (sym (ap (after_support_or_done p (with_supports step done)) (support_says support form)))
      (subst (λ (l : List SupportShape). Comes q (map support_content todo) (at_stage terms before (AtSupport (with_supports step l)))) (append_assoc done (support ∷ []) todo)
      (supports_come before step grown todo (All-tail HasSupportForm support todo forms)))

  done_comes : (before : List StepShape) (step : StepShape) → Comes (at_stage terms before (AtSupport step)) (codes "done" ∷ []) (at_stage terms (before ++ step ∷ []) AtStep)
  done_comes before step =
      let q = at_stage terms (before ++ step ∷ []) AtStep in
      comes_line (at_stage terms before (AtSupport step)) q q (codes "done") [] (shown_text (codes "done") refl) refl (comes_none q)

  step_comes : (before : List StepShape) (step : StepShape) → HasStepForm step → AreNamedIn terms (step_terms step) → Comes (at_stage terms before AtStep) (step_content terms step) (at_stage terms (before ++ step ∷ []) AtStep)
  step_comes before step form named =
      let sides = All-parts (λ t. is_named terms t ≡ true) step.left step.right named in
      let r = at_stage terms (before ++ step ∷ []) AtStep in
      let p = at_stage terms before AtStep in
      let q = at_stage terms before (AtLeft step.key) in
      let u = at_stage terms before (AtRight step.key step.left) in
      let v = at_stage terms before (AtSupport (with_supports step [])) in
      let right_line = side_content (codes "right") terms step.right in
      let left_line = side_content (codes "left") terms step.left in
      comes_line p q r (codes "step" ++ 0x20 ∷ step.key) (left_line ∷ right_line ∷ supports_content step) (key_text step.key form.key)
      (sym (ap (after_step_or_end p) (step_says step.key form.key)))
      (comes_line q u r left_line (right_line ∷ supports_content step) (side_plain (codes "left") terms step.left refl few sides.0)
      (numbered_side (codes "left") terms (words_of left_line), text.by_numbers, sym (ap (after_left q step.key) (side_says (codes "left") terms step.left refl (lit< tt) few sides.0 form.left_some)))
      (comes_line u v r right_line (supports_content step) (side_plain (codes "right") terms step.right refl few sides.1)
      (numbered_side (codes "right") terms (words_of right_line), text.by_numbers, sym (ap (after_right u step.key step.left) (side_says (codes "right") terms step.right refl (lit< tt) few sides.1 form.right_some)))
      (comes_append v (at_stage terms before (AtSupport step)) r (map support_content step.supports) (codes "done" ∷ []) (supports_come before step [] step.supports form.supports) (done_comes before step))))

  steps_come : (before todo : List StepShape) → All HasStepForm todo → AreNamedIn terms (steps_terms todo) → Comes (at_stage terms before AtStep) (flat_map (step_content terms) todo) (at_stage terms (before ++ todo) AtStep)
  steps_come before [] forms named =
      let p = at_stage terms before AtStep in
      subst (λ (l : List StepShape). Comes p [] (at_stage terms l AtStep)) (sym (append-nil before)) (comes_none p)
  steps_come before (step ∷ todo) forms named =
      let parts = All-parts (λ t. is_named terms t ≡ true) (step_terms step) (steps_terms todo) named in
      let grown = before ++ step ∷ [] in
      comes_append (at_stage terms before AtStep) (at_stage terms grown AtStep) (at_stage terms (before ++ step ∷ todo) AtStep) (step_content terms step) (flat_map (step_content terms) todo)
      (step_comes before step (All-head HasStepForm step todo forms) parts.0)
      (subst (λ (l : List StepShape). Comes (at_stage terms grown AtStep) (flat_map (step_content terms) todo) (at_stage terms l AtStep)) (append_assoc before (step ∷ []) todo)
      (steps_come grown todo (All-tail HasStepForm step todo forms) parts.1))

-- ---- the whole file

-- the lines of the canonical text, without their ends
abbrev contents : List Term → List StepShape → List (List ℕ)
contents terms steps =
    codes "gkey-proof 2" ∷ counted (codes "terms") (length terms) ∷ (map term_text terms ++ (flat_map (step_content terms) steps ++ counted (codes "end") (length steps) ∷ []))

file_comes : (terms : List Term) (steps : List StepShape) → length terms < 2 ^ 32 → length steps < 2 ^ 32 → All CanBeSpelled terms → All HasStepForm steps → AreNamedIn terms (steps_terms steps) →
    Comes proof_start (contents terms steps) (at_stage terms steps AtEnd)
file_comes terms steps few_terms few_steps spelled forms named =
    let first : ProofState = record { version = Two; terms = []; steps = []; stage = AtCount } in
    let listed = listing [] terms in
    let stepping = at_stage terms [] AtStep in
    let last = at_stage terms steps AtStep in
    let end = at_stage terms steps AtEnd in
    let count_line = counted (codes "terms") (length terms) in
    let end_line = counted (codes "end") (length steps) in
    let step_lines = flat_map (step_content terms) steps in
    comes_line proof_start first end (codes "gkey-proof 2") (count_line ∷ (map term_text terms ++ (step_lines ++ end_line ∷ []))) (shown_text (codes "gkey-proof 2") refl) refl
    (comes_line first listed end count_line (map term_text terms ++ (step_lines ++ end_line ∷ [])) (counted_text (codes "terms") (length terms) refl (omega arith))
    (sym (ap (after_count first) (count_says (length terms) few_terms)))
    (comes_append listed stepping end (map term_text terms) (step_lines ++ end_line ∷ []) (terms_come [] terms spelled)
    (comes_append stepping last end step_lines (end_line ∷ []) (steps_come terms few_terms [] steps forms named)
    (comes_line last end end end_line [] (counted_text (codes "end") (length steps) refl (omega arith))
    (sym (ap (after_step_or_end last) (end_says (length steps) few_steps) ∙ cond-true (length steps == length steps) (at_next last AtEnd) (Err CountDiffers) (eq-eqb (length steps) (length steps) refl)))
    (comes_none end)))))

-- ---- its text

counted_end : (word : List ℕ) (count : ℕ) → count_text word count ≡ with_end (counted word count)
counted_end word count = sym (append_assoc word (0x20 ∷ decimal count) (0x0A ∷ []))

terms_end : (terms : List Term) → flat_map listed_text terms ≡ joined (map term_text terms)
terms_end [] = refl
terms_end (term ∷ terms) = ap (λ (l : List ℕ). listed_text term ++ l) (terms_end terms)

side_end : (word : List ℕ) (terms side : List Term) → side_text word (map (place_of terms) side) ≡ with_end (side_content word terms side)
side_end word terms side = sym (append_assoc word (numbers_text (from_one (map (place_of terms) side))) (0x0A ∷ []))

supports_end : (supports : List SupportShape) → flat_map support_text supports ≡ joined (map support_content supports)
supports_end [] = refl
supports_end (support ∷ supports) =
    ap₂ (λ (a b : List ℕ). a ++ b) (sym (append_assoc (codes "by") (numbers_text (support.slot ∷ support.steps)) (0x0A ∷ []))) (supports_end supports)

step_end : (terms : List Term) (step : StepShape) → step_text (in_numbers terms step) ≡ joined (step_content terms step)
step_end terms step =
    ap₂ (λ (a b : List ℕ). a ++ b) (key_end step.key)
    (ap₂ (λ (a b : List ℕ). a ++ b) (side_end (codes "left") terms step.left)
    (ap₂ (λ (a b : List ℕ). a ++ b) (side_end (codes "right") terms step.right)
    (ap (λ (a : List ℕ). a ++ codes "done\n") (supports_end step.supports) ∙ sym (flat_map-append with_end (map support_content step.supports) (codes "done" ∷ [])))))
  where
    key_end : (name : List ℕ) → key_line name ≡ with_end (codes "step" ++ 0x20 ∷ name)
    key_end name = refl

steps_end : (terms : List Term) (steps : List StepShape) → flat_map step_text (map (in_numbers terms) steps) ≡ joined (flat_map (step_content terms) steps)
steps_end terms [] = refl
steps_end terms (step ∷ steps) =
    ap₂ (λ (a b : List ℕ). a ++ b) (step_end terms step) (steps_end terms steps) ∙ sym (flat_map-append with_end (step_content terms step) (flat_map (step_content terms) steps))

text_joined : (terms : List Term) (steps : List StepShape) → numbered_text terms (map (in_numbers terms) steps) ≡ joined (contents terms steps)
text_joined terms steps =
    let step_lines = flat_map (step_content terms) steps in
    let end_line = counted (codes "end") (length steps) in
    let last : count_text (codes "end") (length (map (in_numbers terms) steps)) ≡ joined (end_line ∷ []) =
    ap (count_text (codes "end")) (length-map steps (in_numbers terms)) ∙ counted_end (codes "end") (length steps) ∙ sym (append-nil (with_end end_line))
    in
    ap (λ (l : List ℕ). codes "gkey-proof 2\n" ++ l)
    (ap₂ (λ (a b : List ℕ). a ++ b) (counted_end (codes "terms") (length terms))
    (ap₂ (λ (a b : List ℕ). a ++ b) (terms_end terms) (ap₂ (λ (a b : List ℕ). a ++ b) (steps_end terms steps) last ∙ sym (flat_map-append with_end step_lines (end_line ∷ [])))
    ∙ sym (flat_map-append with_end (map term_text terms) (step_lines ++ end_line ∷ []))))

-- ---- its lines are these

plain_append : (xs ys : List (List ℕ)) → AllOf IsText xs → AllOf IsText ys → AllOf IsText (xs ++ ys)
plain_append [] ys h k = k
plain_append (x ∷ xs) ys h k = (h.0, plain_append xs ys h.1 k)

terms_plain : (terms : List Term) → All CanBeSpelled terms → AllOf IsText (map term_text terms)
terms_plain [] spelled = tt
terms_plain (term ∷ terms) spelled =
    let can = All-head CanBeSpelled term terms spelled in
    (text_term (term_text term) term (spelled_whole can.piece term can.spells).spells, terms_plain terms (All-tail CanBeSpelled term terms spelled))

supports_plain : (supports : List SupportShape) → All HasSupportForm supports → AllOf IsText (map support_content supports)
supports_plain [] forms = tt
supports_plain (support ∷ supports) forms = (support_plain support (All-head HasSupportForm support supports forms), supports_plain supports (All-tail HasSupportForm support supports forms))

steps_plain : (terms : List Term) (steps : List StepShape) → length terms < 2 ^ 32 → All HasStepForm steps → AreNamedIn terms (steps_terms steps) → AllOf IsText (flat_map (step_content terms) steps)
steps_plain terms [] few forms named = tt
steps_plain terms (step ∷ steps) few forms named =
    let form = All-head HasStepForm step steps forms in
    let parts = All-parts (λ t. is_named terms t ≡ true) (step_terms step) (steps_terms steps) named in
    let sides = All-parts (λ t. is_named terms t ≡ true) step.left step.right parts.0 in
    let supports = plain_append (map support_content step.supports) (codes "done" ∷ []) (supports_plain step.supports form.supports) (shown_text (codes "done") refl, tt) in
    plain_append (step_content terms step) (flat_map (step_content terms) steps)
    (key_text step.key form.key, (side_plain (codes "left") terms step.left refl few sides.0, (side_plain (codes "right") terms step.right refl few sides.1, supports)))
    (steps_plain terms steps few (All-tail HasStepForm step steps forms) parts.1)

contents_plain : (terms : List Term) (steps : List StepShape) → length terms < 2 ^ 32 → length steps < 2 ^ 32 → All CanBeSpelled terms → All HasStepForm steps → AreNamedIn terms (steps_terms steps) → AllOf IsText (contents terms steps)
contents_plain terms steps few_terms few_steps spelled forms named =
    let ends : AllOf IsText (counted (codes "end") (length steps) ∷ []) = (counted_text (codes "end") (length steps) refl (omega arith), tt) in
    let later = plain_append (flat_map (step_content terms) steps) (counted (codes "end") (length steps) ∷ []) (steps_plain terms steps few_terms forms named) ends in (
      shown_text (codes "gkey-proof 2") refl,
      (counted_text (codes "terms") (length terms) refl (omega arith), plain_append (map term_text terms) (flat_map (step_content terms) steps ++ counted (codes "end") (length steps) ∷ []) (terms_plain terms spelled) later),
    )

-- ---- the terms of a proof

-- what holds of terms holds of their names
pub names_too : (P : Term → Type 0) (names terms : List Term) → All P names → All P terms → All P (with_terms names terms)
names_too P names [] h k = h
names_too P names (term ∷ terms) h k =
    names_too P (with_term names term) terms
    (cond_both (is_named names term) names (names ++ term ∷ []) (All P) (λ old. h) (λ new. All-append P names (term ∷ []) h (All-cons P term [] (All-head P term terms k) (All-nil P))))
    (All-tail P term terms k)

steps_spelled : (steps : List StepShape) → All HasStepForm steps → All CanBeSpelled (steps_terms steps)
steps_spelled [] forms = All-nil CanBeSpelled
steps_spelled (step ∷ steps) forms =
    All-append CanBeSpelled (step_terms step) (steps_terms steps) (All-head HasStepForm step steps forms).spelled (steps_spelled steps (All-tail HasStepForm step steps forms))

-- the text of a proof says it, under each limit that it fits
proof_back : (limit : ℕ) (steps : List StepShape) → CanBeRead steps → length (proof_text steps) ≤ limit → ProofSays limit (proof_text steps) (Ok steps)
proof_back limit steps can fits =
    let terms = names_of (steps_terms steps) in
    let spelled = names_too CanBeSpelled [] (steps_terms steps) (All-nil CanBeSpelled) (steps_spelled steps can.each) in
    let named = all_named steps in
    let all = proof_text steps in
    let lines_are : lines all ≡ contents terms steps =
    ap lines (text_joined terms steps) ∙ lines_joined (contents terms steps) (contents_plain terms steps can.few_terms can.few_steps spelled can.each named)
    in
    let judges : judged limit all ≡ contents terms steps =
    cond-true (nat_le (length all) limit) (lines all) (cut_of (take limit all)).ended (le-leb (length all) limit fits) ∙ lines_are
    in
    let end = at_stage terms steps AtEnd in
    let says = comes_all proof_start end (contents terms steps) (file_comes terms steps can.few_terms can.few_steps spelled can.each named) in (
      Ok end,
      subst (λ (l : List (List ℕ)). ProofLinesSay proof_start 1 l (Ok end)) (sym judges) says,
      sym (cond-false (nat_lt limit (length all)) (Err (record { line = line_of_next (take limit all) (slice_index all limit); fault = FileTooLong })) (proof_ended end AtEnd (length (lines all))) (le-ltb limit (length all) fits)),
    )

-- and under no other
pub proof_again : (limit : ℕ) (steps : List StepShape) → CanBeRead steps → (length (proof_text steps) ≤ limit) ↔ ProofSays limit (proof_text steps) (Ok steps)
proof_again limit steps can = (proof_back limit steps can, says_within limit (proof_text steps) (Ok steps))
