-- What a proof file says can be written and read again.
use Rattle.std.proofs.Common.{List, [], ◌∷◌, ◌++◌, ℕ, suc, ◌+◌, ◌-◌, ◌^◌, ◌<◌, ◌≤◌, true, ◌&&◌, ◌==◌, nat_le, nat_lt, Option, Some, None, Result, Ok, Err, IfOk, IfSome, All, bytes_eq, codes, length, slice_get, slice_index, take, if◌then◌else◌, ◌≡◌, inl, inr, refl, sym, ap, subst, arith, length-append}
use Rattle.std.specs.Fmt.{decimal}
use Rattle.std.proofs.lemmas.Bool.{and_parts, cond_both, cond-true, leb-true, ltb-true, ltb-false, le-leb, eqb-true}
use Rattle.std.proofs.lemmas.List.Concat.{flat_map-append}
use Rattle.std.proofs.lemmas.List.Elements.{All-nil, All-cons, All-append, All-get_or}
use Rattle.std.proofs.lemmas.Option.{slice_get_cases}
use Rattle.gk_base.specs.declared.term.Term.{Term}
use Rattle.gk_base.specs.Answers.{IsSo}
use Rattle.gk_base.specs.declared.stop.Stop.{Stop}
use Rattle.nt_lex.specs.Chars.{is_blank}
use Rattle.nt_lex.specs.Spelling.{Spells, iri, blank, literal}
use Rattle.nt_reader.specs.Lines as cutting
use Rattle.nt_reader.specs.Lines.{Lined, cut_of, last_of, lines}
use Rattle.nt_reader.specs.File.{judged, line_of_next}
use Rattle.nt_reader.proofs.CallerLemmas.{cut_lined}
use Rattle.key_file.specs.Name.{is_name}
use Rattle.term_table.proofs.CallerLemmas.{length-with_terms}
use Rattle.term_text.specs.ReadBack.{CanBeSpelled}
use Rattle.proof_file.specs.Steps.{SupportShape, StepShape, step_terms, steps_terms}
use Rattle.proof_file.specs.CanonicalProof.{HasSupportForm, HasStepForm, CanBeRead}
use Rattle.proof_file.specs.Words.{word_then, words_from, words_of, two_of, value_of, decimal_number}
use Rattle.proof_file.specs.ProofText as text
use Rattle.proof_file.specs.ProofText.{StageShape, AtHeader, AtCount, AtTerm, AtStep, AtLeft, AtRight, AtSupport, AtEnd, ProofState, proof_start, at_next, header_of, after_header, count_of, after_count, stage_of_terms, end_of, step_or_end_of, after_step_or_end, or_out_of_range, numbered_one, one_before, numbered_all, numbered_side, number_before, step_numbers, support_of, support_or_done_of, with_support, after_support_or_done, after_end, TermsSay, OneTermSays, some_terms, SideSays, after_term, after_left, after_right, StageSays, ProofLineSays, ProofLinesSay, proof_ended, after_proof_lines, proof_or_refusal, ProofSays}
use Rattle.proof_file.specs.declared.step_or_end.StepOrEnd.{StepOrEnd}
use Rattle.proof_file.specs.declared.step_or_end.StepOrEnd.TheVariants.{Begins, Ends}
use Rattle.proof_file.specs.declared.version.Version.{Version}
use Rattle.proof_file.specs.declared.version.Version.TheVariants.{One, Two}
use Rattle.proof_file.specs.declared.fault.ProofFault.{ProofFault}
use Rattle.proof_file.specs.declared.fault.ProofFault.TheVariants.{BadLine, CountDiffers, FileTooLong}
use Rattle.proof_file.specs.declared.fault.ProofRefusal.{ProofRefusal}

-- ---- words and numbers

then_few : (word : List ℕ) (words : List (List ℕ)) → length (word_then word words) ≤ length word + length words
then_few [] words = omega arith
then_few (b ∷ word) words = omega arith

words_few : (word line : List ℕ) → length (words_from word line) ≤ length word + length line
words_few word [] = then_few word []
words_few word (b ∷ line) =
    cond_both (is_blank b) (word_then word (words_from [] line)) (words_from (word ++ b ∷ []) line) (λ words. length words ≤ length word + length (b ∷ line))
    (λ _. let one = then_few word (words_from [] line) in let more = words_few [] line in omega arith)
    (λ _. let more = words_few (word ++ b ∷ []) line in let sum = length-append word (b ∷ []) in omega arith)

number_within : (low : ℕ) (word : List ℕ) → IfSome (decimal_number low word) (λ n. (low ≤ n) × (n < 2 ^ 32))
number_within low word =
    let n = value_of word in
    cond_both (nat_le low n && nat_lt n (2 ^ 32) && bytes_eq (decimal n) word) (Some n) None (λ o. IfSome o (λ m. (low ≤ m) × (m < 2 ^ 32)))
    (λ e. let tests = and_parts (nat_le low n && nat_lt n (2 ^ 32)) (bytes_eq (decimal n) word) e in
    let range = and_parts (nat_le low n) (nat_lt n (2 ^ 32)) tests.0 in
    (leb-true low n range.0, ltb-true n (2 ^ 32) range.1))
    (λ _. tt)

-- ---- what has a number

there : {X : Type 0} (P : X → Type 0) (xs : List X) (i : ℕ) → All P xs → IfSome (slice_get xs i) P
there P xs i all = elim ((slice_get_cases xs i).1) [
  | inl found ↦ subst (λ o. IfSome o P) (sym found.2) (subst P found.3 (All-get_or P xs i found.0 found.1 all))
  | inr past ↦ subst (λ o. IfSome o P) (sym past.1) tt
]

ranged_good : {X : Type 0} (P : X → Type 0) (o : Option X) → IfSome o P → IfOk (or_out_of_range o) P
ranged_good P None h = tt
ranged_good P (Some x) h = h

one_good : {X : Type 0} (P : X → Type 0) (xs : List X) (n : Option ℕ) → All P xs → IfOk (numbered_one xs n) P
one_good P xs None all = tt
one_good P xs (Some n) all = ranged_good P (slice_get xs (n - 1)) (there P xs (n - 1) all)

before_good : {X : Type 0} (P : X → Type 0) (n : ℕ) (one : Result X ProofFault) (more : Result (List X) ProofFault) → IfOk one P → IfOk more (λ xs. All P xs × (length xs ≡ n)) →
    IfOk (one_before one more) (λ xs. All P xs × (length xs ≡ suc n))
before_good P n (Err fault) more h k = tt
before_good P n (Ok x) (Err fault) h k = tt
before_good P n (Ok x) (Ok xs) h k = (All-cons P x xs h k.0, ap suc k.1)

all_good : {X : Type 0} (P : X → Type 0) (xs : List X) (words : List (List ℕ)) → All P xs → IfOk (numbered_all xs words) (λ ys. All P ys × (length ys ≡ length words))
all_good P xs [] all = (All-nil P, refl)
all_good P xs (word ∷ words) all =
    before_good P (length words) (numbered_one xs (decimal_number 1 word)) (numbered_all xs words) (one_good P xs (decimal_number 1 word) all) (all_good P xs words all)

-- ---- sides

-- a side of a step as a line may have it: terms that can be spelled, at least one and at most so many
record IsSide (most : ℕ) (side : List Term) : Type 0 where
  spelled : All CanBeSpelled side
  some : 0 < length side
  few : length side ≤ most

numbered_good : (word : List ℕ) (terms : List Term) (words : List (List ℕ)) (most : ℕ) → length words ≤ most → All CanBeSpelled terms → IfOk (numbered_side word terms words) (IsSide most)
numbered_good word terms [] most few all = tt
numbered_good word terms (first ∷ []) most few all = tt
numbered_good word terms (first ∷ number ∷ numbers) most few all =
    cond_both (bytes_eq first word) (numbered_all terms (number ∷ numbers)) (Err BadLine) (λ r. IfOk r (IsSide most))
    (λ _. sized (numbered_all terms (number ∷ numbers)) (all_good CanBeSpelled terms (number ∷ numbers) all)) (λ _. tt)
  where
    sized : (r : Result (List Term) ProofFault) → IfOk r (λ side. All CanBeSpelled side × (length side ≡ length (number ∷ numbers))) → IfOk r (IsSide most)
    sized (Err fault) h = tt
    sized (Ok side) h = let n = h.1 in record { spelled = h.0; some = omega arith; few = omega arith }

spelled_long : (piece : List ℕ) (term : Term) → Spells piece term → 0 < length piece
spelled_long piece term (iri s) = let n = ap length s.whole in omega arith
spelled_long piece term (blank s) = let n = ap length s.whole in omega arith
spelled_long piece term (literal {string = string} {suffix = suffix} s after whole) =
    let n = ap length whole in let m = ap length s.whole in let sum = length-append string suffix in omega arith

terms_good : (line : List ℕ) (at : ℕ) (answer : Result (List Term) ProofFault) → TermsSay line at answer → IfOk answer (λ terms. All CanBeSpelled terms × (length terms + at ≤ length line))
terms_good line at answer (text.no_more run) = let ordered = run.ordered in (All-nil CanBeSpelled, omega arith)
terms_good line at answer (text.not_a_term run inside none) = tt
terms_good line at answer (text.bad_term run begins fails) = tt
terms_good line at answer (text.bad_later run begins reads later) = tt
terms_good line at answer (text.term_then {end = end} {term = term} {terms = terms} run begins reads later) =
    let more = terms_good line end (Ok terms) later in
    let long = spelled_long reads.piece term reads.spells in
    let ends = reads.ends in
    let ordered = run.ordered in
    let few = more.1 in
    (All-cons CanBeSpelled term terms (record { piece = reads.piece; spells = reads.spells }) more.0, omega arith)

one_term_good : (line : List ℕ) (answer : Result Term ProofFault) → OneTermSays line answer → IfOk answer CanBeSpelled
one_term_good line answer (text.not_a_term run none) = tt
one_term_good line answer (text.bad_term run begins fails) = tt
one_term_good line answer (text.followed run begins reads gap more) = tt
one_term_good line answer (text.only_term run begins reads gap) = record { piece = reads.piece; spells = reads.spells }

side_good : (word line : List ℕ) (terms : List Term) (version : Version) (answer : Result (List Term) ProofFault) → All CanBeSpelled terms → SideSays word line terms version answer → IfOk answer (IsSide (length line))
side_good word line terms version answer all (text.other_word first other) = tt
side_good word line terms version answer all (text.by_terms {end = end} {answer = spelled} first same says) = some_good spelled (terms_good line end spelled says)
  where
    some_good : (r : Result (List Term) ProofFault) → IfOk r (λ side. All CanBeSpelled side × (length side + end ≤ length line)) → IfOk (some_terms r) (IsSide (length line))
    some_good (Err fault) h = tt
    some_good (Ok []) h = tt
    some_good (Ok (term ∷ side)) h = let few = h.1 in record { spelled = h.0; some = omega arith; few = omega arith }
side_good word line terms version answer all text.by_numbers = let few = words_few [] line in numbered_good word terms (words_of line) (length line) (omega arith) all

-- ---- supports

-- numbers of steps as a line may have them
abbrev pub AreStepNumbers : List ℕ → Type 0
AreStepNumbers ns = All (λ n. (0 < n) × (n < 2 ^ 32)) ns

steps_good : (words : List (List ℕ)) → IfSome (step_numbers words) AreStepNumbers
steps_good [] = All-nil (λ n. (0 < n) × (n < 2 ^ 32))
steps_good (word ∷ words) = joined_good (decimal_number 1 word) (step_numbers words) (number_within 1 word) (steps_good words)
  where
    joined_good : (one : Option ℕ) (more : Option (List ℕ)) → IfSome one (λ n. (1 ≤ n) × (n < 2 ^ 32)) → IfSome more AreStepNumbers → IfSome (number_before one more) AreStepNumbers
    joined_good None more h k = tt
    joined_good (Some n) None h k = tt
    joined_good (Some n) (Some ns) h k = All-cons (λ n. (0 < n) × (n < 2 ^ 32)) n ns h k

-- a line of a support has the form of one
abbrev HasForm : Option SupportShape → Type 0
HasForm o = IfSome o HasSupportForm

support_good : (slot : Option ℕ) (steps : Option (List ℕ)) → IfSome steps AreStepNumbers → IfOk (support_of slot steps) HasForm
support_good None steps h = tt
support_good (Some slot) None h = tt
support_good (Some slot) (Some steps) h =
    cond_both (nat_lt slot 16) (Ok (Some (record { slot = slot; steps = steps }))) (Err BadLine) (λ r. IfOk r HasForm) (λ e. (ltb-true slot 16 e, h)) (λ _. tt)

support_or_done_good : (words : List (List ℕ)) → IfOk (support_or_done_of words) HasForm
support_or_done_good [] = tt
support_or_done_good (word ∷ []) = cond_both (bytes_eq word (codes "done")) (Ok None) (Err BadLine) (λ r. IfOk r HasForm) (λ _. tt) (λ _. tt)
support_or_done_good (word ∷ slot ∷ numbers) =
    cond_both (bytes_eq word (codes "by")) (support_of (decimal_number 0 slot) (step_numbers numbers)) (Err BadLine) (λ r. IfOk r HasForm)
    (λ _. support_good (decimal_number 0 slot) (step_numbers numbers) (steps_good numbers)) (λ _. tt)

-- ---- steps that begin, and the end

abbrev BeginsOrEnds : StepOrEnd → Type 0
BeginsOrEnds (Begins key) = is_name key ≡ true
BeginsOrEnds (Ends n) = n < 2 ^ 32

step_or_end_good : (words : Option (List ℕ × List ℕ)) → IfOk (step_or_end_of words) BeginsOrEnds
step_or_end_good None = tt
step_or_end_good (Some words) =
    let P : Result StepOrEnd ProofFault → Type 0 = λ r. IfOk r BeginsOrEnds in
    let ends : Result StepOrEnd ProofFault = if bytes_eq words.0 (codes "end") then end_of (decimal_number 0 words.1) else Err BadLine in
    cond_both (bytes_eq words.0 (codes "step")) (if is_name words.1 then Ok (Begins words.1) else Err BadLine) ends P
    (λ _. cond_both (is_name words.1) (Ok (Begins words.1)) (Err BadLine) P (λ e. e) (λ _. tt))
    (λ _. cond_both (bytes_eq words.0 (codes "end")) (end_of (decimal_number 0 words.1)) (Err BadLine) P (λ _. end_good (decimal_number 0 words.1) (number_within 0 words.1)) (λ _. tt))
  where
    end_good : (o : Option ℕ) → IfSome o (λ n. (0 ≤ n) × (n < 2 ^ 32)) → IfOk (end_of o) BeginsOrEnds
    end_good None h = tt
    end_good (Some n) h = h.1

-- ---- a file as far as it was read

-- what has come of a step has its form; at the end there are few steps
abbrev StageForm : ℕ → StageShape → Type 0
StageForm count AtHeader = Unit {0}
StageForm count AtCount = Unit {0}
StageForm count (AtTerm n) = Unit {0}
StageForm count AtStep = Unit {0}
StageForm count (AtLeft key) = is_name key ≡ true
StageForm count (AtRight key left) = (is_name key ≡ true) × All CanBeSpelled left × (0 < length left)
StageForm count (AtSupport step) = HasStepForm step
StageForm count AtEnd = count < 2 ^ 32

-- how many terms have come of it
abbrev open_terms : StageShape → ℕ
open_terms AtHeader = 0
open_terms AtCount = 0
open_terms (AtTerm n) = 0
open_terms AtStep = 0
open_terms (AtLeft key) = 0
open_terms (AtRight key left) = length left
open_terms (AtSupport step) = length (step_terms step)
open_terms AtEnd = 0

-- a part of a file of so many bytes
record IsReadable (bytes : ℕ) (p : ProofState) : Type 0 where
  terms_form : All CanBeSpelled p.terms
  steps_form : All HasStepForm p.steps
  stage_form : StageForm (length p.steps) p.stage
  few : length (steps_terms p.steps) + open_terms p.stage ≤ bytes

module _ (bytes : ℕ) (p : ProofState) (spelled : All CanBeSpelled p.terms) (formed : All HasStepForm p.steps) (line : List ℕ) where
  abbrev Goal : Result ProofState ProofFault → Type 0
  Goal answer = IfOk answer (IsReadable (bytes + length line))

  header_good : (version : Result Version ProofFault) → length (steps_terms p.steps) + 0 ≤ bytes → Goal (after_header p version)
  header_good (Err fault) few = tt
  header_good (Ok One) few = record { terms_form = spelled; steps_form = formed; stage_form = tt; few = omega arith }
  header_good (Ok Two) few = record { terms_form = spelled; steps_form = formed; stage_form = tt; few = omega arith }

  terms_stage : (n count : ℕ) → StageForm count (stage_of_terms n) × (open_terms (stage_of_terms n) ≡ 0)
  terms_stage n count = cond_both (n == 0) AtStep (AtTerm n) (λ stage. StageForm count stage × (open_terms stage ≡ 0)) (λ _. (tt, refl)) (λ _. (tt, refl))

  count_good : (n : Result ℕ ProofFault) → length (steps_terms p.steps) + 0 ≤ bytes → Goal (after_count p n)
  count_good (Err fault) few = tt
  count_good (Ok n) few =
      let stage = terms_stage n (length p.steps) in
      let none = stage.1 in
      record { terms_form = spelled; steps_form = formed; stage_form = stage.0; few = omega arith }

  term_good : (n : ℕ) (term : Result Term ProofFault) → IfOk term CanBeSpelled → length (steps_terms p.steps) + 0 ≤ bytes → Goal (after_term p n term)
  term_good n (Err fault) one few = tt
  term_good n (Ok term) one few =
      let stage = terms_stage (n - 1) (length p.steps) in
      let none = stage.1 in
      record {
        terms_form = All-append CanBeSpelled p.terms (term ∷ []) spelled (All-cons CanBeSpelled term [] one (All-nil CanBeSpelled));
        steps_form = formed;
        stage_form = stage.0;
        few = omega arith;
      }

  step_good : (begins : Result StepOrEnd ProofFault) → IfOk begins BeginsOrEnds → length (steps_terms p.steps) + 0 ≤ bytes → Goal (after_step_or_end p begins)
  step_good (Err fault) h few = tt
  step_good (Ok (Begins key)) h few = record { terms_form = spelled; steps_form = formed; stage_form = h; few = omega arith }
  step_good (Ok (Ends n)) h few =
      cond_both (n == length p.steps) (at_next p AtEnd) (Err CountDiffers) Goal
      (λ e. record { terms_form = spelled; steps_form = formed; stage_form = subst (λ m. m < 2 ^ 32) (eqb-true n (length p.steps) e) h; few = omega arith })
      (λ _. tt)

  left_good : (key : List ℕ) (side : Result (List Term) ProofFault) → is_name key ≡ true → IfOk side (IsSide (length line)) → length (steps_terms p.steps) + 0 ≤ bytes → Goal (after_left p key side)
  left_good key (Err fault) name h few = tt
  left_good key (Ok left) name h few = let short = h.few in record { terms_form = spelled; steps_form = formed; stage_form = (name, h.spelled, h.some); few = omega arith }

  right_good : (key : List ℕ) (left : List Term) (side : Result (List Term) ProofFault) → (is_name key ≡ true) × All CanBeSpelled left × (0 < length left) → IfOk side (IsSide (length line)) →
      length (steps_terms p.steps) + length left ≤ bytes → Goal (after_right p key left side)
  right_good key left (Err fault) form h few = tt
  right_good key left (Ok right) form h few =
      let short = h.few in
      let sum = length-append left right in
      record {
        terms_form = spelled;
        steps_form = formed;
        stage_form = record { key = form.0; left_some = form.2; right_some = h.some; spelled = All-append CanBeSpelled left right form.1 h.spelled; supports = All-nil HasSupportForm };
        few = omega arith;
      }

  support_line_good : (step : StepShape) (support : Result (Option SupportShape) ProofFault) → HasStepForm step → IfOk support HasForm → length (steps_terms p.steps) + length (step_terms step) ≤ bytes →
      Goal (after_support_or_done p step support)
  support_line_good step (Err fault) form h few = tt
  support_line_good step (Ok None) form h few =
      let more = ap length (flat_map-append step_terms p.steps (step ∷ [])) in
      let sum = length-append (steps_terms p.steps) (step_terms step ++ []) in
      let last = length-append (step_terms step) [] in
      record {
        terms_form = spelled;
        steps_form = All-append HasStepForm p.steps (step ∷ []) formed (All-cons HasStepForm step [] form (All-nil HasStepForm));
        stage_form = tt;
        few = omega arith;
      }
  support_line_good step (Ok (Some support)) form h few = record {
    terms_form = spelled;
    steps_form = formed;
    stage_form = record {
      key = form.key;
      left_some = form.left_some;
      right_some = form.right_some;
      spelled = form.spelled;
      supports = All-append HasSupportForm step.supports (support ∷ []) form.supports (All-cons HasSupportForm support [] h (All-nil HasSupportForm));
    };
    few = omega arith;
  }

  end_line_good : p.stage ≡ AtEnd → (words : List (List ℕ)) → length p.steps < 2 ^ 32 → length (steps_terms p.steps) + 0 ≤ bytes → Goal (after_end p words)
  end_line_good at [] few_steps few = record {
    terms_form = spelled;
    steps_form = formed;
    stage_form = subst (StageForm (length p.steps)) (sym at) few_steps;
    few = subst (λ stage. length (steps_terms p.steps) + open_terms stage ≤ bytes + length line) (sym at) (omega arith);
  }
  end_line_good at (word ∷ words) few_steps few = tt

  stage_good : (stage : StageShape) (answer : Result ProofState ProofFault) → p.stage ≡ stage → StageForm (length p.steps) stage → length (steps_terms p.steps) + open_terms stage ≤ bytes → StageSays p stage line answer → Goal answer
  stage_good AtHeader answer at form few says = subst Goal (sym says) (header_good (header_of (two_of (words_of line))) few)
  stage_good AtCount answer at form few says = subst Goal (sym says) (count_good (count_of (two_of (words_of line))) few)
  stage_good (AtTerm n) answer at form few says = subst Goal (sym says.2) (term_good n says.0 (one_term_good line says.0 says.1) few)
  stage_good AtStep answer at form few says = subst Goal (sym says) (step_good (step_or_end_of (two_of (words_of line))) (step_or_end_good (two_of (words_of line))) few)
  stage_good (AtLeft key) answer at form few says = subst Goal (sym says.2) (left_good key says.0 form (side_good (codes "left") line p.terms p.version says.0 spelled says.1) few)
  stage_good (AtRight key left) answer at form few says = subst Goal (sym says.2) (right_good key left says.0 form (side_good (codes "right") line p.terms p.version says.0 spelled says.1) few)
  stage_good (AtSupport step) answer at form few says = subst Goal (sym says) (support_line_good step (support_or_done_of (words_of line)) form (support_or_done_good (words_of line)) few)
  stage_good AtEnd answer at form few says = subst Goal (sym says) (end_line_good at (words_of line) form few)

line_good : (bytes : ℕ) (p : ProofState) (line : List ℕ) (answer : Result ProofState ProofFault) → IsReadable bytes p → ProofLineSays p line answer → IfOk answer (IsReadable (bytes + length line))
line_good bytes p line answer h (text.no_utf8 other) = tt
line_good bytes p line answer h (text.in_utf8 utf8 says) = stage_good bytes p h.terms_form h.steps_form line p.stage answer refl h.stage_form h.few says

-- how many bytes lines have
abbrev bytes_in : List (List ℕ) → ℕ
bytes_in [] = 0
bytes_in (line ∷ content) = length line + bytes_in content

lines_good : (bytes all : ℕ) (p : ProofState) (number : ℕ) (content : List (List ℕ)) (answer : Result ProofState ProofRefusal) → bytes + bytes_in content ≡ all → IsReadable bytes p → ProofLinesSay p number content answer →
    IfOk answer (IsReadable all)
lines_good bytes all p number content answer sum h text.no_line = let e : bytes ≡ all = omega arith in subst (λ n. IsReadable n p) e h
lines_good bytes all p number content answer sum h (text.faulty_line bad) = tt
lines_good bytes all p number content answer sum h (text.good_line {next = next} {line = line} {more = more} good says) =
    lines_good (bytes + length line) all next (number + 1) more answer (omega arith) (line_good bytes p line (Ok next) h good) says

-- ---- the bytes of a text

lined_bytes : (content : List (List ℕ)) (last bytes : List ℕ) → Lined content last bytes → bytes_in content + length last ≤ length bytes
lined_bytes content last bytes (cutting.rest plain) = omega arith
lined_bytes content last bytes (cutting.feed {line = line} {bytes = after} {more = more} plain later whole) =
    let rest = lined_bytes more last after later in
    let n = ap length whole in
    let sum = length-append line (0x0A ∷ after) in
    omega arith
lined_bytes content last bytes (cutting.return_feed {line = line} {bytes = after} {more = more} plain later whole) =
    let rest = lined_bytes more last after later in
    let n = ap length whole in
    let sum = length-append line (0x0D ∷ 0x0A ∷ after) in
    omega arith
lined_bytes content last bytes (cutting.return {line = line} {bytes = after} {more = more} plain next later whole) =
    let rest = lined_bytes more last after later in
    let n = ap length whole in
    let sum = length-append line (0x0D ∷ after) in
    omega arith

with_last : (content : List (List ℕ)) (last : List ℕ) → bytes_in (content ++ last_of last) ≤ bytes_in content + length last
with_last [] [] = omega arith
with_last [] (b ∷ last) = omega arith
with_last (line ∷ content) last = let more = with_last content last in omega arith

lines_bytes : (bytes : List ℕ) → bytes_in (lines bytes) ≤ length bytes
lines_bytes bytes =
    let cut = lined_bytes (cut_of bytes).ended (cut_of bytes).rest bytes (cut_lined bytes) in
    let last = with_last (cut_of bytes).ended (cut_of bytes).rest in
    omega arith

-- ---- the file

start_readable : IsReadable 0 proof_start
start_readable = record { terms_form = All-nil CanBeSpelled; steps_form = All-nil HasStepForm; stage_form = tt; few = omega arith }

ended_good : (all : ℕ) (p : ProofState) (stage : StageShape) (last : ℕ) → all < 2 ^ 32 → All HasStepForm p.steps → StageForm (length p.steps) stage → length (steps_terms p.steps) + open_terms stage ≤ all →
    IfOk (proof_ended p stage last) CanBeRead
ended_good all p AtHeader last small formed form few = tt
ended_good all p AtCount last small formed form few = tt
ended_good all p (AtTerm n) last small formed form few = tt
ended_good all p AtStep last small formed form few = tt
ended_good all p (AtLeft key) last small formed form few = tt
ended_good all p (AtRight key left) last small formed form few = tt
ended_good all p (AtSupport step) last small formed form few = tt
ended_good all p AtEnd last small formed form few =
    let names = (length-with_terms [] (steps_terms p.steps)).1 in
    record { each = formed; few_terms = omega arith; few_steps = form }

-- what can be read, if no line was refused
abbrev Can : Result (List StepShape) ProofRefusal → Type 0
Can r = IfOk r CanBeRead

-- a proof file within a limit below 2 ^ 32
pub says_readable : (limit : ℕ) (bytes : List ℕ) (answer : Result (List StepShape) ProofRefusal) → limit < 2 ^ 32 → ProofSays limit bytes answer → IfOk answer CanBeRead
says_readable limit bytes answer small says = subst Can (sym says.2) (after says.0 says.1)
  where
    after : (read : Result ProofState ProofRefusal) → ProofLinesSay proof_start 1 (judged limit bytes) read → Can (proof_or_refusal limit bytes read)
    after (Err refusal) lines_say = tt
    after (Ok p) lines_say =
        cond_both (nat_lt limit (length bytes)) (Err (record { line = line_of_next (take limit bytes) (slice_index bytes limit); fault = FileTooLong })) (proof_ended p p.stage (length (lines bytes))) Can
        (λ _. tt)
        (λ test.
        let fits = ltb-false limit (length bytes) test in
        let all = cond-true (nat_le (length bytes) limit) (lines bytes) (cut_of (take limit bytes)).ended (le-leb (length bytes) limit fits) in
        let few = lines_bytes bytes in
        let good = lines_good 0 (bytes_in (lines bytes)) proof_start 1 (lines bytes) (Ok p) (omega arith) start_readable (subst (λ l. ProofLinesSay proof_start 1 l (Ok p)) all lines_say) in
        ended_good (bytes_in (lines bytes)) p p.stage (length (lines bytes)) (omega arith) good.steps_form good.stage_form good.few)

-- a proof file that says steps is within the limit
pub says_within : (limit : ℕ) (bytes : List ℕ) (answer : Result (List StepShape) ProofRefusal) → ProofSays limit bytes answer → IfOk answer (λ steps. length bytes ≤ limit)
says_within limit bytes answer says = subst Fits (sym says.2) (after says.0)
  where
    Fits : Result (List StepShape) ProofRefusal → Type 0
    Fits r = IfOk r (λ steps. length bytes ≤ limit)

    at_end : (p : ProofState) (stage : StageShape) (last : ℕ) → length bytes ≤ limit → Fits (proof_ended p stage last)
    at_end p AtHeader last fits = tt
    at_end p AtCount last fits = tt
    at_end p (AtTerm n) last fits = tt
    at_end p AtStep last fits = tt
    at_end p (AtLeft key) last fits = tt
    at_end p (AtRight key left) last fits = tt
    at_end p (AtSupport step) last fits = tt
    at_end p AtEnd last fits = fits

    after : (read : Result ProofState ProofRefusal) → Fits (proof_or_refusal limit bytes read)
    after (Err refusal) = tt
    after (Ok p) =
        cond_both (nat_lt limit (length bytes)) (Err (record { line = line_of_next (take limit bytes) (slice_index bytes limit); fault = FileTooLong })) (proof_ended p p.stage (length (lines bytes))) Fits
        (λ _. tt) (λ test. at_end p p.stage (length (lines bytes)) (ltb-false limit (length bytes) test))

-- so what was answered can be read
pub readable_told : (limit : ℕ) (bytes : List ℕ) (r : Result (List StepShape) (Stop ProofRefusal)) → IsSo (ProofSays limit bytes) r → limit < 2 ^ 32 → IfOk r CanBeRead
readable_told limit bytes (Ok steps) so small = says_readable limit bytes (Ok steps) small so
readable_told limit bytes (Err stop) so small = tt
