-- A proof file says something.
use Rattle.std.proofs.Common.{List, [], ◌∷◌, ℕ, zero, suc, ◌+◌, ◌-◌, ◌<◌, ◌≤◌, Bool, true, ◌||◌, ◌==◌, Result, Ok, Err, IsUtf8, bytes_eq, codes, length, slice_index, slice_range, ◌≡◌, ◌≢◌, inl, inr, refl, sym, subst, ◌∙◌, arith, true≢false, eqb-true}
use Rattle.std.proofs.lemmas.Bool.{cases_Bool, cases_eq, or_cases}
use Rattle.std.proofs.lemmas.Str.{IsUtf8-from_is_utf8, is_utf8-from_IsUtf8, IsCharBoundary-before_ascii}
use Rattle.std.specs.Str.{is_utf8}
use Rattle.gk_base.specs.declared.term.Term.{Term}
use Rattle.gk_base.specs.declared.lex_fault.LexFault.{LexFault}
use Rattle.gk_base.specs.declared.lex_fault.LexFault.TheVariants.{NotUtf8}
use Rattle.nt_lex.specs.Chars.{is_blank}
use Rattle.nt_lex.specs.Scans.{IsRunAt}
use Rattle.nt_lex.specs.Reading.{begins_term, Says}
use Rattle.nt_lex.proofs.CallerLemmas.{run_from, says_total}
use Rattle.nt_reader.specs.File.{judged}
use Rattle.proof_file.specs.Steps.{StepShape}
use Rattle.proof_file.specs.Words.{no_blank, words_of, two_of, FirstWord}
use Rattle.proof_file.specs.ProofText as text
use Rattle.proof_file.specs.ProofText.{StageShape, AtHeader, AtCount, AtTerm, AtStep, AtLeft, AtRight, AtSupport, AtEnd, ProofState, proof_start, TermsSay, OneTermSays, some_terms, SideSays, header_of, count_of, step_or_end_of, support_or_done_of, after_header, after_count, after_step_or_end, after_term, after_left, after_right, after_support_or_done, after_end, StageSays, ProofLineSays, ProofLinesSay, proof_or_refusal, ProofSays}
use Rattle.proof_file.specs.declared.fault.ProofFault.{ProofFault}
use Rattle.proof_file.specs.declared.fault.ProofFault.TheVariants.{Lex, BadLine}
use Rattle.proof_file.specs.declared.fault.ProofRefusal.{ProofRefusal}
use Rattle.proof_file.specs.declared.version.Version.{Version}
use Rattle.proof_file.specs.declared.version.Version.TheVariants.{One, Two}
use Rattle.proof_file.proofs.SideLemmas.{read_ends}
use Rattle.proof_file.proofs.OnceLemmas.{begins_inside}

-- where a run ends
abbrev RunFound : (ℕ → Bool) → List ℕ → ℕ → Type 0
RunFound test line at = (end : ℕ) × IsRunAt test line at end

run_goes : (test : ℕ → Bool) (line : List ℕ) (n at : ℕ) → at + n ≡ length line → RunFound test line at
run_goes test line zero at long = (at, record { ordered = omega arith; in_range = omega arith; pass = λ k from below. absurd (omega arith); stops = λ inside. absurd (omega arith) })
run_goes test line (suc n) at long = elim (cases_Bool (test (slice_index line at))) [
  | inl is ↦
      let more = run_goes test line n (at + 1) (omega arith) in
      let here : (k : ℕ) → at ≤ k → k < at + 1 → test (slice_index line k) ≡ true = λ k from below. let same : at ≡ k = omega arith in subst (λ j. test (slice_index line j) ≡ true) same is in
      (more.0, run_from test line at (at + 1) more.0 (omega arith) here more.1)
  | inr isnt ↦ (at, record { ordered = omega arith; in_range = omega arith; pass = λ k from below. absurd (omega arith); stops = λ _. isnt })
]

run_total : (test : ℕ → Bool) (line : List ℕ) (at : ℕ) → at ≤ length line → RunFound test line at
run_total test line at le = run_goes test line (length line - at) at (omega arith)

-- a term begins with an ASCII byte
term_low : (b : ℕ) → begins_term b ≡ true → b < 128
term_low b h = elim (or_cases (b == 0x3C || b == 0x5F) (b == 0x22) h) [
  | inl most ↦ elim (or_cases (b == 0x3C) (b == 0x5F) most) [
    | inl iri ↦ let e = eqb-true b 0x3C iri in omega arith
    | inr blank ↦ let e = eqb-true b 0x5F blank in omega arith
  ]
  | inr literal ↦ let e = eqb-true b 0x22 literal in omega arith
]

-- what stands where a term begins
said : (line : List ℕ) (at next : ℕ) → IsUtf8 line → IsRunAt is_blank line at next → begins_term (slice_index line next) ≡ true → (answer : Result (Term × ℕ) LexFault) × Says line next answer
said line at next u run begins =
    let inside = begins_inside line at next run begins in
    let range = run.in_range in
    says_total line next u (IsCharBoundary-before_ascii line next (lt next (length line) range inside) (term_low (slice_index line next) begins))
  where
    lt : (m n : ℕ) → m ≤ n → m ≢ n → m < n
    lt m n le ne = omega (arith, le, ne)

abbrev TermsFound : List ℕ → ℕ → Type 0
TermsFound line at = (answer : Result (List Term) ProofFault) × TermsSay line at answer

terms_from : (line : List ℕ) (at : ℕ) → IsUtf8 line → ((end : ℕ) → at < end → end ≤ length line → TermsFound line end) → (next : ℕ) → IsRunAt is_blank line at next → TermsFound line at
terms_from line at u later next run = elim (cases_eq next (length line)) [
  | inl end ↦ (Ok [], text.no_more (subst (IsRunAt is_blank line at) end run))
  | inr inside ↦ elim (cases_Bool (begins_term (slice_index line next))) [
    | inl is ↦ let s = said line at next u run is in term is s.0 s.1
    | inr isnt ↦ (Err BadLine, text.not_a_term run inside isnt)
  ]
]
  where
    goes : (end : ℕ) (t : Term) → begins_term (slice_index line next) ≡ true → Says line next (Ok (t, end)) → (rest : Result (List Term) ProofFault) → TermsSay line end rest → TermsFound line at
    goes end t begins says (Ok ts) more = (Ok (t ∷ ts), text.term_then run begins says more)
    goes end t begins says (Err fault) more = (Err fault, text.bad_later run begins says more)

    term : begins_term (slice_index line next) ≡ true → (read : Result (Term × ℕ) LexFault) → Says line next read → TermsFound line at
    term begins (Err fault) says = (Err (Lex fault), text.bad_term run begins says)
    term begins (Ok read) says =
        let ends = read_ends line next read.1 read.0 says in
        let rest = later read.1 (omega (arith, ends.0, run.ordered)) ends.1 in
        goes read.1 read.0 begins says rest.0 rest.1

terms_total : (n : ℕ) (line : List ℕ) (at : ℕ) → at ≤ length line → length line - at < n → IsUtf8 line → TermsFound line at
terms_total zero line at le few u = absurd (omega arith)
terms_total (suc n) line at le few u =
    let gap = run_total is_blank line at le in
    terms_from line at u (λ end later inside. terms_total n line end inside (omega (arith, later, inside, few)) u) gap.0 gap.1

one_term_total : (line : List ℕ) → IsUtf8 line → (answer : Result Term ProofFault) × OneTermSays line answer
one_term_total line u = let gap = run_total is_blank line 0 (omega arith) in from gap.0 gap.1
  where
    after : (next end : ℕ) (t : Term) → IsRunAt is_blank line 0 next → begins_term (slice_index line next) ≡ true → Says line next (Ok (t, end)) → RunFound is_blank line end → (answer : Result Term ProofFault) × OneTermSays line answer
    after next end t run begins says gap = elim (cases_eq gap.0 (length line)) [
      | inl whole ↦ (Ok t, text.only_term run begins says (subst (IsRunAt is_blank line end) whole gap.1))
      | inr more ↦ (Err BadLine, text.followed run begins says gap.1 more)
    ]

    term : (next : ℕ) → IsRunAt is_blank line 0 next → begins_term (slice_index line next) ≡ true → (read : Result (Term × ℕ) LexFault) → Says line next read → (answer : Result Term ProofFault) × OneTermSays line answer
    term next run begins (Err fault) says = (Err (Lex fault), text.bad_term run begins says)
    term next run begins (Ok read) says = after next read.1 read.0 run begins says (run_total is_blank line read.1 (read_ends line next read.1 read.0 says).1)

    from : (next : ℕ) → IsRunAt is_blank line 0 next → (answer : Result Term ProofFault) × OneTermSays line answer
    from next run = elim (cases_Bool (begins_term (slice_index line next))) [
      | inl is ↦ let s = said line 0 next u run is in term next run is s.0 s.1
      | inr isnt ↦ (Err BadLine, text.not_a_term run isnt)
    ]

side_total : (word line : List ℕ) (terms : List Term) (v : Version) → IsUtf8 line → (answer : Result (List Term) ProofFault) × SideSays word line terms v answer
side_total word line terms Two u = (_, text.by_numbers)
side_total word line terms One u =
    let blanks = run_total is_blank line 0 (omega arith) in
    let run = run_total no_blank line blanks.0 blanks.1.in_range in
    let first : FirstWord line blanks.0 run.0 = record { blanks = blanks.1; run = run.1 } in
    elim (cases_Bool (bytes_eq (slice_range line blanks.0 run.0) word)) [
      | inl is ↦ let t = terms_total (length line - run.0 + 1) line run.0 run.1.in_range (omega arith) u in (some_terms t.0, text.by_terms first is t.1)
      | inr isnt ↦ (Err BadLine, text.other_word first isnt)
    ]

stage_total : (p : ProofState) (stage : StageShape) (line : List ℕ) → IsUtf8 line → (answer : Result ProofState ProofFault) × StageSays p stage line answer
stage_total p AtHeader line u = (after_header p (header_of (two_of (words_of line))), refl)
stage_total p AtCount line u = (after_count p (count_of (two_of (words_of line))), refl)
stage_total p (AtTerm n) line u = let t = one_term_total line u in (after_term p n t.0, (t.0, t.1, refl))
stage_total p AtStep line u = (after_step_or_end p (step_or_end_of (two_of (words_of line))), refl)
stage_total p (AtLeft key) line u = let s = side_total (codes "left") line p.terms p.version u in (after_left p key s.0, (s.0, s.1, refl))
stage_total p (AtRight key left) line u = let s = side_total (codes "right") line p.terms p.version u in (after_right p key left s.0, (s.0, s.1, refl))
stage_total p (AtSupport step) line u = (after_support_or_done p step (support_or_done_of (words_of line)), refl)
stage_total p AtEnd line u = (after_end p (words_of line), refl)

line_total : (p : ProofState) (line : List ℕ) → (answer : Result ProofState ProofFault) × ProofLineSays p line answer
line_total p line = elim (cases_Bool (is_utf8 line)) [
  | inl is ↦ let u = IsUtf8-from_is_utf8 line is in let s = stage_total p p.stage line u in (s.0, text.in_utf8 u s.1)
  | inr isnt ↦ (Err (Lex NotUtf8), text.no_utf8 (λ u. true≢false (sym (is_utf8-from_IsUtf8 line u) ∙ isnt)))
]

abbrev LinesFound : ProofState → ℕ → List (List ℕ) → Type 0
LinesFound p number content = (answer : Result ProofState ProofRefusal) × ProofLinesSay p number content answer

lines_from : (p : ProofState) (number : ℕ) (line : List ℕ) (more : List (List ℕ)) → ((next : ProofState) → LinesFound next (number + 1) more) → (answer : Result ProofState ProofFault) → ProofLineSays p line answer
    → LinesFound p number (line ∷ more)
lines_from p number line more later (Err fault) says = (_, text.faulty_line says)
lines_from p number line more later (Ok next) says = let rest = later next in (rest.0, text.good_line says rest.1)

lines_total : (content : List (List ℕ)) (p : ProofState) (number : ℕ) → LinesFound p number content
lines_total [] p number = (Ok p, text.no_line)
lines_total (line ∷ more) p number = let s = line_total p line in lines_from p number line more (λ next. lines_total more next (number + 1)) s.0 s.1

-- a proof file says at least one thing
pub proof_total : (limit : ℕ) (bytes : List ℕ) → (answer : Result (List StepShape) ProofRefusal) × ProofSays limit bytes answer
proof_total limit bytes = let read = lines_total (judged limit bytes) proof_start 1 in (proof_or_refusal limit bytes read.0, (read.0, read.1, refl))
