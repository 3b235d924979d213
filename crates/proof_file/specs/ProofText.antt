-- What a proof file says: its steps, or the first refused line and why. The form of the file, the refusals and their order
-- are this project's own; lines are those of RDF 1.1 N-Triples, section 7 (EOL), and terms are spelled as there.
use Rattle.std.specs.Prelude.{List, [], ◌∷◌, ◌++◌, ℕ, ◌+◌, ◌-◌, true, false, ◌==◌, nat_lt, Option, Some, None, Result, Ok, Err, IsUtf8, codes, bytes_eq, length, take, slice_get, slice_index, slice_range, if◌then◌else◌, ◌≡◌, ◌≢◌}
use Rattle.gk_base.specs.declared.term.Term.{Term}
use Rattle.gk_base.specs.declared.lex_fault.LexFault.{LexFault}
use Rattle.gk_base.specs.declared.lex_fault.LexFault.TheVariants.{NotUtf8}
use Rattle.nt_lex.specs.Chars.{is_blank}
use Rattle.nt_lex.specs.Scans.{IsRunAt}
use Rattle.nt_lex.specs.Reading.{begins_term, Says}
use Rattle.nt_reader.specs.Lines.{lines}
use Rattle.nt_reader.specs.File.{judged, line_of_next}
use Rattle.key_file.specs.Name.{is_name}
use Rattle.proof_file.specs.Steps.{SupportShape, StepShape}
use Rattle.proof_file.specs.Words.{words_of, two_of, decimal_number, FirstWord}
use Rattle.proof_file.specs.declared.step_or_end.StepOrEnd.{StepOrEnd}
use Rattle.proof_file.specs.declared.step_or_end.StepOrEnd.TheVariants.{Begins, Ends}
use Rattle.proof_file.specs.declared.version.Version.{Version}
use Rattle.proof_file.specs.declared.version.Version.TheVariants.{One, Two}
use Rattle.proof_file.specs.declared.fault.ProofFault.{ProofFault}
use Rattle.proof_file.specs.declared.fault.ProofFault.TheVariants.{Lex, BadHeader, BadLine, CountDiffers, TextAfterTheEnd, FileTooLong, FileEndsInsideAProof, TermNumberOutOfRange}
use Rattle.proof_file.specs.declared.fault.ProofRefusal.{ProofRefusal}

-- which line may come next, with the step as far as it was read
pub data StageShape : Type 0 where
  AtHeader : StageShape
  AtCount : StageShape
  AtTerm : ℕ → StageShape
  AtStep : StageShape
  AtLeft : List ℕ → StageShape
  AtRight : List ℕ → List Term → StageShape
  AtSupport : StepShape → StageShape
  AtEnd : StageShape

-- a proof file as far as it was read: its version, the terms that it lists, its steps, and what may come next
pub record ProofState : Type 0 where
  pub version : Version
  pub terms : List Term
  pub steps : List StepShape
  pub stage : StageShape

-- before the first line
abbrev pub proof_start : ProofState
proof_start = record { version = One; terms = []; steps = []; stage = AtHeader }

-- the state with another stage
abbrev pub at_next : ProofState → StageShape → Result ProofState ProofFault
at_next p stage = Ok (record p { stage = stage })

-- ---- lines of words alone

-- a number or another part of a line, or else the line is bad
abbrev pub or_bad_line : {X : Type 0} → Option X → Result X ProofFault
or_bad_line None = Err BadLine
or_bad_line (Some x) = Ok x

-- the version that a word is
abbrev pub version_of : List ℕ → Result Version ProofFault
version_of word = if bytes_eq word (codes "1") then Ok One else if bytes_eq word (codes "2") then Ok Two else Err BadHeader

-- `gkey-proof 1` or `gkey-proof 2`
abbrev pub header_of : Option (List ℕ × List ℕ) → Result Version ProofFault
header_of None = Err BadHeader
header_of (Some words) = if bytes_eq words.0 (codes "gkey-proof") then version_of words.1 else Err BadHeader

-- after the header: in version 1 the steps come, in version 2 the terms
abbrev pub after_header : ProofState → Result Version ProofFault → Result ProofState ProofFault
after_header p (Err fault) = Err fault
after_header p (Ok One) = Ok (record p { version = One; stage = AtStep })
after_header p (Ok Two) = Ok (record p { version = Two; stage = AtCount })

-- `terms COUNT`
abbrev pub count_of : Option (List ℕ × List ℕ) → Result ℕ ProofFault
count_of None = Err BadLine
count_of (Some words) = if bytes_eq words.0 (codes "terms") then or_bad_line (decimal_number 0 words.1) else Err BadLine

-- so many term lines come, or steps
abbrev pub stage_of_terms : ℕ → StageShape
stage_of_terms n = if n == 0 then AtStep else AtTerm n

-- after the number of terms
abbrev pub after_count : ProofState → Result ℕ ProofFault → Result ProofState ProofFault
after_count p (Err fault) = Err fault
after_count p (Ok n) = at_next p (stage_of_terms n)

-- the number of steps at the end
abbrev pub end_of : Option ℕ → Result StepOrEnd ProofFault
end_of None = Err BadLine
end_of (Some n) = Ok (Ends n)

-- `step NAME` or `end COUNT`
abbrev pub step_or_end_of : Option (List ℕ × List ℕ) → Result StepOrEnd ProofFault
step_or_end_of None = Err BadLine
step_or_end_of (Some words) =
    if bytes_eq words.0 (codes "step") then (if is_name words.1 then Ok (Begins words.1) else Err BadLine)
    else if bytes_eq words.0 (codes "end") then end_of (decimal_number 0 words.1)
    else Err BadLine

-- after it: the left side of a step comes, or nothing more where as many steps have come
abbrev pub after_step_or_end : ProofState → Result StepOrEnd ProofFault → Result ProofState ProofFault
after_step_or_end p (Err fault) = Err fault
after_step_or_end p (Ok (Begins key)) = at_next p (AtLeft key)
after_step_or_end p (Ok (Ends n)) = if n == length p.steps then at_next p AtEnd else Err CountDiffers

-- what has a number that is in range
abbrev pub or_out_of_range : {X : Type 0} → Option X → Result X ProofFault
or_out_of_range None = Err TermNumberOutOfRange
or_out_of_range (Some x) = Ok x

-- what has this number in a list; numbers begin at 1
abbrev pub numbered_one : {X : Type 0} → List X → Option ℕ → Result X ProofFault
numbered_one terms None = Err BadLine
numbered_one terms (Some n) = or_out_of_range (slice_get terms (n - 1))

-- one before others, where there is no fault
abbrev pub one_before : {X : Type 0} → Result X ProofFault → Result (List X) ProofFault → Result (List X) ProofFault
one_before (Err fault) later = Err fault
one_before (Ok x) (Err fault) = Err fault
one_before (Ok x) (Ok xs) = Ok (x ∷ xs)

-- what have the numbers that these words are, judged from left to right
abbrev pub numbered_all : {X : Type 0} → List X → List (List ℕ) → Result (List X) ProofFault
numbered_all terms [] = Ok []
numbered_all terms (word ∷ words) = one_before (numbered_one terms (decimal_number 1 word)) (numbered_all terms words)

-- a side of a step in version 2: this word and at least one number of a term
abbrev pub numbered_side : {X : Type 0} → List ℕ → List X → List (List ℕ) → Result (List X) ProofFault
numbered_side word terms [] = Err BadLine
numbered_side word terms (first ∷ []) = Err BadLine
numbered_side word terms (first ∷ number ∷ numbers) = if bytes_eq first word then numbered_all terms (number ∷ numbers) else Err BadLine

-- a number before others, where all are numbers
abbrev pub number_before : Option ℕ → Option (List ℕ) → Option (List ℕ)
number_before None later = None
number_before (Some n) None = None
number_before (Some n) (Some numbers) = Some (n ∷ numbers)

-- the numbers of steps that these words are
abbrev pub step_numbers : List (List ℕ) → Option (List ℕ)
step_numbers [] = Some []
step_numbers (word ∷ words) = number_before (decimal_number 1 word) (step_numbers words)

-- a support at a slot below 16
abbrev pub support_of : Option ℕ → Option (List ℕ) → Result (Option SupportShape) ProofFault
support_of None numbers = Err BadLine
support_of (Some slot) None = Err BadLine
support_of (Some slot) (Some numbers) = if nat_lt slot 16 then Ok (Some (record { slot = slot; steps = numbers })) else Err BadLine

-- `by SLOT N N ..`, or `done` (none)
abbrev pub support_or_done_of : List (List ℕ) → Result (Option SupportShape) ProofFault
support_or_done_of [] = Err BadLine
support_or_done_of (word ∷ []) = if bytes_eq word (codes "done") then Ok None else Err BadLine
support_or_done_of (word ∷ slot ∷ numbers) = if bytes_eq word (codes "by") then support_of (decimal_number 0 slot) (step_numbers numbers) else Err BadLine

-- the step with one more support
abbrev pub with_support : StepShape → SupportShape → StepShape
with_support step support = record step { supports = step.supports ++ support ∷ [] }

-- after it: the step has one more support, or is done
abbrev pub after_support_or_done : ProofState → StepShape → Result (Option SupportShape) ProofFault → Result ProofState ProofFault
after_support_or_done p step (Err fault) = Err fault
after_support_or_done p step (Ok None) = Ok (record p { steps = p.steps ++ step ∷ []; stage = AtStep })
after_support_or_done p step (Ok (Some support)) = at_next p (AtSupport (with_support step support))

-- nothing more than tabs and spaces
abbrev pub after_end : ProofState → List (List ℕ) → Result ProofState ProofFault
after_end p [] = Ok p
after_end p (word ∷ words) = Err TextAfterTheEnd

-- ---- lines with terms

-- the terms from a place of a line on: up to its end, or up to the first fault
pub data TermsSay (line : List ℕ) : ℕ → Result (List Term) ProofFault → Type 0 where
  no_more : {at : ℕ} → IsRunAt is_blank line at (length line) → TermsSay line at (Ok [])
  not_a_term : {at next : ℕ} → IsRunAt is_blank line at next → next ≢ length line → begins_term (slice_index line next) ≡ false → TermsSay line at (Err BadLine)
  bad_term : {at next : ℕ} {fault : LexFault} → IsRunAt is_blank line at next → begins_term (slice_index line next) ≡ true → Says line next (Err fault) → TermsSay line at (Err (Lex fault))
  term_then : {at next end : ℕ} {term : Term} {terms : List Term} → IsRunAt is_blank line at next → begins_term (slice_index line next) ≡ true → Says line next (Ok (term, end))
      → TermsSay line end (Ok terms) → TermsSay line at (Ok (term ∷ terms))
  bad_later : {at next end : ℕ} {term : Term} {fault : ProofFault} → IsRunAt is_blank line at next → begins_term (slice_index line next) ≡ true → Says line next (Ok (term, end))
      → TermsSay line end (Err fault) → TermsSay line at (Err fault)

-- exactly one term
pub data OneTermSays (line : List ℕ) : Result Term ProofFault → Type 0 where
  not_a_term : {next : ℕ} → IsRunAt is_blank line 0 next → begins_term (slice_index line next) ≡ false → OneTermSays line (Err BadLine)
  bad_term : {next : ℕ} {fault : LexFault} → IsRunAt is_blank line 0 next → begins_term (slice_index line next) ≡ true → Says line next (Err fault) → OneTermSays line (Err (Lex fault))
  only_term : {next end : ℕ} {term : Term} → IsRunAt is_blank line 0 next → begins_term (slice_index line next) ≡ true → Says line next (Ok (term, end))
      → IsRunAt is_blank line end (length line) → OneTermSays line (Ok term)
  followed : {next end after : ℕ} {term : Term} → IsRunAt is_blank line 0 next → begins_term (slice_index line next) ≡ true → Says line next (Ok (term, end))
      → IsRunAt is_blank line end after → after ≢ length line → OneTermSays line (Err BadLine)

-- at least one term
abbrev pub some_terms : Result (List Term) ProofFault → Result (List Term) ProofFault
some_terms (Err fault) = Err fault
some_terms (Ok []) = Err BadLine
some_terms (Ok (term ∷ terms)) = Ok (term ∷ terms)

-- a side of a step: this word, and then at least one term, or in version 2 at least one number of a term
pub data SideSays (word line : List ℕ) (terms : List Term) : Version → Result (List Term) ProofFault → Type 0 where
  other_word : {begin end : ℕ} → FirstWord line begin end → bytes_eq (slice_range line begin end) word ≡ false → SideSays word line terms One (Err BadLine)
  by_terms : {begin end : ℕ} {answer : Result (List Term) ProofFault} → FirstWord line begin end → bytes_eq (slice_range line begin end) word ≡ true
      → TermsSay line end answer → SideSays word line terms One (some_terms answer)
  by_numbers : SideSays word line terms Two (numbered_side word terms (words_of line))

-- one more term is listed, of so many that were to come
abbrev pub after_term : ProofState → ℕ → Result Term ProofFault → Result ProofState ProofFault
after_term p n (Err fault) = Err fault
after_term p n (Ok term) = Ok (record p { terms = p.terms ++ term ∷ []; stage = stage_of_terms (n - 1) })

-- the left side of a step has come
abbrev pub after_left : ProofState → List ℕ → Result (List Term) ProofFault → Result ProofState ProofFault
after_left p key (Err fault) = Err fault
after_left p key (Ok left) = at_next p (AtRight key left)

-- and the right one
abbrev pub after_right : ProofState → List ℕ → List Term → Result (List Term) ProofFault → Result ProofState ProofFault
after_right p key left (Err fault) = Err fault
after_right p key left (Ok right) = at_next p (AtSupport (record { key = key; left = left; right = right; supports = [] }))

-- what a line says where it stands
abbrev pub StageSays : ProofState → StageShape → List ℕ → Result ProofState ProofFault → Type 0
StageSays p AtHeader line answer = answer ≡ after_header p (header_of (two_of (words_of line)))
StageSays p AtCount line answer = answer ≡ after_count p (count_of (two_of (words_of line)))
StageSays p (AtTerm n) line answer = (term : Result Term ProofFault) × OneTermSays line term × (answer ≡ after_term p n term)
StageSays p AtStep line answer = answer ≡ after_step_or_end p (step_or_end_of (two_of (words_of line)))
StageSays p (AtLeft key) line answer = (side : Result (List Term) ProofFault) × SideSays (codes "left") line p.terms p.version side × (answer ≡ after_left p key side)
StageSays p (AtRight key left) line answer = (side : Result (List Term) ProofFault) × SideSays (codes "right") line p.terms p.version side × (answer ≡ after_right p key left side)
StageSays p (AtSupport step) line answer = answer ≡ after_support_or_done p step (support_or_done_of (words_of line))
StageSays p AtEnd line answer = answer ≡ after_end p (words_of line)

-- that a line is not UTF-8 comes before all other faults
pub data ProofLineSays (p : ProofState) (line : List ℕ) : Result ProofState ProofFault → Type 0 where
  no_utf8 : ¬ (IsUtf8 line) → ProofLineSays p line (Err (Lex NotUtf8))
  in_utf8 : {answer : Result ProofState ProofFault} → IsUtf8 line → StageSays p p.stage line answer → ProofLineSays p line answer

-- the lines from this number on, one after another: the first faulty one is refused with its number
pub data ProofLinesSay : ProofState → ℕ → List (List ℕ) → Result ProofState ProofRefusal → Type 0 where
  no_line : {p : ProofState} {number : ℕ} → ProofLinesSay p number [] (Ok p)
  faulty_line : {p : ProofState} {number : ℕ} {line : List ℕ} {more : List (List ℕ)} {fault : ProofFault} → ProofLineSays p line (Err fault)
      → ProofLinesSay p number (line ∷ more) (Err (record { line = number; fault = fault }))
  good_line : {p next : ProofState} {number : ℕ} {line : List ℕ} {more : List (List ℕ)} {answer : Result ProofState ProofRefusal} → ProofLineSays p line (Ok next)
      → ProofLinesSay next (number + 1) more answer → ProofLinesSay p number (line ∷ more) answer

-- at the end of the file: the proof has ended, or its last line is refused; where there is none, the header is missing
abbrev pub proof_ended : ProofState → StageShape → ℕ → Result (List StepShape) ProofRefusal
proof_ended p AtHeader last = Err (record { line = 1; fault = BadHeader })
proof_ended p AtCount last = Err (record { line = last; fault = FileEndsInsideAProof })
proof_ended p (AtTerm n) last = Err (record { line = last; fault = FileEndsInsideAProof })
proof_ended p AtStep last = Err (record { line = last; fault = FileEndsInsideAProof })
proof_ended p (AtLeft key) last = Err (record { line = last; fault = FileEndsInsideAProof })
proof_ended p (AtRight key left) last = Err (record { line = last; fault = FileEndsInsideAProof })
proof_ended p (AtSupport step) last = Err (record { line = last; fault = FileEndsInsideAProof })
proof_ended p AtEnd last = Ok p.steps

-- after the lines that are judged: the byte after the limit is refused, with the line to which it belongs
abbrev pub after_proof_lines : ℕ → List ℕ → ProofState → Result (List StepShape) ProofRefusal
after_proof_lines limit bytes p =
    if nat_lt limit (length bytes) then Err (record { line = line_of_next (take limit bytes) (slice_index bytes limit); fault = FileTooLong })
    else proof_ended p p.stage (length (lines bytes))

-- the same where a line may have been refused
abbrev pub proof_or_refusal : ℕ → List ℕ → Result ProofState ProofRefusal → Result (List StepShape) ProofRefusal
proof_or_refusal limit bytes (Err refusal) = Err refusal
proof_or_refusal limit bytes (Ok p) = after_proof_lines limit bytes p

-- the steps of a proof file of at most so many bytes, or its refusal: the lines that end within the limit are judged first
abbrev pub ProofSays : ℕ → List ℕ → Result (List StepShape) ProofRefusal → Type 0
ProofSays limit bytes answer = (read : Result ProofState ProofRefusal) × ProofLinesSay proof_start 1 (judged limit bytes) read × (answer ≡ proof_or_refusal limit bytes read)
