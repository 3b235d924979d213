-- What a line of N-Triples says (RDF 1.1 N-Triples, section 7: triple, subject, predicate, object): nothing, a triple, or the
-- leftmost fault. Tabs and spaces may stand between the terminals, and a comment where a terminal could begin.
use Rattle.std.specs.Prelude.{◌≡◌, ◌≢◌, ℕ, ◌+◌, ◌⊎◌, ◌==◌, ◌||◌, Bool, true, false, List, length, slice_index, IsUtf8, Option, Some, None, Result, Ok, Err}
use Rattle.gk_base.specs.declared.term.Term.{Term}
use Rattle.gk_base.specs.declared.term.Triple.{Triple}
use Rattle.gk_base.specs.declared.lex_fault.LexFault.{LexFault}
use Rattle.gk_base.specs.declared.lex_fault.LexFault.TheVariants.{NotUtf8, SubjectExpected, PredicateExpected, DotExpected, TextAfterTheDot}
use Rattle.nt_lex.specs.Chars.{is_blank}
use Rattle.nt_lex.specs.Scans.{IsRunAt}
use Rattle.nt_lex.specs.Reading.{Reads, Fails, Says}

-- the first place from the one on that holds neither tab nor space
abbrev pub Skips : List ℕ → ℕ → ℕ → Type 0
Skips line at next = IsRunAt is_blank line at next

-- nothing more comes, or a comment
abbrev pub IsOver : List ℕ → ℕ → Type 0
IsOver line at = (at ≡ length line) ⊎ (slice_index line at ≡ 0x23)

-- `<` and `_`, with which a subject begins
abbrev pub begins_subject : ℕ → Bool
begins_subject b = b == 0x3C || b == 0x5F

-- `<`, with which a predicate begins
abbrev pub begins_predicate : ℕ → Bool
begins_predicate b = b == 0x3C

-- where only some terms may stand, such a term or what is wrong with it; or else this fault
pub data TermSays (begins : ℕ → Bool) (expected : LexFault) (line : List ℕ) (at : ℕ) : Result (Term × ℕ) LexFault → Type 0 where
  term : {answer : Result (Term × ℕ) LexFault} → begins (slice_index line at) ≡ true → Says line at answer → TermSays begins expected line at answer
  other : begins (slice_index line at) ≡ false → TermSays begins expected line at (Err expected)

-- subject: IRIREF or BLANK_NODE_LABEL
abbrev pub SubjectSays : List ℕ → ℕ → Result (Term × ℕ) LexFault → Type 0
SubjectSays line at answer = TermSays begins_subject SubjectExpected line at answer

-- predicate: IRIREF
abbrev pub PredicateSays : List ℕ → ℕ → Result (Term × ℕ) LexFault → Type 0
PredicateSays line at answer = TermSays begins_predicate PredicateExpected line at answer

-- at the place after the object: a dot, and then nothing more than a comment (none), or what is wrong
pub data EndSays (line : List ℕ) (at : ℕ) : Option LexFault → Type 0 where
  no_dot : slice_index line at ≢ 0x2E → EndSays line at (Some DotExpected)
  text : (next : ℕ) → slice_index line at ≡ 0x2E → Skips line (at + 1) next → ¬ (IsOver line next) → EndSays line at (Some TextAfterTheDot)
  over : (next : ℕ) → slice_index line at ≡ 0x2E → Skips line (at + 1) next → IsOver line next → EndSays line at None

-- from the object on, after this subject and this predicate
pub data FromObject (line : List ℕ) (subject predicate : Term) (at : ℕ) : Result Triple LexFault → Type 0 where
  no_object : {fault : LexFault} → Fails line at fault → FromObject line subject predicate at (Err fault)
  no_end : {object : Term} {end dot : ℕ} {fault : LexFault} → Reads line at object end → Skips line end dot → EndSays line dot (Some fault)
      → FromObject line subject predicate at (Err fault)
  whole : {object : Term} {end dot : ℕ} → Reads line at object end → Skips line end dot → EndSays line dot None
      → FromObject line subject predicate at (Ok (record { subject = subject; predicate = predicate; object = object }))

-- from the predicate on, after this subject
pub data FromPredicate (line : List ℕ) (subject : Term) (at : ℕ) : Result Triple LexFault → Type 0 where
  no_predicate : {fault : LexFault} → PredicateSays line at (Err fault) → FromPredicate line subject at (Err fault)
  predicate_reads : {predicate : Term} {end next : ℕ} {answer : Result Triple LexFault} → PredicateSays line at (Ok (predicate, end)) → Skips line end next
      → FromObject line subject predicate next answer → FromPredicate line subject at answer

-- from the subject on
pub data FromSubject (line : List ℕ) (at : ℕ) : Result Triple LexFault → Type 0 where
  no_subject : {fault : LexFault} → SubjectSays line at (Err fault) → FromSubject line at (Err fault)
  subject_reads : {subject : Term} {end next : ℕ} {answer : Result Triple LexFault} → SubjectSays line at (Ok (subject, end)) → Skips line end next
      → FromPredicate line subject next answer → FromSubject line at answer

-- what the line says; that it is not UTF-8 comes before all other faults
pub data LineSays (line : List ℕ) : Result (Option Triple) LexFault → Type 0 where
  no_text : ¬ (IsUtf8 line) → LineSays line (Err NotUtf8)
  nothing : (at : ℕ) → IsUtf8 line → Skips line 0 at → IsOver line at → LineSays line (Ok None)
  triple : (at : ℕ) {said : Triple} → IsUtf8 line → Skips line 0 at → ¬ (IsOver line at) → FromSubject line at (Ok said) → LineSays line (Ok (Some said))
  faulty : (at : ℕ) {fault : LexFault} → IsUtf8 line → Skips line 0 at → ¬ (IsOver line at) → FromSubject line at (Err fault) → LineSays line (Err fault)
