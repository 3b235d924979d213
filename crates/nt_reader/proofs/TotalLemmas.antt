-- Each line says something, and so does each file.
use Rattle.std.proofs.Common.{◌≡◌, ℕ, zero, suc, ◌+◌, ◌-◌, ◌<◌, ◌≤◌, ◌⊎◌, Bool, true, List, [], ◌∷◌, ◌++◌, length, take, get_or, slice_index, IsUtf8, Option, Some, None, Result, Ok, Err, refl, sym, ap, ◌∙◌, subst, inl, inr, arith, append_assoc, append-nil, length-append}
use Rattle.std.proofs.lemmas.Bool.{cases_Bool, cases_lt, cases_eq}
use Rattle.std.proofs.lemmas.List.{get_or_past}
use Rattle.std.proofs.lemmas.Str.{IsUtf8-from_is_utf8, is_utf8-from_IsUtf8, IsCharBoundary-start, IsCharBoundary-after_ascii}
use Rattle.std.specs.Str.{is_utf8, IsCharBoundary}
use Rattle.gk_base.specs.declared.term.Term.{Term}
use Rattle.gk_base.specs.declared.term.Triple.{Triple}
use Rattle.gk_base.specs.declared.limits.Limits.{Limits}
use Rattle.gk_base.specs.declared.lex_fault.LexFault.{LexFault}
use Rattle.gk_base.specs.declared.lex_fault.LexFault.TheVariants.{NotUtf8, SubjectExpected, PredicateExpected, DotExpected, TextAfterTheDot}
use Rattle.gk_base.specs.declared.read_fault.ReadFault.TheVariants.{Lex, TooManyTriples, TooLong}
use Rattle.gk_base.specs.declared.read_fault.ReadRefusal.{ReadRefusal}
use Rattle.nt_lex.specs.Chars.{is_blank}
use Rattle.nt_lex.specs.Reading.{Reads, Says}
use Rattle.nt_lex.proofs.CallerLemmas.{blank_low, ends_at_a_character, run_from, says_total}
use Rattle.nt_reader.specs.Line.{Skips, IsOver, begins_subject, begins_predicate, TermSays, term, other, SubjectSays, PredicateSays, EndSays, no_dot, text, over, FromObject, no_object, no_end, whole, FromPredicate, no_predicate, predicate_reads, FromSubject, no_subject, subject_reads, LineSays, no_text, nothing, triple, faulty}
use Rattle.nt_reader.specs.Lines.{cut_of, lines}
use Rattle.nt_reader.specs.File.{AreGood, StopsIn, line_of_next, FileSays}
use Rattle.nt_reader.proofs.FileLemmas.{good_push}
use Rattle.nt_reader.proofs.LineLemmas.{true_false}
use Rattle.nt_reader.proofs.OneFile.{within_judged, beyond_judged}

-- the next place that holds neither tab nor space
record Skipped (line : List ℕ) (at : ℕ) : Type 0 where
  next : ℕ
  skips : Skips line at next
  boundary : IsCharBoundary line next

skip_total : (n : ℕ) (line : List ℕ) (at : ℕ) → at + n ≡ length line → IsUtf8 line → IsCharBoundary line at → Skipped line at
skip_total zero line at long u b = record {
  next = at;
  skips = record { ordered = omega arith; in_range = b.0; pass = λ k from below. absurd (omega arith); stops = λ inside. absurd (omega arith) };
  boundary = b;
}
skip_total (suc n) line at long u b = elim (cases_Bool (is_blank (get_or line at 0))) [
  | inl blank ↦
      let inside : at < length line = omega arith in
      let more = skip_total n line (at + 1) (omega arith) u (IsCharBoundary-after_ascii line at u inside (blank_low (get_or line at 0) blank)) in
      let here : (k : ℕ) → at ≤ k → k < at + 1 → is_blank (get_or line k 0) ≡ true = λ k from below.
      let same : at ≡ k = omega arith in
      subst (λ j. is_blank (get_or line j 0) ≡ true) same blank
      in
      record { next = more.next; skips = run_from is_blank line at (at + 1) more.next (omega arith) here more.skips; boundary = more.boundary }
  | inr other_byte ↦ record {
    next = at;
    skips = record { ordered = omega arith; in_range = b.0; pass = λ k from below. absurd (omega arith); stops = λ _. other_byte };
    boundary = b;
  }
]

skipped : (line : List ℕ) (at : ℕ) → IsUtf8 line → IsCharBoundary line at → Skipped line at
skipped line at u b = let le : at ≤ length line = b.0 in let long : at + (length line - at) ≡ length line = omega arith in skip_total (length line - at) line at long u b

over_cases : (line : List ℕ) (at : ℕ) → IsOver line at ⊎ ¬ (IsOver line at)
over_cases line at = elim (cases_eq at (length line)) [
  | inl end ↦ inl (inl end)
  | inr more ↦ elim (cases_eq (get_or line at 0) 0x23) [
    | inl comment ↦ inl (inr comment)
    | inr no_comment ↦ inr (λ is. elim is [ inl end ↦ more end | inr comment ↦ no_comment comment ])
  ]
]

-- an answer that ends where a character ends, if it reads
abbrev EndsWell : List ℕ → Result (Term × ℕ) LexFault → Type 0
EndsWell line (Ok read) = IsCharBoundary line read.1
EndsWell line (Err fault) = Unit {0}

ends_well : (line : List ℕ) (at : ℕ) → IsUtf8 line → IsCharBoundary line at → (answer : Result (Term × ℕ) LexFault) → Says line at answer → EndsWell line answer
ends_well line at u b (Ok read) says = ends_at_a_character line at read.1 read.0 u b says
ends_well line at u b (Err fault) says = tt

-- where only some terms may stand
record TermFound (begins : ℕ → Bool) (expected : LexFault) (line : List ℕ) (at : ℕ) : Type 0 where
  answer : Result (Term × ℕ) LexFault
  says : TermSays begins expected line at answer
  ends : EndsWell line answer

term_total : (begins : ℕ → Bool) (expected : LexFault) (line : List ℕ) (at : ℕ) → IsUtf8 line → IsCharBoundary line at → TermFound begins expected line at
term_total begins expected line at u b = elim (cases_Bool (begins (get_or line at 0))) [
  | inl is ↦ let s = says_total line at u b in record { answer = s.0; says = term is s.1; ends = ends_well line at u b s.0 s.1 }
  | inr isnt ↦ record { answer = Err expected; says = other isnt; ends = tt }
]

end_total : (line : List ℕ) (at : ℕ) → IsUtf8 line → (answer : Option LexFault) × EndSays line at answer
end_total line at u = elim (cases_eq (get_or line at 0) 0x2E) [
  | inl dot ↦ elim (cases_lt at (length line)) [
    | inl inside ↦
        let gap = skipped line (at + 1) u (IsCharBoundary-after_ascii line at u inside (omega (arith, dot))) in
        elim (over_cases line gap.next) [
          | inl is ↦ (None, over gap.next dot gap.skips is)
          | inr isnt ↦ (Some TextAfterTheDot, text gap.next dot gap.skips isnt)
        ]
    | inr past ↦ absurd (omega (arith, dot, get_or_past line at 0 past))
  ]
  | inr other_byte ↦ (Some DotExpected, no_dot other_byte)
]

object_ends : (line : List ℕ) (s p : Term) (at : ℕ) (object : Term) (end dot : ℕ) → Reads line at object end → Skips line end dot → (fault : Option LexFault) → EndSays line dot fault
    → (answer : Result Triple LexFault) × FromObject line s p at answer
object_ends line s p at object end dot reads skips None says = (Ok (record { subject = s; predicate = p; object = object }), whole reads skips says)
object_ends line s p at object end dot reads skips (Some fault) says = (Err fault, no_end reads skips says)

object_goes : (line : List ℕ) (s p : Term) (at : ℕ) → IsUtf8 line → IsCharBoundary line at → (read : Result (Term × ℕ) LexFault) → Says line at read
    → (answer : Result Triple LexFault) × FromObject line s p at answer
object_goes line s p at u b (Ok read) says =
    let gap = skipped line read.1 u (ends_at_a_character line at read.1 read.0 u b says) in
    let end = end_total line gap.next u in
    object_ends line s p at read.0 read.1 gap.next says gap.skips end.0 end.1
object_goes line s p at u b (Err fault) says = (Err fault, no_object says)

from_object_total : (line : List ℕ) (s p : Term) (at : ℕ) → IsUtf8 line → IsCharBoundary line at → (answer : Result Triple LexFault) × FromObject line s p at answer
from_object_total line s p at u b = let read = says_total line at u b in object_goes line s p at u b read.0 read.1

predicate_goes : (line : List ℕ) (s : Term) (at : ℕ) → IsUtf8 line → (read : Result (Term × ℕ) LexFault) → PredicateSays line at read → EndsWell line read
    → (answer : Result Triple LexFault) × FromPredicate line s at answer
predicate_goes line s at u (Ok read) says ends =
    let gap = skipped line read.1 u ends in
    let more = from_object_total line s read.0 gap.next u gap.boundary in
    (more.0, predicate_reads says gap.skips more.1)
predicate_goes line s at u (Err fault) says ends = (Err fault, no_predicate says)

from_predicate_total : (line : List ℕ) (s : Term) (at : ℕ) → IsUtf8 line → IsCharBoundary line at → (answer : Result Triple LexFault) × FromPredicate line s at answer
from_predicate_total line s at u b = let read = term_total begins_predicate PredicateExpected line at u b in predicate_goes line s at u read.answer read.says read.ends

subject_goes : (line : List ℕ) (at : ℕ) → IsUtf8 line → (read : Result (Term × ℕ) LexFault) → SubjectSays line at read → EndsWell line read
    → (answer : Result Triple LexFault) × FromSubject line at answer
subject_goes line at u (Ok read) says ends =
    let gap = skipped line read.1 u ends in
    let more = from_predicate_total line read.0 gap.next u gap.boundary in
    (more.0, subject_reads says gap.skips more.1)
subject_goes line at u (Err fault) says ends = (Err fault, no_subject says)

from_subject_total : (line : List ℕ) (at : ℕ) → IsUtf8 line → IsCharBoundary line at → (answer : Result Triple LexFault) × FromSubject line at answer
from_subject_total line at u b = let read = term_total begins_subject SubjectExpected line at u b in subject_goes line at u read.answer read.says read.ends

line_goes : (line : List ℕ) (at : ℕ) → IsUtf8 line → Skips line 0 at → ¬ (IsOver line at) → (said : Result Triple LexFault) → FromSubject line at said
    → (answer : Result (Option Triple) LexFault) × LineSays line answer
line_goes line at u skips more (Ok said) from = (Ok (Some said), triple at u skips more from)
line_goes line at u skips more (Err fault) from = (Err fault, faulty at u skips more from)

text_total : (line : List ℕ) → IsUtf8 line → (answer : Result (Option Triple) LexFault) × LineSays line answer
text_total line u =
    let gap = skipped line 0 u (IsCharBoundary-start line u) in
    elim (over_cases line gap.next) [
      | inl is ↦ (Ok None, nothing gap.next u gap.skips is)
      | inr isnt ↦ let said = from_subject_total line gap.next u gap.boundary in line_goes line gap.next u gap.skips isnt said.0 said.1
    ]

-- each line says something
pub line_total : (line : List ℕ) → (answer : Result (Option Triple) LexFault) × LineSays line answer
line_total line = elim (cases_Bool (is_utf8 line)) [
  | inl is ↦ text_total line (IsUtf8-from_is_utf8 line is)
  | inr isnt ↦ (Err NotUtf8, no_text (λ u. true_false (sym (is_utf8-from_IsUtf8 line u) ∙ isnt)))
]

-- lines that are all good, or good up to one that is refused
record AllGood (most : ℕ) (content : List (List ℕ)) : Type 0 where
  triples : List Triple
  good : AreGood content triples
  few : length triples ≤ most

record OneStops (most : ℕ) (content : List (List ℕ)) : Type 0 where
  refusal : ReadRefusal
  stops : StopsIn most content refusal

abbrev Judged : ℕ → List (List ℕ) → Type 0
Judged most content = AllGood most content ⊎ OneStops most content

content_goes : (most : ℕ) (good : List (List ℕ)) (line : List ℕ) (more : List (List ℕ)) (triples : List Triple) → AreGood good triples → length triples ≤ most
    → (answer : Result (Option Triple) LexFault) → LineSays line answer → ((longer : List Triple) → AreGood (good ++ line ∷ []) longer → length longer ≤ most → Judged most ((good ++ line ∷ []) ++ more))
    → Judged most (good ++ line ∷ more)
content_goes most good line more triples before few (Ok None) says goes_on =
    subst (Judged most) (append_assoc good (line ∷ []) more) (goes_on (triples ++ []) (good_push good triples line None before says) (omega (arith, ap length (append-nil triples))))
content_goes most good line more triples before few (Ok (Some said)) says goes_on = elim (cases_lt (length triples) most) [
  | inl room ↦ subst (Judged most) (append_assoc good (line ∷ []) more) (goes_on (triples ++ said ∷ []) (good_push good triples line (Some said) before says) (omega (arith, length-append triples (said ∷ []))))
  | inr full ↦ inr (record {
    refusal = record { line = length good + 1; fault = TooManyTriples };
    stops = record { good = good; bad = line; more = more; triples = triples; here = refl; before = before; few = few; number = refl; refused = record { why = inr (said, says, full, refl) } };
  })
]
content_goes most good line more triples before few (Err fault) says goes_on = inr (record {
  refusal = record { line = length good + 1; fault = Lex fault };
  stops = record { good = good; bad = line; more = more; triples = triples; here = refl; before = before; few = few; number = refl; refused = record { why = inl (fault, says, refl) } };
})

content_total : (most : ℕ) (good content : List (List ℕ)) (triples : List Triple) → AreGood good triples → length triples ≤ most → Judged most (good ++ content)
content_total most good [] triples before few = inl (record { triples = triples; good = subst (λ (l : List (List ℕ)). AreGood l triples) (sym (append-nil good)) before; few = few })
content_total most good (line ∷ more) triples before few =
    let said = line_total line in
    content_goes most good line more triples before few said.0 said.1 (λ longer now room. content_total most (good ++ line ∷ []) more longer now room)

all_judged : (most : ℕ) (content : List (List ℕ)) → Judged most content
all_judged most content = content_total most [] content [] (record { answers = []; each = tt; have = refl }) (omega arith)

-- each file says something
pub file_total : (limits : Limits) (bytes : List ℕ) → (answer : Result (List Triple) ReadRefusal) × FileSays limits bytes answer
file_total limits bytes = elim (cases_lt limits.bytes (length bytes)) [
  | inl beyond ↦ elim (all_judged limits.triples (cut_of (take limits.bytes bytes)).ended) [
    | inl all ↦ (
      Err (record { line = line_of_next (take limits.bytes bytes) (slice_index bytes limits.bytes); fault = TooLong }),
      inr (record { triples = all.triples; longer = beyond; before = all.good; few = all.few; line = refl; fault = refl }),
    )
    | inr one ↦ (Err one.refusal, inl (subst (λ (l : List (List ℕ)). StopsIn limits.triples l one.refusal) (sym (beyond_judged limits.bytes bytes beyond)) one.stops))
  ]
  | inr within ↦ elim (all_judged limits.triples (lines bytes)) [
    | inl all ↦ (Ok all.triples, (within, all.good, all.few))
    | inr one ↦ (Err one.refusal, inl (subst (λ (l : List (List ℕ)). StopsIn limits.triples l one.refusal) (sym (within_judged limits.bytes bytes within)) one.stops))
  ]
]
