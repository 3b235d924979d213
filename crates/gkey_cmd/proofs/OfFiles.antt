-- Each triple of an accepted graph is as a file says it.
use Rattle.std.proofs.Common.{List, [], ◌∷◌, ◌++◌, ℕ, ◌+◌, true, false, Option, Some, None, IfSome, Result, Ok, IfOk, All, drop, get_or, slice_index, ◌≡◌, ◌∙◌, refl, sym, ap, subst, arith}
use Rattle.std.specs.List.{AllZip, filter_map}
use Rattle.std.proofs.lemmas.Bool.{true≢false}
use Rattle.std.proofs.lemmas.List.{get_or-drop}
use Rattle.std.proofs.lemmas.List.Elements.{All-nil, All-cons}
use Rattle.gk_base.specs.Term.{is_literal}
use Rattle.gk_base.specs.declared.limits.Limits.{Limits}
use Rattle.gk_base.specs.declared.lex_fault.LexFault.{LexFault}
use Rattle.gk_base.specs.declared.term.Term.{Term}
use Rattle.gk_base.specs.declared.term.Triple.{Triple}
use Rattle.nt_lex.specs.Spelling.{Spells, iri, blank, literal}
use Rattle.nt_reader.specs.Line.{begins_subject, begins_predicate, SubjectSays, PredicateSays, term, FromObject, no_object, no_end, whole, FromPredicate, no_predicate, predicate_reads, FromSubject, no_subject, subject_reads, LineSays, no_text, nothing, triple, faulty}
use Rattle.nt_reader.specs.File.{IsGood, FileSays}
use Rattle.merge_graph.specs.Saying.{is_iri}
use Rattle.gkey_cmd.specs.ChaseEnds.{IsOfFile}

-- ---- with which byte a term begins

byte_at : (line : List ℕ) (at b : ℕ) (more : List ℕ) → drop at line ≡ b ∷ more → get_or line at 0 ≡ b
byte_at line at b more here = let place : at ≡ at + 0 = omega arith in ap (λ n. get_or line n 0) place ∙ sym (get_or-drop at line 0 0) ∙ ap (λ (l : List ℕ). get_or l 0 0) here

-- what begins as a subject does is no literal
no_literal : (line : List ℕ) (at : ℕ) (piece rest : List ℕ) (t : Term) → Spells piece t → drop at line ≡ piece ++ rest → begins_subject (slice_index line at) ≡ true → is_literal t ≡ false
no_literal line at piece rest t (iri spells) here begins = refl
no_literal line at piece rest t (blank spells) here begins = refl
no_literal line at piece rest t (literal {suffix = suffix} string after all) here begins =
    absurd (true≢false (sym begins ∙ ap begins_subject (byte_at line at 0x22 _ (here ∙ ap (λ (p : List ℕ). p ++ rest) (all ∙ ap (λ (q : List ℕ). q ++ suffix) string.whole)))))

-- what begins as a predicate does is an IRI
an_iri : (line : List ℕ) (at : ℕ) (piece rest : List ℕ) (t : Term) → Spells piece t → drop at line ≡ piece ++ rest → begins_predicate (slice_index line at) ≡ true → is_iri t ≡ true
an_iri line at piece rest t (iri spells) here begins = refl
an_iri line at piece rest t (blank spells) here begins =
    absurd (true≢false (sym begins ∙ ap begins_predicate (byte_at line at 0x5F _ (here ∙ ap (λ (p : List ℕ). p ++ rest) spells.whole))))
an_iri line at piece rest t (literal {suffix = suffix} string after all) here begins =
    absurd (true≢false (sym begins ∙ ap begins_predicate (byte_at line at 0x22 _ (here ∙ ap (λ (p : List ℕ). p ++ rest) (all ∙ ap (λ (q : List ℕ). q ++ suffix) string.whole)))))

subject_of : (line : List ℕ) (at : ℕ) (subject : Term) (end : ℕ) → SubjectSays line at (Ok (subject, end)) → is_literal subject ≡ false
subject_of line at subject end (term begins reads) = no_literal line at reads.piece reads.rest subject reads.spells reads.here begins

predicate_of : (line : List ℕ) (at : ℕ) (predicate : Term) (end : ℕ) → PredicateSays line at (Ok (predicate, end)) → is_iri predicate ≡ true
predicate_of line at predicate end (term begins reads) = an_iri line at reads.piece reads.rest predicate reads.spells reads.here begins

-- ---- a line

from_object : (line : List ℕ) (subject predicate : Term) (at : ℕ) (answer : Result Triple LexFault) → is_literal subject ≡ false → is_iri predicate ≡ true →
    FromObject line subject predicate at answer → IfOk answer IsOfFile
from_object line subject predicate at answer s p (no_object fails) = tt
from_object line subject predicate at answer s p (no_end reads skips end) = tt
from_object line subject predicate at answer s p (whole reads skips end) = record { subject = s; predicate = p }

from_predicate : (line : List ℕ) (subject : Term) (at : ℕ) (answer : Result Triple LexFault) → is_literal subject ≡ false → FromPredicate line subject at answer → IfOk answer IsOfFile
from_predicate line subject at answer s (no_predicate says) = tt
from_predicate line subject at answer s (predicate_reads {predicate = predicate} {end = end} {next = next} says skips from) =
    from_object line subject predicate next answer s (predicate_of line at predicate end says) from

from_subject : (line : List ℕ) (at : ℕ) (answer : Result Triple LexFault) → FromSubject line at answer → IfOk answer IsOfFile
from_subject line at answer (no_subject says) = tt
from_subject line at answer (subject_reads {subject = subject} {end = end} {next = next} says skips from) =
    from_predicate line subject next answer (subject_of line at subject end says) from

line_of_file : (line : List ℕ) (answer : Result (Option Triple) LexFault) → LineSays line answer → IfOk answer (λ o. IfSome o IsOfFile)
line_of_file line answer (no_text none) = tt
line_of_file line answer (nothing at u skips over) = tt
line_of_file line answer (triple at {said = said} u skips more from) = from_subject line at (Ok said) from
line_of_file line answer (faulty at u skips more from) = tt

-- ---- a file

lines_of_file : (content : List (List ℕ)) (answers : List (Option Triple)) → AllZip IsGood content answers → All IsOfFile (filter_map (λ answer. answer) answers)
lines_of_file [] [] h = All-nil IsOfFile
lines_of_file [] (answer ∷ answers) h = absurd h
lines_of_file (line ∷ content) [] h = absurd h
lines_of_file (line ∷ content) (None ∷ answers) h = lines_of_file content answers h.1
lines_of_file (line ∷ content) (Some t ∷ answers) h =
    All-cons IsOfFile t (filter_map (λ answer. answer) answers) (line_of_file line (Ok (Some t)) h.0) (lines_of_file content answers h.1)

pub triples_of_file : (limits : Limits) (bytes : List ℕ) (triples : List Triple) → FileSays limits bytes (Ok triples) → All IsOfFile triples
triples_of_file limits bytes triples h = subst (All IsOfFile) (sym h.1.have) (lines_of_file _ h.1.answers h.1.each)
