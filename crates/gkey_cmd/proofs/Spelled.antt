-- The names of an accepted graph and accepted keys can be spelled.
use Rattle.std.proofs.Common.{List, [], ◌∷◌, ◌++◌, ℕ, Bool, true, false, Option, Some, None, IfSome, Result, Ok, Err, IfOk, All, map, if◌then◌else◌, ◌≡◌, sym, subst}
use Rattle.std.specs.List.{AllZip, filter_map}
use Rattle.std.proofs.lemmas.List.Elements.{All-nil, All-cons, All-append, All-head, All-tail}
use Rattle.gk_base.specs.declared.limits.Limits.{Limits}
use Rattle.gk_base.specs.declared.lex_fault.LexFault.{LexFault}
use Rattle.gk_base.specs.declared.term.Term.{Term}
use Rattle.gk_base.specs.declared.term.Triple.{Triple}
use Rattle.term_list.specs.Triples.{triple_terms, terms_of}
use Rattle.term_table.specs.Numbering.{is_named, with_term, with_terms}
use Rattle.term_text.specs.ReadBack.{CanBeSpelled}
use Rattle.nt_lex.specs.Reading.{Says}
use Rattle.nt_reader.specs.Line.{TermSays, term, other, FromObject, no_object, no_end, whole, FromPredicate, no_predicate, predicate_reads, FromSubject, no_subject, subject_reads, LineSays, no_text, nothing, triple, faulty}
use Rattle.nt_reader.specs.File.{IsGood, FileSays}
use Rattle.nt_reader.proofs.CallerLemmas.{AllOf}
use Rattle.key_file.specs.KeyShape.{KeyShape}
use Rattle.key_file.specs.Name.{is_name}
use Rattle.key_file.specs.Compile.{key_terms}
use Rattle.key_file.specs.Numbered.{names_for}
use Rattle.key_lang.specs.KeyText.{KeysSay}
use Rattle.key_lang.proofs.CallerLemmas.{keys_named, keys_spelled}

-- ---- a graph

-- each term of a triple can be spelled
abbrev IsSpelledTriple : Triple → Type 0
IsSpelledTriple t = CanBeSpelled t.subject × CanBeSpelled t.predicate × CanBeSpelled t.object

said_spelled : (line : List ℕ) (at : ℕ) (answer : Result (Term × ℕ) LexFault) → Says line at answer → IfOk answer (λ r. CanBeSpelled r.0)
said_spelled line at (Ok read) h = record { piece = h.piece; spells = h.spells }
said_spelled line at (Err fault) h = tt

term_spelled : (begins : ℕ → Bool) (expected : LexFault) (line : List ℕ) (at : ℕ) (answer : Result (Term × ℕ) LexFault) → TermSays begins expected line at answer → IfOk answer (λ r. CanBeSpelled r.0)
term_spelled begins expected line at answer (term b says) = said_spelled line at answer says
term_spelled begins expected line at answer (other b) = tt

from_object : (line : List ℕ) (subject predicate : Term) (at : ℕ) (answer : Result Triple LexFault) → CanBeSpelled subject → CanBeSpelled predicate →
    FromObject line subject predicate at answer → IfOk answer IsSpelledTriple
from_object line subject predicate at answer s p (no_object fails) = tt
from_object line subject predicate at answer s p (no_end reads skips end) = tt
from_object line subject predicate at answer s p (whole reads skips end) = (s, p, record { piece = reads.piece; spells = reads.spells })

from_predicate : (line : List ℕ) (subject : Term) (at : ℕ) (answer : Result Triple LexFault) → CanBeSpelled subject → FromPredicate line subject at answer → IfOk answer IsSpelledTriple
from_predicate line subject at answer s (no_predicate says) = tt
from_predicate line subject at answer s (predicate_reads {predicate = predicate} {end = end} {next = next} says skips from) =
    from_object line subject predicate next answer s (term_spelled _ _ line at (Ok (predicate, end)) says) from

from_subject : (line : List ℕ) (at : ℕ) (answer : Result Triple LexFault) → FromSubject line at answer → IfOk answer IsSpelledTriple
from_subject line at answer (no_subject says) = tt
from_subject line at answer (subject_reads {subject = subject} {end = end} {next = next} says skips from) =
    from_predicate line subject next answer (term_spelled _ _ line at (Ok (subject, end)) says) from

line_spelled : (line : List ℕ) (answer : Result (Option Triple) LexFault) → LineSays line answer → IfOk answer (λ o. IfSome o IsSpelledTriple)
line_spelled line answer (no_text none) = tt
line_spelled line answer (nothing at u skips over) = tt
line_spelled line answer (triple at {said = said} u skips more from) = from_subject line at (Ok said) from
line_spelled line answer (faulty at u skips more from) = tt

triple_spelled : (t : Triple) (rest : List Term) → IsSpelledTriple t → All CanBeSpelled rest → All CanBeSpelled (triple_terms t ++ rest)
triple_spelled t rest s h = All-append CanBeSpelled (triple_terms t) rest
    (All-cons CanBeSpelled t.subject (t.predicate ∷ t.object ∷ []) s.0 (All-cons CanBeSpelled t.predicate (t.object ∷ []) s.1 (All-cons CanBeSpelled t.object [] s.2 (All-nil CanBeSpelled)))) h

lines_spelled : (content : List (List ℕ)) (answers : List (Option Triple)) → AllZip IsGood content answers → All CanBeSpelled (terms_of (filter_map (λ answer. answer) answers))
lines_spelled [] [] h = All-nil CanBeSpelled
lines_spelled [] (answer ∷ answers) h = absurd h
lines_spelled (line ∷ content) [] h = absurd h
lines_spelled (line ∷ content) (None ∷ answers) h = lines_spelled content answers h.1
lines_spelled (line ∷ content) (Some t ∷ answers) h =
    triple_spelled t (terms_of (filter_map (λ answer. answer) answers)) (line_spelled line (Ok (Some t)) h.0) (lines_spelled content answers h.1)

graph_spelled : (limits : Limits) (bytes : List ℕ) (triples : List Triple) → FileSays limits bytes (Ok triples) → All CanBeSpelled (terms_of triples)
graph_spelled limits bytes triples h = subst (λ ts. All CanBeSpelled (terms_of ts)) (sym h.1.have) (lines_spelled _ h.1.answers h.1.each)

-- ---- names

named_spelled : (names : List Term) (t : Term) → All CanBeSpelled names → CanBeSpelled t → All CanBeSpelled (with_term names t)
named_spelled names t all s = by_test (is_named names t)
  where
    by_test : (b : Bool) → All CanBeSpelled (if b then names else names ++ t ∷ [])
    by_test true = all
    by_test false = All-append CanBeSpelled names (t ∷ []) all (All-cons CanBeSpelled t [] s (All-nil CanBeSpelled))

added_spelled : (names terms : List Term) → All CanBeSpelled names → AllOf CanBeSpelled terms → All CanBeSpelled (with_terms names terms)
added_spelled names [] all h = all
added_spelled names (t ∷ terms) all h = added_spelled (with_term names t) terms (named_spelled names t all h.0) h.1

-- one form of 'all' from the other
each_of : (terms : List Term) → All CanBeSpelled terms → AllOf CanBeSpelled terms
each_of [] h = tt
each_of (t ∷ terms) h = (All-head CanBeSpelled t terms h, each_of terms (All-tail CanBeSpelled t terms h))

both_of : (terms more : List Term) → AllOf CanBeSpelled terms → AllOf CanBeSpelled more → AllOf CanBeSpelled (terms ++ more)
both_of [] more h k = k
both_of (t ∷ terms) more h k = (h.0, both_of terms more h.1 k)

pub names_spelled : (limits : Limits) (key_limit : ℕ) (graph key_bytes : List ℕ) (triples : List Triple) (keys : List KeyShape) → FileSays limits graph (Ok triples) → KeysSay key_limit key_bytes (Ok keys) →
    All CanBeSpelled (names_for triples keys)
names_spelled limits key_limit graph key_bytes triples keys g k =
    added_spelled [] (terms_of triples ++ key_terms keys) (All-nil CanBeSpelled)
    (both_of (terms_of triples) (key_terms keys) (each_of (terms_of triples) (graph_spelled limits graph triples g)) (keys_spelled key_limit key_bytes keys k))

-- the keys have names
pub names_good : (key_limit : ℕ) (key_bytes : List ℕ) (keys : List KeyShape) → KeysSay key_limit key_bytes (Ok keys) → All (λ name. is_name name ≡ true) (map (λ (k : KeyShape). k.name) keys)
names_good key_limit key_bytes keys says = go keys (keys_named key_limit key_bytes keys says)
  where
    go : (ks : List KeyShape) → AllOf (λ (k : KeyShape). is_name k.name ≡ true) ks → All (λ name. is_name name ≡ true) (map (λ (k : KeyShape). k.name) ks)
    go [] h = All-nil (λ name. is_name name ≡ true)
    go (k ∷ ks) h = All-cons (λ name. is_name name ≡ true) k.name (map (λ (q : KeyShape). q.name) ks) h.0 (go ks h.1)
