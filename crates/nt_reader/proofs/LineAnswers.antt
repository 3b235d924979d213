-- The answers of the functions that read a line are what it says.
use Rattle.std.proofs.Common.{◌≡◌, ℕ, Bool, true, List, get_or, Result, Ok, Err, IsUtf8}
use Rattle.gk_base.specs.declared.term.Term.{Term}
use Rattle.gk_base.specs.declared.term.Triple.{Triple}
use Rattle.gk_base.specs.declared.lex_fault.LexFault.{LexFault}
use Rattle.gk_base.specs.Answers.{LexStop, IsSo}
use Rattle.gk_base.specs.declared.stop.Stop.TheVariants.{NoMemory, Fault}
use Rattle.nt_lex.specs.Reading.{Says}
use Rattle.nt_reader.specs.Line.{Skips, IsOver, SubjectSays, PredicateSays, TermSays, term, FromObject, no_object, FromPredicate, no_predicate, predicate_reads, FromSubject, no_subject, subject_reads, LineSays, faulty}

-- a term that may stand there
pub may_so : (begins : ℕ → Bool) (expected : LexFault) (line : List ℕ) (at : ℕ) → begins (get_or line at 0) ≡ true → (r : Result (Term × ℕ) LexStop)
    → IsSo (Says line at) r → IsSo (TermSays begins expected line at) r
may_so begins expected line at p (Ok x) so = term p so
may_so begins expected line at p (Err NoMemory) so = tt
may_so begins expected line at p (Err (Fault f)) so = term p so

pub object_stop : (line : List ℕ) (s p : Term) (at : ℕ) (stop : LexStop) → IsSo (Says line at) (Err stop) → IsSo (FromObject line s p at) (Err stop)
object_stop line s p at NoMemory so = tt
object_stop line s p at (Fault f) so = no_object so

pub predicate_stop : (line : List ℕ) (s : Term) (at : ℕ) (stop : LexStop) → IsSo (PredicateSays line at) (Err stop) → IsSo (FromPredicate line s at) (Err stop)
predicate_stop line s at NoMemory so = tt
predicate_stop line s at (Fault f) so = no_predicate so

pub predicate_so : (line : List ℕ) (s p : Term) (at end next : ℕ) → PredicateSays line at (Ok (p, end)) → Skips line end next → (r : Result Triple LexStop)
    → IsSo (FromObject line s p next) r → IsSo (FromPredicate line s at) r
predicate_so line s p at end next x k (Ok t) so = predicate_reads x k so
predicate_so line s p at end next x k (Err NoMemory) so = tt
predicate_so line s p at end next x k (Err (Fault f)) so = predicate_reads x k so

pub subject_stop : (line : List ℕ) (at : ℕ) (stop : LexStop) → IsSo (SubjectSays line at) (Err stop) → IsSo (FromSubject line at) (Err stop)
subject_stop line at NoMemory so = tt
subject_stop line at (Fault f) so = no_subject so

pub subject_so : (line : List ℕ) (s : Term) (at end next : ℕ) → SubjectSays line at (Ok (s, end)) → Skips line end next → (r : Result Triple LexStop)
    → IsSo (FromPredicate line s next) r → IsSo (FromSubject line at) r
subject_so line s at end next x k (Ok t) so = subject_reads x k so
subject_so line s at end next x k (Err NoMemory) so = tt
subject_so line s at end next x k (Err (Fault f)) so = subject_reads x k so

pub line_stop : (line : List ℕ) (at : ℕ) (stop : LexStop) → IsUtf8 line → Skips line 0 at → ¬ (IsOver line at) → IsSo (FromSubject line at) (Err stop) → IsSo (LineSays line) (Err stop)
line_stop line at NoMemory u k o so = tt
line_stop line at (Fault f) u k o so = faulty at u k o so
