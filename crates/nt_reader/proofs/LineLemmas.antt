-- A line says one thing.
use Rattle.std.proofs.Common.{◌≡◌, ℕ, ◌+◌, Bool, true, false, List, Option, Some, None, Result, Ok, Err, refl, sym, ap, ◌∙◌, subst, inl, inr, arith}
use Rattle.std.proofs.lemmas.Bool.{cases_order}
use Rattle.gk_base.specs.declared.term.Term.{Term}
use Rattle.gk_base.specs.declared.term.Triple.{Triple}
use Rattle.gk_base.specs.declared.lex_fault.LexFault.{LexFault}
use Rattle.gk_base.specs.declared.lex_fault.LexFault.TheVariants.{SubjectExpected, PredicateExpected}
use Rattle.nt_lex.specs.Chars.{is_blank}
use Rattle.gk_base.specs.Answers.{HasOne}
use Rattle.nt_lex.specs.Scans.{IsRunAt}
use Rattle.nt_lex.specs.Reading.{Reads, Fails}
use Rattle.nt_lex.proofs.CallerLemmas.{says_once}
use Rattle.nt_reader.specs.Line.{Skips, IsOver, begins_subject, begins_predicate, TermSays, term, other, EndSays, no_dot, text, over, FromObject, no_object, no_end, whole, FromPredicate, no_predicate, predicate_reads, FromSubject, no_subject, subject_reads, LineSays, no_text, nothing, triple, faulty}

pub true_false : true ≡ false → ⊥
true_false e = cc

-- there is one longest run
pub run_once : (p : ℕ → Bool) (bytes : List ℕ) (at m n : ℕ) → IsRunAt p bytes at m → IsRunAt p bytes at n → m ≡ n
run_once p bytes at m n x y = elim (cases_order m n) [
  | inl e ↦ e
  | inr (inl less) ↦ absurd (true_false (sym (y.pass m x.ordered less) ∙ x.stops (omega (arith, y.in_range))))
  | inr (inr more) ↦ absurd (true_false (sym (x.pass n y.ordered more) ∙ y.stops (omega (arith, x.in_range))))
]

ok_same : {A : Type 0} (x y : A) → Path (Result A LexFault) (Ok x) (Ok y) → x ≡ y
ok_same x y e = cc

err_same : {A : Type 0} (f g : LexFault) → Path (Result A LexFault) (Err f) (Err g) → f ≡ g
err_same f g e = cc

ok_err : {A : Type 0} (x : A) (f : LexFault) → Path (Result A LexFault) (Ok x) (Err f) → ⊥
ok_err x f e = cc

-- a term that may stand at the place, or the fault
pub term_once : (begins : ℕ → Bool) (expected : LexFault) (l : List ℕ) (at : ℕ) → HasOne (TermSays begins expected l at)
term_once begins expected l at x y (term p s) (term q r) = says_once l at x y s r
term_once begins expected l at x y (term p s) (other q) = absurd (true_false (sym p ∙ q))
term_once begins expected l at x y (other p) (term q r) = absurd (true_false (sym q ∙ p))
term_once begins expected l at x y (other p) (other q) = refl

end_once : (l : List ℕ) (at : ℕ) (x y : Option LexFault) → EndSays l at x → EndSays l at y → x ≡ y
end_once l at x y (no_dot n) (no_dot m) = refl
end_once l at x y (no_dot n) (text next d k o) = absurd (n d)
end_once l at x y (no_dot n) (over next d k o) = absurd (n d)
end_once l at x y (text next d k o) (no_dot m) = absurd (m d)
end_once l at x y (text next d k o) (text next' d' k' o') = refl
end_once l at x y (text next d k o) (over next' d' k' o') = absurd (o (subst (IsOver l) (run_once is_blank l (at + 1) next' next k' k) o'))
end_once l at x y (over next d k o) (no_dot m) = absurd (m d)
end_once l at x y (over next d k o) (text next' d' k' o') = absurd (o' (subst (IsOver l) (run_once is_blank l (at + 1) next next' k k') o))
end_once l at x y (over next d k o) (over next' d' k' o') = refl

some_same : (f g : LexFault) → Path (Option LexFault) (Some f) (Some g) → f ≡ g
some_same f g e = cc

some_none : (f : LexFault) → Path (Option LexFault) (Some f) None → ⊥
some_none f e = cc

-- two readings of an object, and the places after them
object_same : (l : List ℕ) (at : ℕ) (o o' : Term) (e e' d d' : ℕ) → Reads l at o e → Skips l e d → Reads l at o' e' → Skips l e' d' → (o ≡ o') × (d ≡ d')
object_same l at o o' e e' d d' x k x' k' =
    let same = ok_same (o, e) (o', e') (says_once l at (Ok (o, e)) (Ok (o', e')) x x') in
    (ap (λ p. p.0) same, run_once is_blank l e' d d' (subst (λ n. Skips l n d) (ap (λ p. p.1) same) k) k')

object_fails : (l : List ℕ) (at : ℕ) (o : Term) (e : ℕ) (f : LexFault) → Reads l at o e → Fails l at f → ⊥
object_fails l at o e f x y = ok_err (o, e) f (says_once l at (Ok (o, e)) (Err f) x y)

ends_same : (l : List ℕ) (d d' : ℕ) (x y : Option LexFault) → d ≡ d' → EndSays l d x → EndSays l d' y → x ≡ y
ends_same l d d' x y e s t = end_once l d' x y (subst (λ n. EndSays l n x) e s) t

pub from_object_once : (l : List ℕ) (s p : Term) (at : ℕ) → HasOne (FromObject l s p at)
from_object_once l s p at x y (no_object {fault} f) (no_object {fault = fault'} g) = ap Err (err_same fault fault' (says_once l at (Err fault) (Err fault') f g))
from_object_once l s p at x y (no_object {fault} f) (no_end {object} {end} r k e) = absurd (object_fails l at object end fault r f)
from_object_once l s p at x y (no_object {fault} f) (whole {object} {end} r k e) = absurd (object_fails l at object end fault r f)
from_object_once l s p at x y (no_end {object} {end} r k e) (no_object {fault} f) = absurd (object_fails l at object end fault r f)
from_object_once l s p at x y (no_end {object} {end} {dot} {fault} r k e) (no_end {object = object'} {end = end'} {dot = dot'} {fault = fault'} r' k' e') =
    ap Err (some_same fault fault' (ends_same l dot dot' (Some fault) (Some fault') (object_same l at object object' end end' dot dot' r k r' k').1 e e'))
from_object_once l s p at x y (no_end {object} {end} {dot} {fault} r k e) (whole {object = object'} {end = end'} {dot = dot'} r' k' e') =
    absurd (some_none fault (ends_same l dot dot' (Some fault) None (object_same l at object object' end end' dot dot' r k r' k').1 e e'))
from_object_once l s p at x y (whole {object} {end} r k e) (no_object {fault} f) = absurd (object_fails l at object end fault r f)
from_object_once l s p at x y (whole {object} {end} {dot} r k e) (no_end {object = object'} {end = end'} {dot = dot'} {fault = fault'} r' k' e') =
    absurd (some_none fault' (sym (ends_same l dot dot' None (Some fault') (object_same l at object object' end end' dot dot' r k r' k').1 e e')))
from_object_once l s p at x y (whole {object} {end} {dot} r k e) (whole {object = object'} {end = end'} {dot = dot'} r' k' e') =
    ap (λ o. Ok (record { subject = s; predicate = p; object = o })) (object_same l at object object' end end' dot dot' r k r' k').0

-- two readings of a term that may stand there, and the places after them
may_same : (begins : ℕ → Bool) (expected : LexFault) (l : List ℕ) (at : ℕ) (o o' : Term) (e e' d d' : ℕ) → TermSays begins expected l at (Ok (o, e)) → Skips l e d
    → TermSays begins expected l at (Ok (o', e')) → Skips l e' d' → (o ≡ o') × (d ≡ d')
may_same begins expected l at o o' e e' d d' x k x' k' =
    let same = ok_same (o, e) (o', e') (term_once begins expected l at (Ok (o, e)) (Ok (o', e')) x x') in
    (ap (λ p. p.0) same, run_once is_blank l e' d d' (subst (λ n. Skips l n d) (ap (λ p. p.1) same) k) k')

may_fail : (begins : ℕ → Bool) (expected : LexFault) (l : List ℕ) (at : ℕ) (o : Term) (e : ℕ) (f : LexFault) → TermSays begins expected l at (Ok (o, e))
    → TermSays begins expected l at (Err f) → ⊥
may_fail begins expected l at o e f x y = ok_err (o, e) f (term_once begins expected l at (Ok (o, e)) (Err f) x y)

from_object_at : (l : List ℕ) (s p p' : Term) (at at' : ℕ) (x y : Result Triple LexFault) → p ≡ p' → at ≡ at' → FromObject l s p at x → FromObject l s p' at' y → x ≡ y
from_object_at l s p p' at at' x y e n a b = from_object_once l s p' at' x y (subst (λ q. FromObject l s q at' x) e (subst (λ m. FromObject l s p m x) n a)) b

pub from_predicate_once : (l : List ℕ) (s : Term) (at : ℕ) → HasOne (FromPredicate l s at)
from_predicate_once l s at x y (no_predicate {fault} f) (no_predicate {fault = fault'} g) =
    ap Err (err_same fault fault' (term_once begins_predicate PredicateExpected l at (Err fault) (Err fault') f g))
from_predicate_once l s at x y (no_predicate {fault} f) (predicate_reads {predicate} {end} r k o) = absurd (may_fail begins_predicate PredicateExpected l at predicate end fault r f)
from_predicate_once l s at x y (predicate_reads {predicate} {end} r k o) (no_predicate {fault} f) = absurd (may_fail begins_predicate PredicateExpected l at predicate end fault r f)
from_predicate_once l s at x y (predicate_reads {predicate} {end} {next} r k o) (predicate_reads {predicate = predicate'} {end = end'} {next = next'} r' k' o') =
    let same = may_same begins_predicate PredicateExpected l at predicate predicate' end end' next next' r k r' k' in
    from_object_at l s predicate predicate' next next' x y same.0 same.1 o o'

from_predicate_at : (l : List ℕ) (s s' : Term) (at at' : ℕ) (x y : Result Triple LexFault) → s ≡ s' → at ≡ at' → FromPredicate l s at x → FromPredicate l s' at' y → x ≡ y
from_predicate_at l s s' at at' x y e n a b = from_predicate_once l s' at' x y (subst (λ q. FromPredicate l q at' x) e (subst (λ m. FromPredicate l s m x) n a)) b

pub from_subject_once : (l : List ℕ) (at : ℕ) → HasOne (FromSubject l at)
from_subject_once l at x y (no_subject {fault} f) (no_subject {fault = fault'} g) =
    ap Err (err_same fault fault' (term_once begins_subject SubjectExpected l at (Err fault) (Err fault') f g))
from_subject_once l at x y (no_subject {fault} f) (subject_reads {subject} {end} r k o) = absurd (may_fail begins_subject SubjectExpected l at subject end fault r f)
from_subject_once l at x y (subject_reads {subject} {end} r k o) (no_subject {fault} f) = absurd (may_fail begins_subject SubjectExpected l at subject end fault r f)
from_subject_once l at x y (subject_reads {subject} {end} {next} r k o) (subject_reads {subject = subject'} {end = end'} {next = next'} r' k' o') =
    let same = may_same begins_subject SubjectExpected l at subject subject' end end' next next' r k r' k' in
    from_predicate_at l subject subject' next next' x y same.0 same.1 o o'

starts_same : (l : List ℕ) (at at' : ℕ) (x y : Result Triple LexFault) → Skips l 0 at → Skips l 0 at' → FromSubject l at x → FromSubject l at' y → x ≡ y
starts_same l at at' x y k k' a b = from_subject_once l at' x y (subst (λ n. FromSubject l n x) (run_once is_blank l 0 at at' k k') a) b

over_same : (l : List ℕ) (at at' : ℕ) → Skips l 0 at → Skips l 0 at' → IsOver l at → ¬ (IsOver l at') → ⊥
over_same l at at' k k' o n = n (subst (IsOver l) (run_once is_blank l 0 at at' k k') o)

-- a line says one thing
pub line_once : (l : List ℕ) → HasOne (LineSays l)
line_once l x y (no_text n) (no_text m) = refl
line_once l x y (no_text n) (nothing at u k o) = absurd (n u)
line_once l x y (no_text n) (triple at u k o s) = absurd (n u)
line_once l x y (no_text n) (faulty at u k o s) = absurd (n u)
line_once l x y (nothing at u k o) (no_text m) = absurd (m u)
line_once l x y (nothing at u k o) (nothing at' u' k' o') = refl
line_once l x y (nothing at u k o) (triple at' u' k' o' s) = absurd (over_same l at at' k k' o o')
line_once l x y (nothing at u k o) (faulty at' u' k' o' s) = absurd (over_same l at at' k k' o o')
line_once l x y (triple at u k o s) (no_text m) = absurd (m u)
line_once l x y (triple at u k o s) (nothing at' u' k' o') = absurd (over_same l at' at k' k o' o)
line_once l x y (triple at {said} u k o s) (triple at' {said = said'} u' k' o' s') =
    ap (λ t. Ok (Some t)) (ok_same said said' (starts_same l at at' (Ok said) (Ok said') k k' s s'))
line_once l x y (triple at {said} u k o s) (faulty at' {fault} u' k' o' s') = absurd (ok_err said fault (starts_same l at at' (Ok said) (Err fault) k k' s s'))
line_once l x y (faulty at u k o s) (no_text m) = absurd (m u)
line_once l x y (faulty at u k o s) (nothing at' u' k' o') = absurd (over_same l at' at k' k o' o)
line_once l x y (faulty at {fault} u k o s) (triple at' {said} u' k' o' s') = absurd (ok_err said fault (sym (starts_same l at at' (Err fault) (Ok said) k k' s s')))
line_once l x y (faulty at {fault} u k o s) (faulty at' {fault = fault'} u' k' o' s') = ap Err (err_same fault fault' (starts_same l at at' (Err fault) (Err fault') k k' s s'))
