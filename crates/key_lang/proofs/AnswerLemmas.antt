-- Answers that are put together.
use Rattle.std.proofs.Common.{◌≡◌, ℕ, Bool, true, false, List, slice_range, Result, Ok, Err, refl, sym, ap, ◌∙◌, subst}
use Rattle.gk_base.specs.declared.term.Term.{Term}
use Rattle.gk_base.specs.declared.lex_fault.LexFault.{LexFault}
use Rattle.gk_base.specs.Answers.{LexStop, HasOne, IsSo}
use Rattle.gk_base.specs.declared.stop.Stop.TheVariants as lex
use Rattle.nt_lex.specs.Chars.{is_blank}
use Rattle.nt_lex.specs.Scans.{IsRunAt}
use Rattle.nt_reader.proofs.CallerLemmas.{run_once, true_false}
use Rattle.key_lang.specs.declared.fault.KeyFault.{KeyFault}
use Rattle.key_lang.specs.declared.fault.KeyFault.TheVariants.{UnknownStatement}
use Rattle.key_lang.specs.Answers.{LineStop, Is, Then, stops, goes_on, Where, yes, no, Lexed, reads, fails}
use Rattle.gk_base.specs.declared.stop.Stop.TheVariants.{NoMemory, Fault}
use Rattle.key_lang.specs.Faults.{fault_of_term}
use Rattle.key_lang.specs.Tokens.{Skipping, is_word_byte, WithWord, is_over, Closes}
use Rattle.key_lang.specs.Parts.{ClosesHere, in_key_file}

-- the first part stopped
pub then_stop : {A B : Type 0} (First : Result A KeyFault → Type 0) (After : A → Result B KeyFault → Type 0) (stop : LineStop)
    → IsSo First (Err stop) → IsSo (Then First After) (Err stop)
then_stop First After NoMemory so = tt
then_stop First After (Fault f) so = stops so

-- the first part gave a value
pub then_so : {A B : Type 0} (First : Result A KeyFault → Type 0) (After : A → Result B KeyFault → Type 0) (x : A) (r : Result B LineStop)
    → First (Ok x) → IsSo (After x) r → IsSo (Then First After) r
then_so First After x (Ok y) f so = goes_on f so
then_so First After x (Err NoMemory) f so = tt
then_so First After x (Err (Fault fault)) f so = goes_on f so

pub yes_so : {A : Type 0} (test : Bool) (Yes No : Result A KeyFault → Type 0) (r : Result A LineStop) → test ≡ true → IsSo Yes r → IsSo (Where test Yes No) r
yes_so test Yes No (Ok y) t so = yes t so
yes_so test Yes No (Err NoMemory) t so = tt
yes_so test Yes No (Err (Fault fault)) t so = yes t so

pub no_so : {A : Type 0} (test : Bool) (Yes No : Result A KeyFault → Type 0) (r : Result A LineStop) → test ≡ false → IsSo No r → IsSo (Where test Yes No) r
no_so test Yes No (Ok y) t so = no t so
no_so test Yes No (Err NoMemory) t so = tt
no_so test Yes No (Err (Fault fault)) t so = no t so

pub skip_so : {A : Type 0} (line : List ℕ) (at next : ℕ) (Says : ℕ → Result A KeyFault → Type 0) (r : Result A LineStop)
    → IsRunAt is_blank line at next → IsSo (Says next) r → IsSo (Skipping line at Says) r
skip_so line at next Says (Ok y) run so = record { next = next; skips = run; says = so }
skip_so line at next Says (Err NoMemory) run so = tt
skip_so line at next Says (Err (Fault fault)) run so = record { next = next; skips = run; says = so }

pub word_so : {A : Type 0} (line : List ℕ) (at end : ℕ) (Says : List ℕ → ℕ → Result A KeyFault → Type 0) (r : Result A LineStop)
    → IsRunAt is_word_byte line at end → IsSo (Says (slice_range line at end) end) r → IsSo (WithWord line at Says) r
word_so line at end Says (Ok y) run so = record { end = end; run = run; says = so }
word_so line at end Says (Err NoMemory) run so = tt
word_so line at end Says (Err (Fault fault)) run so = record { end = end; run = run; says = so }

-- nothing more stands there
pub close_so : {A : Type 0} (line : List ℕ) (at : ℕ) (Says : Result A KeyFault → Type 0) (r : Result A LineStop) (b : Bool)
    → ClosesHere line at b → b ≡ true → IsSo Says r → IsSo (Closes line at Says) r
close_so line at Says (Ok y) b c t so = record { next = c.next; skips = c.skips; says = yes (sym c.is ∙ t) so }
close_so line at Says (Err NoMemory) b c t so = tt
close_so line at Says (Err (Fault fault)) b c t so = record { next = c.next; skips = c.skips; says = yes (sym c.is ∙ t) so }

-- something more stands there
pub open_so : {A : Type 0} (line : List ℕ) (at : ℕ) (Says : Result A KeyFault → Type 0) (b : Bool)
    → ClosesHere line at b → b ≡ false → Closes line at Says (Err UnknownStatement)
open_so line at Says b c t = record { next = c.next; skips = c.skips; says = no (sym c.is ∙ t) refl }

pub lexed_so : (Says : Result (Term × ℕ) LexFault → Type 0) (r : Result (Term × ℕ) LexStop) (s : Result (Term × ℕ) LineStop) → s ≡ in_key_file r
    → IsSo Says r → IsSo (Lexed Says) s
lexed_so Says r s e so = subst (IsSo (Lexed Says)) (sym e) (given r so)
  where
    given : (r : Result (Term × ℕ) LexStop) → IsSo Says r → IsSo (Lexed Says) (in_key_file r)
    given (Ok x) so = reads so
    given (Err lex.NoMemory) so = tt
    given (Err (lex.Fault f)) so = fails so

-- one answer alone
pub is_once : {A F : Type 0} (computed : Result A F) → HasOne (Is computed)
is_once computed a b x y = x ∙ sym y

ok_same : {A F : Type 0} (x y : A) → Path (Result A F) (Ok x) (Ok y) → x ≡ y
ok_same x y e = cc

err_same : {A F : Type 0} (f g : F) → Path (Result A F) (Err f) (Err g) → f ≡ g
err_same f g e = cc

ok_err : {A F : Type 0} (x : A) (f : F) → Path (Result A F) (Ok x) (Err f) → ⊥
ok_err x f e = cc

pub then_once : {A B F : Type 0} (First : Result A F → Type 0) (After : A → Result B F → Type 0) → HasOne First → ((x : A) → HasOne (After x)) → HasOne (Then First After)
then_once {A} {B} {F} First After one each a b (stops {fault = f} x) (stops {fault = g} y) = ap (λ (e : F). let r : Result B F = Err e in r) (err_same f g (one (Err f) (Err g) x y))
then_once First After one each a b (stops {fault = f} x) (goes_on {x = v} y z) = absurd (ok_err v f (one (Ok v) (Err f) y x))
then_once First After one each a b (goes_on {x = v} y z) (stops {fault = f} x) = absurd (ok_err v f (one (Ok v) (Err f) y x))
then_once First After one each a b (goes_on {x = v} y z) (goes_on {x = w} y' z') =
    each w a b (subst (λ u. After u a) (ok_same v w (one (Ok v) (Ok w) y y')) z) z'

pub where_once : {A F : Type 0} (test : Bool) (Yes No : Result A F → Type 0) → HasOne Yes → HasOne No → HasOne (Where test Yes No)
where_once test Yes No p q a b (yes s x) (yes t y) = p a b x y
where_once test Yes No p q a b (yes s x) (no t y) = absurd (true_false (sym s ∙ t))
where_once test Yes No p q a b (no s x) (yes t y) = absurd (true_false (sym t ∙ s))
where_once test Yes No p q a b (no s x) (no t y) = q a b x y

pub skip_once : {A : Type 0} (line : List ℕ) (at : ℕ) (Says : ℕ → Result A KeyFault → Type 0) → ((n : ℕ) → HasOne (Says n)) → HasOne (Skipping line at Says)
skip_once line at Says each a b x y = each y.next a b (subst (λ n. Says n a) (run_once is_blank line at x.next y.next x.skips y.skips) x.says) y.says

pub word_once : {A : Type 0} (line : List ℕ) (at : ℕ) (Says : List ℕ → ℕ → Result A KeyFault → Type 0) → ((w : List ℕ) (n : ℕ) → HasOne (Says w n)) → HasOne (WithWord line at Says)
word_once line at Says each a b x y =
    each (slice_range line at y.end) y.end a b (subst (λ n. Says (slice_range line at n) n a) (run_once is_word_byte line at x.end y.end x.run y.run) x.says) y.says

pub close_once : {A : Type 0} (line : List ℕ) (at : ℕ) (Says : Result A KeyFault → Type 0) → HasOne Says → HasOne (Closes line at Says)
close_once line at Says one = skip_once line at _ (λ n. where_once (is_over line n) Says _ one (is_once _))

pub lexed_once : {A : Type 0} (Says : Result A LexFault → Type 0) → HasOne Says → HasOne (Lexed Says)
lexed_once {A} Says one a b (reads {x = v} x) (reads {x = w} y) = ap (λ (e : A). let r : Result A KeyFault = Ok e in r) (ok_same v w (one (Ok v) (Ok w) x y))
lexed_once Says one a b (reads {x = v} x) (fails {fault = f} y) = absurd (ok_err v f (one (Ok v) (Err f) x y))
lexed_once Says one a b (fails {fault = f} x) (reads {x = v} y) = absurd (ok_err v f (one (Ok v) (Err f) y x))
lexed_once {A} Says one a b (fails {fault = f} x) (fails {fault = g} y) = ap (λ (e : LexFault). let r : Result A KeyFault = Err (fault_of_term e) in r) (err_same f g (one (Err f) (Err g) x y))
