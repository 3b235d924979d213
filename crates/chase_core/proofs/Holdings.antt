-- A ticket stays good while the journal goes on.
use Rattle.std.proofs.Common.{List, [], ◌∷◌, ◌++◌, ℕ, ◌≡◌, sym, ◌∙◌, ap, subst, append-nil}
use Rattle.std.proofs.lemmas.List.{map-append}
use Rattle.chase_laws.specs.declared.entry.Entry.{Entry}
use Rattle.chase_laws.specs.Joined.{links}
use Rattle.chase_laws.specs.Core.{Task, State}
use Rattle.chase_laws.specs.View.{same_by}
use Rattle.chase_laws.proofs.CallerLemmas.{Within, Within-append, found_step}
use Rattle.class_book.specs.Classes.{Classes}
use Rattle.chase_core.specs.declared.ticket.Ticket.{Ticket}
use Rattle.chase_core.specs.declared.ticket.Outcome.{Outcome}
use Rattle.chase_core.specs.declared.ticket.Outcome.TheVariants as outcome
use Rattle.chase_core.specs.declared.ticket.Settled.{Settled}
use Rattle.chase_core.specs.declared.ticket.Settled.TheVariants as settled
use Rattle.chase_core.specs.Running.{Running}
use Rattle.chase_core.specs.Holding.{IsHeld}
use Rattle.chase_core.specs.Settling.{entry_of, IsFoundBy, IsRightOutcome, Settles}

-- entries join all that the first of them join
within_more : (seen more : List Entry) → Within (links seen) (links (seen ++ more))
within_more seen more = subst (Within (links seen)) (sym (map-append (λ (e : Entry). (e.a, e.b)) seen more)) (Within-append (links seen) (links more))

pub held_longer : (T : Task) (seen more : List Entry) (t : Ticket) (view : List (ℕ × ℕ)) → IsHeld T seen t view → IsHeld T (seen ++ more) t view
held_longer T seen more t view h = record { ends = h.ends; near = h.near; joined = λ m n s. within_more seen more m n (h.joined m n s) }

pub held_right : (T : Task) (S : State) (t : Ticket) (view : List (ℕ × ℕ)) (found : Outcome) → IsHeld T S.journal t view → IsFoundBy T t view found → IsRightOutcome T S t view found
held_right T S t view (outcome.Found f) h found = found_step T.graph T.patterns S.journal (entry_of t f) found.0 (same_by view) found.1 found.2 h.joined
held_right T S t view outcome.Missed h found = found

-- settling a pair appends an entry at most
pub settled_grows : (old new : Running) (t : Ticket) (view : List (ℕ × ℕ)) (found : Outcome) (answer : Settled) → Settles old t view found answer new → (more : List Entry) × (new.book.journal ≡ old.book.journal ++ more)
settled_grows old new t view (outcome.Found f) settled.Already s = ([], ap (λ (B : Classes). B.journal) s.1 ∙ sym (append-nil old.book.journal))
settled_grows old new t view outcome.Missed settled.Already s = ([], ap (λ (B : Classes). B.journal) s.1 ∙ sym (append-nil old.book.journal))
settled_grows old new t view (outcome.Found f) (settled.Entered place) s = (entry_of t f ∷ [], s.0.3.journal)
settled_grows old new t view outcome.Missed (settled.Entered place) s = absurd s
settled_grows old new t view (outcome.Found f) settled.Missed s = absurd s
settled_grows old new t view outcome.Missed settled.Missed s = ([], ap (λ (B : Classes). B.journal) s.1 ∙ sym (append-nil old.book.journal))
settled_grows old new t view (outcome.Found f) (settled.Reopened node seen now) s = absurd s
settled_grows old new t view outcome.Missed (settled.Reopened node seen now) s = ([], ap (λ (B : Classes). B.journal) s.2 ∙ sym (append-nil old.book.journal))
