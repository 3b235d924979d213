-- Each call is an event, so it keeps what a chase keeps.
use Rattle.std.proofs.Common.{inl, inr, List, [], ℕ, Option, Some, None, length, slice_index, ◌≡◌, ◌<◌, ◌≤◌, get_or, replicate, sym, ◌∙◌, ap, ap₂, arith}
use Rattle.std.specs.Prelude.{MatchOption, All}
use Rattle.std.proofs.lemmas.Bool.{cases_lt}
use Rattle.chase_laws.proofs.CallerLemmas.{lean_bound, at_most_pairs, slice_get-from_Contains}
use Rattle.chase_core.proofs.Across.{ends_named}
use Rattle.std.specs.List.{range_with_len}
use Rattle.std.proofs.lemmas.List.{same_lists, get_or_default}
use Rattle.std.proofs.lemmas.List.FromFn.{length-range_with_len, get_or-range_with_len}
use Rattle.chase_laws.specs.Core.{Task, IsTask, State, IsSound, Event, Happens, name_count, opening}
use Rattle.chase_laws.specs.Core.Event.{Take, Enter, Already, Miss, Reopen}
use Rattle.chase_laws.specs.declared.entry.Entry.{Entry}
use Rattle.chase_laws.specs.declared.pair_state.PairState.{PairState}
use Rattle.chase_laws.specs.declared.pair_state.PairState.TheVariants as state
use Rattle.class_book.specs.Classes.{Classes}
use Rattle.chase_core.specs.declared.ticket.Ticket.{Ticket}
use Rattle.chase_core.specs.declared.ticket.Outcome.{Outcome}
use Rattle.chase_core.specs.declared.ticket.Outcome.TheVariants as outcome
use Rattle.chase_core.specs.declared.ticket.Settled.{Settled}
use Rattle.chase_core.specs.declared.ticket.Settled.TheVariants as settled
use Rattle.chase_core.specs.Setup.{Preparation}
use Rattle.chase_core.specs.Table.{Standings}
use Rattle.chase_core.specs.Running.{Running, journal_room, state_in, state_of, running_with}
use Rattle.chase_core.specs.Inner.{IsKept}
use Rattle.chase_core.specs.Taking.{TakesFirst, TakesHint}
use Rattle.chase_core.specs.Settling.{entry_of, Settles}

-- the law of single events, as its clause says it
abbrev pub EventsKeep : Type 0
EventsKeep = (T : Task) → IsTask T → (old new : State) (event : Event) → IsSound T old → Happens T old event new → IsSound T new

-- the event that a take is
pub taken_event : (old new : Running) (hint taken : Option ℕ) → MatchOption hint (TakesFirst old new taken) (λ p. TakesHint old new p taken) →
    (event : Event) × Happens old.setup.task (state_in old) event (state_in new)
taken_event old new None taken h = (Take h.passed taken, h.event)
taken_event old new (Some p) taken h = (Take h.passed taken, h.event)

-- the event that a settled pair is
pub settled_event : (old new : Running) (t : Ticket) (view : List (ℕ × ℕ)) (found : Outcome) (answer : Settled) → Settles old t view found answer new →
    (event : Event) × Happens old.setup.task (state_in old) event (state_in new)
settled_event old new t view (outcome.Found f) settled.Already h = (Already t.pair, h.0)
settled_event old new t view outcome.Missed settled.Already h = (Already t.pair, h.0)
settled_event old new t view (outcome.Found f) (settled.Entered place) h = (Enter t.pair (entry_of t f), h.0)
settled_event old new t view outcome.Missed (settled.Entered place) h = absurd h
settled_event old new t view (outcome.Found f) settled.Missed h = absurd h
settled_event old new t view outcome.Missed settled.Missed h = (Miss t.pair view, h.0)
settled_event old new t view (outcome.Found f) (settled.Reopened node seen now) h = absurd h
settled_event old new t view outcome.Missed (settled.Reopened node seen now) h = (Reopen t.pair view, h.0)

-- a sound journal has room
journal_fits : (T : Task) → IsTask T → (S : State) → IsSound T S → length S.journal ≤ journal_room T
journal_fits T ok S sound = elim (cases_lt 0 (length S.journal)) [
  | inl some ↦
      (let first = (named 0 none some).1 in
      let fewer = lean_bound S.journal sound.lean (name_count T) (omega (arith, first)) named in
      omega (arith, fewer, few))
  | inr empty ↦ omega arith
]
  where
    few : length S.journal ≤ length T.pairs
    few = at_most_pairs T.pairs S.journal sound.lean sound.ends

    none : Entry
    none = record { a = 0; b = 0; key = 0; left = []; right = [] }

    named : All (λ e. (e.a < name_count T) × (e.b < name_count T)) S.journal
    named i d h =
        let e = get_or S.journal i d in
        let at = slice_get-from_Contains T.pairs (e.a, e.b) (sound.ends i d h) in
        ends_named T ok at.0 e.a e.b at.1

pub kept_by : EventsKeep → (S : Preparation) (old_book new_book : Classes) (old new : Standings) (before after : ℕ) → IsKept (running_with S old_book old) before →
    (event : Event) → Happens S.task (state_of old_book old) event (state_of new_book new) → new_book.room ≡ old_book.room → after ≡ before → IsKept (running_with S new_book new) after
kept_by law S old_book new_book old new before after k event h room aside = record {
  task = k.task;
  sound = law S.task k.task (state_of old_book old) (state_of new_book new) event k.sound h;
  room = room ∙ k.room;
  within = rw (room ∙ k.room) (journal_fits S.task k.task (state_of new_book new) (law S.task k.task (state_of old_book old) (state_of new_book new) event k.sound h));
  aside = rw aside k.aside;
}

pub settled_kept : EventsKeep → (S : Preparation) (old_book new_book : Classes) (old new : Standings) (before after : ℕ) → IsKept (running_with S old_book old) before →
    (t : Ticket) (view : List (ℕ × ℕ)) (found : Outcome) (answer : Settled) → Settles (running_with S old_book old) t view found answer (running_with S new_book new) →
    new_book.room ≡ old_book.room → after ≡ before → IsKept (running_with S new_book new) after
settled_kept law S old_book new_book old new before after k t view found answer s =
    let event = settled_event (running_with S old_book old) (running_with S new_book new) t view found answer s in
    kept_by law S old_book new_book old new before after k event.0 event.1

-- a book in which each node is alone has the labels of the opening state
pub own_labels : (labels : List ℕ) (n : ℕ) → length labels ≡ n → ((k : ℕ) → k < n → slice_index labels k ≡ k) → labels ≡ range_with_len 0 n
own_labels labels n count own = same_lists labels (range_with_len 0 n) (count ∙ sym (length-range_with_len 0 n))
    (λ k d h. let within : k < n = rw count at h in get_or_default labels k d 0 h ∙ own k within ∙ (let e = get_or-range_with_len 0 n k d within in omega arith))

pub opens : (T : Task) (journal : List Entry) (labels : List ℕ) (states : List PairState) → journal ≡ [] → labels ≡ range_with_len 0 (name_count T) → states ≡ replicate (length T.pairs) state.Ready →
    (let r : State = record { journal = journal; labels = labels; pairs = states } in r) ≡ opening T
opens T journal labels states a b c =
    ap (λ (x : List Entry). let r : State = record { journal = x; labels = labels; pairs = states } in r) a
    ∙ ap₂ (λ x y. let r : State = record { journal = []; labels = x; pairs = y } in r) b c
