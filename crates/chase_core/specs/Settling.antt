-- What settling a pair does, and what it answers (this project's own).
use Rattle.std.specs.Prelude.{List, [], ◌∷◌, ◌++◌, ℕ, Some, Contains, length, take, slice_get, slice_index, ◌≡◌, ◌≢◌, ◌<◌, ◌↔◌}
use Rattle.std.specs.List.Sorted.{IsStrictlyIncreasing}
use Rattle.chase_laws.specs.declared.entry.Entry.{Entry}
use Rattle.chase_laws.specs.declared.pair_state.PairState.{PairState}
use Rattle.chase_laws.specs.declared.pair_state.PairState.TheVariants as state
use Rattle.chase_laws.specs.Shape.{Shape}
use Rattle.chase_laws.specs.Valuation.{IsMatch, Matches}
use Rattle.chase_laws.specs.View.{same_by}
use Rattle.chase_laws.specs.Chase.{IsStep}
use Rattle.chase_laws.specs.Core.{Task, State, Happens}
use Rattle.chase_laws.specs.Core.Event.{Enter, Already as AlreadyJoined, Miss, Reopen}
use Rattle.list_pool.specs.Pool.{without}
use Rattle.paired_search.specs.declared.all_keys.Finding.{Finding}
use Rattle.chase_core.specs.declared.ticket.Ticket.{Ticket}
use Rattle.chase_core.specs.declared.ticket.Outcome.{Outcome}
use Rattle.chase_core.specs.declared.ticket.Outcome.TheVariants as outcome
use Rattle.chase_core.specs.declared.ticket.Settled.{Settled}
use Rattle.chase_core.specs.declared.ticket.Settled.TheVariants as settled
use Rattle.chase_core.specs.Table.{Standings}
use Rattle.chase_core.specs.Running.{Running, state_in}

-- the identification of a pair by what was found
abbrev pub entry_of : Ticket → Finding → Entry
entry_of ticket finding = record { a = ticket.a; b = ticket.b; key = finding.key; left = finding.left; right = finding.right }

-- what a search by a view comes to: a key with two valuations at the ends that coincide up to the view, or none
abbrev pub IsFoundBy : Task → Ticket → List (ℕ × ℕ) → Outcome → Type 0
IsFoundBy T ticket view (outcome.Found finding) = (Q : Shape) × (slice_get T.patterns finding.key ≡ Some Q) × IsMatch T.graph Q (same_by view) ticket.a ticket.b finding.left finding.right
IsFoundBy T ticket view outcome.Missed = ¬ (Matches T.graph T.patterns (same_by view) ticket.a ticket.b)

-- What a search may come to: what was found is a step from the present journal, or no key has two valuations at the
-- ends that coincide up to the view.
abbrev pub IsRightOutcome : Task → State → Ticket → List (ℕ × ℕ) → Outcome → Type 0
IsRightOutcome T S ticket view (outcome.Found finding) = IsStep T.graph T.patterns S.journal (entry_of ticket finding)
IsRightOutcome T S ticket view outcome.Missed = ¬ (Matches T.graph T.patterns (same_by view) ticket.a ticket.b)

-- the first name of a view whose label is not the present one, with both labels
pub record IsFirstOvertaken (labels : List ℕ) (view : List (ℕ × ℕ)) (node seen now : ℕ) : Type 0 where
  pub place : ℕ
  pub stands : slice_get view place ≡ Some (node, seen)
  pub present : now ≡ slice_index labels node
  pub differs : seen ≢ now
  pub earlier : (k m l : ℕ) → k < place → slice_get view k ≡ Some (m, l) → l ≡ slice_index labels m

-- The pairs of a list stood at one state and are Ready now, they are all such pairs, ascending, and they went to the end
-- of the Ready list.
pub record RiseInOrder (from : PairState) (states : List PairState) (ready : List ℕ) (new : Standings) (woken : List ℕ) : Type 0 where
  pub ascending : IsStrictlyIncreasing woken
  pub exact : (q : ℕ) → Contains woken q ↔ ((slice_get states q ≡ Some from) × (slice_get new.states q ≡ Some state.Ready))
  pub last : new.ready ≡ ready ++ woken

-- the pair goes last on the Ready list, where it was not there already
pub record GoesLast (old : Standings) (pair : ℕ) (new : Standings) : Type 0 where
  pub kept : slice_get old.states pair ≡ Some state.Ready → new.ready ≡ old.ready
  pub last : slice_get old.states pair ≢ Some state.Ready → new.ready ≡ old.ready ++ pair ∷ []

-- What each answer says. The four cannot come for one and the same: the first comes where the ends are joined, the
-- others where they are not, and of those the second where something was found, the third and the fourth where nothing
-- was, by whether the view's labels are the present ones.
abbrev pub Settles : Running → Ticket → List (ℕ × ℕ) → Outcome → Settled → Running → Type 0
Settles old ticket view found settled.Already new =
    Happens old.setup.task (state_in old) (AlreadyJoined ticket.pair) (state_in new)
    × (new.book ≡ old.book) × (new.table.ready ≡ without old.table.ready ticket.pair)
Settles old ticket view (outcome.Found finding) (settled.Entered place) new =
    Happens old.setup.task (state_in old) (Enter ticket.pair (entry_of ticket finding)) (state_in new) × (place ≡ length old.book.journal)
Settles old ticket view outcome.Missed (settled.Entered place) new = ⊥
Settles old ticket view (outcome.Found finding) settled.Missed new = ⊥
Settles old ticket view outcome.Missed settled.Missed new =
    Happens old.setup.task (state_in old) (Miss ticket.pair view) (state_in new)
    × (new.book ≡ old.book) × (new.table.ready ≡ without old.table.ready ticket.pair)
Settles old ticket view (outcome.Found finding) (settled.Reopened node seen now) new = ⊥
Settles old ticket view outcome.Missed (settled.Reopened node seen now) new =
    Happens old.setup.task (state_in old) (Reopen ticket.pair view) (state_in new)
    × IsFirstOvertaken old.book.labels view node seen now
    × (new.book ≡ old.book) × GoesLast old.table ticket.pair new.table

-- the first of the pairs that an entry makes Ready, as many as there is room for, and nothing after another answer
abbrev pub Notes : Running → ℕ → Settled → Running → ℕ → List ℕ → Type 0
Notes old pair (settled.Entered place) new room list =
    (woken : List ℕ) × RiseInOrder state.Missed old.table.states (without old.table.ready pair) new.table woken × (list ≡ take room woken)
Notes old pair settled.Already new room list = list ≡ []
Notes old pair settled.Missed new room list = list ≡ []
Notes old pair (settled.Reopened node seen now) new room list = list ≡ []
