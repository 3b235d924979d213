-- What is the same by the present labels, and a pair that is settled by them (this project's own).
use Rattle.std.specs.Prelude.{List, ℕ, Bool, slice_get, ◌==◌, ◌||◌}
use Rattle.chase_laws.specs.View.{both_equal}
use Rattle.chase_laws.specs.Core.{ListsNear, IsPresent}
use Rattle.chase_core.specs.declared.ticket.Ticket.{Ticket}
use Rattle.chase_core.specs.declared.ticket.Outcome.{Outcome}
use Rattle.chase_core.specs.declared.ticket.Settled.{Settled}
use Rattle.chase_core.specs.Running.{Running, state_in}
use Rattle.chase_core.specs.Settling.{Settles}

-- two names are the same by labels where they are equal, or both have a label and the labels are equal
abbrev pub same_by_labels : List ℕ → ℕ → ℕ → Bool
same_by_labels labels m n = (m == n) || both_equal (slice_get labels m) (slice_get labels n)

-- a pair is settled as one that was searched by a view with the present labels of what is near to its ends
pub record SettlesPresent (old : Running) (ticket : Ticket) (answer : Settled) (new : Running) : Type 0 where
  pub view : List (ℕ × ℕ)
  pub near : ListsNear old.setup.task ticket.a ticket.b view
  pub present : IsPresent (state_in old) view
  pub found : Outcome
  pub settles : Settles old ticket view found answer new
