-- A pair that was handed out, with its view, while others settle theirs (this project's own).
use Rattle.std.specs.Prelude.{List, ℕ, IsTrue}
use Rattle.chase_laws.specs.declared.entry.Entry.{Entry}
use Rattle.chase_laws.specs.Joined.{Joined}
use Rattle.chase_laws.specs.View.{same_by}
use Rattle.chase_laws.specs.Core.{Task, PairAt, ListsNear}
use Rattle.chase_core.specs.declared.ticket.Ticket.{Ticket}

-- A ticket of one of the task's pairs, and a view of what is near to its ends. What is the same by the view is joined by
-- the entries that were there when it was handed out, and so by all that begin with them.
pub record IsHeld (T : Task) (seen : List Entry) (ticket : Ticket) (view : List (ℕ × ℕ)) : Type 0 where
  pub ends : PairAt T ticket.pair ticket.a ticket.b
  pub near : ListsNear T ticket.a ticket.b view
  pub joined : (m n : ℕ) → IsTrue (same_by view m n) → Joined seen m n
