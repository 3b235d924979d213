-- Which pair a take hands out (this project's own).
use Rattle.std.specs.Prelude.{List, [], ◌++◌, ℕ, Option, None, IfSome, All, option_to_list, ◌≡◌, ◌⊎◌, ◌↔◌}
use Rattle.std.specs.Option.{option_map}
use Rattle.chase_laws.specs.declared.pair_state.PairState.TheVariants as state
use Rattle.chase_laws.specs.Core.{Stands, EndsJoined, Happens}
use Rattle.chase_laws.specs.Core.Event.{Take}
use Rattle.list_pool.specs.Pool.{without}
use Rattle.chase_core.specs.declared.ticket.Ticket.{Ticket}
use Rattle.chase_core.specs.Running.{Running, state_in}

-- the pair of a ticket, if there is one
abbrev pub pair_of : Option Ticket → Option ℕ
pair_of ticket = option_map (λ t. t.pair) ticket

-- Without a hint: the pairs at the front of the Ready list whose ends are joined are passed over, and the first whose
-- ends are not joined is handed out. None is handed out exactly where the ends of all Ready pairs are joined, and then
-- no pair is Ready afterwards.
pub record TakesFirst (old new : Running) (taken : Option ℕ) : Type 0 where
  pub passed : List ℕ
  pub event : Happens old.setup.task (state_in old) (Take passed taken) (state_in new)
  pub front : old.table.ready ≡ passed ++ option_to_list taken ++ new.table.ready
  pub none : (taken ≡ None) ↔ ((p : ℕ) → Stands (state_in old) p state.Ready → EndsJoined old.setup.task (state_in old) p)
  pub empty : taken ≡ None → new.table.ready ≡ []

-- With a hint: the pair is handed out where it is Ready and its ends are not joined, and passed over where it is Ready
-- and they are. It leaves the Ready list, and no other does.
pub record TakesHint (old new : Running) (hint : ℕ) (taken : Option ℕ) : Type 0 where
  pub passed : List ℕ
  pub event : Happens old.setup.task (state_in old) (Take passed taken) (state_in new)
  pub only : All (λ p. p ≡ hint) passed
  pub that : IfSome taken (λ p. p ≡ hint)
  pub none : (taken ≡ None) ↔ (¬ (Stands (state_in old) hint state.Ready) ⊎ EndsJoined old.setup.task (state_in old) hint)
  pub left : ¬ (Stands (state_in new) hint state.Ready)
  pub ready : new.table.ready ≡ without old.table.ready hint
