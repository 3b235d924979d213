-- A crew as contracts see it.
use Rattle.std.specs.Prelude.{◌≡◌, ◌≤◌, ◌<◌, ℕ, List, length, vec_len, vec_capacity}
use Rattle.std.specs.List.{All}
use Rattle.std.proofs.Common.{Global}
use Rattle.std.specs.declared.vec.Vec.{Vec}
use Rattle.chase_laws.specs.declared.entry.Entry.{Entry}
use Rattle.chase_core.specs.Setup.{Preparation}
use Rattle.turn_lock.specs.declared.handles.TurnLock.{TurnLock}
use Rattle.turn_lock.specs.declared.handles.Pass.{Pass}
use Rattle.turn_lock.specs.Handles.{seats_of}
use Rattle.steal_pool.specs.declared.crew_member.CrewMember.{CrewMember}
use Rattle.steal_pool.specs.declared.shared.Shared.{Shared}
use Rattle.steal_pool.specs.Workspaces.{Thief}
use Rattle.label_board.specs.Seen.{SeenBoard}
use Rattle.steal_pool.specs.Bases.{Base, pair_count, widest_of, board_of}
use Rattle.steal_pool.specs.CrewMembers.{IsCrewMember}

-- the setup and the journal of the chase that a crew has, and how many workers there are
pub record CrewContents : Type 0 where
  pub setup : Preparation
  pub journal : List Entry
  pub workers : ℕ

-- there is a worker for each seat of the lock, each may go on, and there is room for their passes
pub record IsCrew (lock : TurnLock Shared Base Entry) (on : SeenBoard) (thieves : List Thief) (members : List (CrewMember Shared Base Entry)) (home : Vec (Pass Shared Base Entry) Global) : Type 0 where
  pub some_seat : 0 < seats_of lock
  pub few : seats_of lock ≤ 64
  pub seats : length members ≡ seats_of lock
  pub empty : vec_len home ≡ 0
  pub room : length members ≤ vec_capacity home
  pub each : All (IsCrewMember pair_count widest_of board_of lock on thieves) members
