-- A worker that may go on.
use Rattle.std.specs.Prelude.{◌≡◌, ℕ, List, Some}
use Rattle.std.specs.List.{All}
use Rattle.turn_lock.specs.declared.handles.Pass.{Pass}
use Rattle.turn_lock.specs.declared.handles.TurnLock.{TurnLock}
use Rattle.turn_lock.specs.Handles.{IsPassOf, IsOut, base_of}
use Rattle.label_board.specs.Seen.{SeenBoard}
use Rattle.steal_pool.specs.Workspaces.{Thief, IsWorkspace}
use Rattle.steal_pool.specs.declared.crew_member.CrewMember.{CrewMember}

-- its pass is one of the lock's and has no turn, the board is that of the value's base, and its workspace is for that base
pub record IsCrewMember {T B I : Type 0} (pairs widest : B → ℕ) (board : B → SeenBoard) (lock : TurnLock T B I) (on : SeenBoard) (thieves : List Thief) (m : CrewMember T B I) : Type 0 where
  pub pass : IsPassOf lock m.pass
  pub out : IsOut m.pass
  pub base : B
  pub based : base_of m.pass ≡ Some base
  pub posts : board base ≡ on
  pub workspace : IsWorkspace (pairs base) (widest base) on thieves m.workspace

-- these are passes of the lock, none has a turn, and they have this base
abbrev pub AllOutWith : {T B I : Type 0} → TurnLock T B I → B → List (Pass T B I) → Type 0
AllOutWith lock base ps = All (λ p. IsPassOf lock p × IsOut p × (base_of p ≡ Some base)) ps
