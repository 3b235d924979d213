-- What a worker has besides its pass of the lock.
use Rattle.std.specs.Prelude.{◌≡◌, ◌<◌, ◌≤◌, ℕ, List, length, slice_get, Some, map}
use Rattle.std.specs.List.{All}
use Rattle.std.proofs.Common.{Global}
use Rattle.crossbeam_deque.specs.Handles.{view, IsPassOf, stealer_deque, worker_deque, worker_view, worker_flavor}
use Rattle.crossbeam_deque.specs.declared.handles.Stealer.{Stealer}
use Rattle.crossbeam_deque.specs.declared.handles.Worker.{Worker}
use Rattle.atomic_blocks.specs.Lent.{RowsId}
use Rattle.label_board.specs.Seen.{SeenBoard}
use Rattle.steal_pool.specs.declared.hint_rule.Bound.{Bound}
use Rattle.steal_pool.specs.declared.hint_rule.HintRule.{HintRule}
use Rattle.steal_pool.specs.Hints.{bounded_by}
use Rattle.steal_pool.specs.declared.workspace.StealPass.{StealPass}
use Rattle.steal_pool.specs.declared.workspace.Workspace.{Workspace}
use Rattle.steal_pool.specs.declared.workspace.Job.{Job}

abbrev pub Thief : Type 0
Thief = Stealer ℕ Global Bound HintRule

abbrev pub HintDeque : Type 0
HintDeque = Worker ℕ Global Bound HintRule

-- which deques these handles steal from
abbrev pub thief_ids : List Thief → List (RowsId × Global)
thief_ids thieves = map (λ t. stealer_deque t) thieves

-- which deques these are
abbrev pub deque_ids : List HintDeque → List (RowsId × Global)
deque_ids deques = map (λ w. worker_deque w) deques

-- these are passes of the first of those deques, in order, and their bound is n
abbrev pub ReachFirst : ℕ → List (RowsId × Global) → List StealPass → Type 0
ReachFirst n ids passes = (k : ℕ) (i : RowsId × Global) (p : StealPass) → slice_get ids k ≡ Some i → slice_get passes k ≡ Some p → IsPassOf i p.pass × (view p.pass ≡ bounded_by n)

-- and there is one for each
abbrev pub ReachAll : ℕ → List (RowsId × Global) → List StealPass → Type 0
ReachAll n ids passes = (length passes ≡ length ids) × ReachFirst n ids passes

-- there is a pass for each of these handles, of its deque and in order, and their bound is n
abbrev pub ReachEach : ℕ → List Thief → List StealPass → Type 0
ReachEach n thieves passes = (length passes ≡ length thieves) × ((k : ℕ) (t : Thief) (p : StealPass) → slice_get thieves k ≡ Some t → slice_get passes k ≡ Some p → IsPassOf (stealer_deque t) p.pass × (view p.pass ≡ bounded_by n))

-- a worker's own deque: LIFO, of numbers below n
pub record IsOwnDeque (n : ℕ) (w : HintDeque) : Type 0 where
  pub bound : worker_view w ≡ bounded_by n
  pub lifo : worker_flavor w ≡ 1

-- a job's view has room for so many names, and its watcher is one of the board's
pub record IsPlace (widest : ℕ) (on : SeenBoard) (job : Job) : Type 0 where
  pub room : widest ≤ job.view.room
  pub watches : job.watcher.board ≡ on.id

-- the hints that a worker has or can steal are below the number of pairs, its views have room, and its watchers are the board's
pub record IsWorkspace (n widest : ℕ) (on : SeenBoard) (thieves : List Thief) (w : Workspace) : Type 0 where
  pub count : w.count ≡ n
  pub own : IsOwnDeque n w.own
  pub passes : ReachEach n thieves w.steal_passes.items
  pub pending : All (λ p. p < n) w.pending.items
  pub places : All (IsPlace widest on) w.jobs.items
