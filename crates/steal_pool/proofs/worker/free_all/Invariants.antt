use Rattle.std.proofs.Common.{◌≡◌, ◌<◌, ℕ, All, length, get_or}
use Rattle.label_board.specs.Seen.{SeenBoard}
use Rattle.steal_pool.specs.declared.workspace.Job.{Job}
use Rattle.steal_pool.specs.declared.workspace.Progress.TheVariants as progress
use Rattle.steal_pool.specs.Workspaces.{IsPlace}
use Rattle.steal_pool.proofs.worker.free_all.Given as goal

abbrev pub invariant-loop-k : goal.invariant-loop-k
invariant-loop-k l = record {
  count : length l.jobs.items ≡ length l.fn.jobs.items;
  places : (widest : ℕ) (on : SeenBoard) → All (IsPlace widest on) l.fn.jobs.items → All (IsPlace widest on) l.jobs.items;
  free : (i : ℕ) (d : Job) → i < l.k → (get_or l.jobs.items i d).progress ≡ progress.Free;
}
