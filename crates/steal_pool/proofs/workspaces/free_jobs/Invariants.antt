use Rattle.std.proofs.Common.{◌≡◌, ◌+◌, All, length, vec_len, vec_capacity}
use Rattle.steal_pool.specs.Workspaces.{IsPlace}
use Rattle.steal_pool.proofs.workspaces.free_jobs.Given as goal

abbrev pub invariant-loop : goal.invariant-loop
invariant-loop l = record {
  count : vec_len l.jobs ≡ l.counter;
  room : vec_capacity l.jobs ≡ l.count;
  left : length l.watchers.items + l.counter ≡ length l.fn.watchers.items;
  watchers : All (λ w. w.board ≡ l.board.id) l.watchers.items;
  places : All (IsPlace l.widest l.board) l.jobs.items;
}
