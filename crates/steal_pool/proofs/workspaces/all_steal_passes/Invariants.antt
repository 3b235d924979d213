use Rattle.std.proofs.Common.{◌≡◌, All, length, vec_len, vec_capacity}
use Rattle.steal_pool.specs.Workspaces.{IsOwnDeque, ReachAll, deque_ids}
use Rattle.steal_pool.proofs.workspaces.all_steal_passes.Given as goal

abbrev pub invariant-loop : goal.invariant-loop
invariant-loop l = record {
  count : length l.deques ≡ length l.fn.deques;
  deques : All (IsOwnDeque l.count) l.deques;
  same : deque_ids l.deques ≡ deque_ids l.fn.deques;
  made : vec_len l.lists ≡ l.counter;
  room : vec_capacity l.lists ≡ length l.fn.deques;
  reach : All (λ ps. ReachAll l.count (deque_ids l.fn.deques) ps.items) l.lists.items;
}
