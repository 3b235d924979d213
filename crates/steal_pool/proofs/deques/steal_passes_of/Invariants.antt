use Rattle.std.proofs.Common.{◌≡◌, All, length, vec_len, vec_capacity}
use Rattle.steal_pool.specs.Workspaces.{IsOwnDeque, ReachFirst, deque_ids}
use Rattle.steal_pool.proofs.deques.steal_passes_of.Given as goal

abbrev pub invariant-loop-k : goal.invariant-loop-k
invariant-loop-k l = record {
  count : length l.deques ≡ length l.fn.deques;
  deques : All (IsOwnDeque l.count) l.deques;
  same : deque_ids l.deques ≡ deque_ids l.fn.deques;
  made : vec_len l.passes ≡ l.k;
  room : vec_capacity l.passes ≡ length l.fn.deques;
  reach : ReachFirst l.count (deque_ids l.fn.deques) l.passes.items;
}
