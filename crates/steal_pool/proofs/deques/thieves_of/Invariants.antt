use Rattle.std.proofs.Common.{◌≡◌, length, take, vec_len, vec_capacity}
use Rattle.steal_pool.specs.Workspaces.{deque_ids, thief_ids}
use Rattle.steal_pool.proofs.deques.thieves_of.Given as goal

abbrev pub invariant-loop-deque : goal.invariant-loop-deque
invariant-loop-deque l = record {
  count : vec_len l.thieves ≡ l.deque-index;
  room : vec_capacity l.thieves ≡ length l.deques;
  ids : thief_ids l.thieves.items ≡ deque_ids (take l.deque-index l.deques);
}
