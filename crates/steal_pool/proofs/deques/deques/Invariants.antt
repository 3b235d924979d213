use Rattle.std.proofs.Common.{◌≡◌, All, vec_len, vec_capacity}
use Rattle.steal_pool.specs.Workspaces.{IsOwnDeque}
use Rattle.steal_pool.proofs.deques.deques.Given as goal

abbrev pub invariant-loop : goal.invariant-loop
invariant-loop l = record {
  count : vec_len l.deques ≡ l.counter;
  room : vec_capacity l.deques ≡ l.workers;
  deques : All (IsOwnDeque l.count) l.deques.items;
}
