use Rattle.std.proofs.Common.{◌≡◌, All, length}
use Rattle.steal_pool.specs.Workspaces.{IsOwnDeque}
use Rattle.steal_pool.proofs.deques.deal.Given as goal

abbrev pub invariant-loop-pair : goal.invariant-loop-pair
invariant-loop-pair l = record {
  count : length l.deques ≡ length l.fn.deques;
  deques : All (IsOwnDeque l.count) l.deques;
}
