use Rattle.std.proofs.Common.{◌≡◌, ◌+◌, ◌*◌, All, length, vec_len, vec_capacity}
use Rattle.steal_pool.specs.Workspaces.{IsOwnDeque, IsWorkspace, ReachAll, thief_ids}
use Rattle.steal_pool.proofs.workspaces.workspaces.Given as goal

abbrev pub invariant-loop-own : goal.invariant-loop-own
invariant-loop-own l = record {
  lists : vec_len l.lists ≡ vec_len l.owned;
  made : vec_len l.workspaces + vec_len l.owned ≡ l.workers;
  room : vec_capacity l.workspaces ≡ l.workers;
  deques : All (IsOwnDeque l.count) l.owned.items;
  reach : All (λ ps. ReachAll l.count (thief_ids l.thieves.items) ps.items) l.lists.items;
  enough : length l.watchers.items ≡ vec_len l.owned * l.each;
  watchers : All (λ w. w.board ≡ l.board.id) l.watchers.items;
  workspaces : All (IsWorkspace (length l.setup.task.pairs) l.setup.widest l.board l.thieves.items) l.workspaces.items;
}

abbrev pub decreases-loop-own : goal.decreases-loop-own
decreases-loop-own l = vec_len l.owned
