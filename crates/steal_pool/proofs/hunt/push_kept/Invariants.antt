use Rattle.steal_pool.specs.Workspaces.{IsOwnDeque}
use Rattle.steal_pool.proofs.hunt.push_kept.Given as goal

abbrev pub invariant-loop-k : goal.invariant-loop-k
invariant-loop-k l = IsOwnDeque l.count l.own
