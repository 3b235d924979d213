use Rattle.steal_pool.specs.Workspaces.{ReachEach}
use Rattle.steal_pool.proofs.hunt.steal_any.Given as goal

abbrev pub invariant-loop-k : goal.invariant-loop-k
invariant-loop-k l = ReachEach l.count l.thieves l.steal_passes
