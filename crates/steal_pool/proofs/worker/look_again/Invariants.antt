use Rattle.steal_pool.specs.Batches.{IsAtWork}
use Rattle.steal_pool.proofs.worker.look_again.Given as goal

abbrev pub invariant-loop : goal.invariant-loop
invariant-loop g l = IsAtWork l.lock l.board l.thieves l.member
