use Rattle.std.proofs.Common.{◌≡◌, Some, length}
use Rattle.turn_lock.specs.Handles.{base_of}
use Rattle.steal_pool.specs.Batches.{IsAtWork}
use Rattle.steal_pool.proofs.worker.SharedWork.work.Given as goal

abbrev pub invariant-loop : goal.invariant-loop
invariant-loop g l = IsAtWork l.lock l.board l.thieves l.member

abbrev pub invariant-loop-k : goal.invariant-loop-k
invariant-loop-k g l = record {
  at_work : IsAtWork l.lock l.board l.thieves l.member;
  base : base_of l.member.pass ≡ Some (l.setup, l.board);
  count : length l.member.workspace.jobs.items ≡ length l.initial.member.workspace.jobs.items;
}
