use Rattle.turn_lock.specs.Handles.{IsPassOf, IsOut}
use Rattle.lock_tests.proofs.threads.add_thousand.Given as goal

abbrev pub invariant-loop-k : goal.invariant-loop-k
invariant-loop-k g l = IsPassOf l.lock l.pass × IsOut l.pass
