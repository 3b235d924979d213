use Rattle.std.proofs.Common.{Contains}
use Rattle.std.specs.Prelude.{IfSome}
use Rattle.list_pool.specs.Pool.{list_at}
use Rattle.chase_tests.proofs.lists.front.Given as goal

-- the cell that is reached stands in the list
abbrev pub invariant-loop-place : goal.invariant-loop-place
invariant-loop-place l = IfSome l.cell (Contains (list_at l.pool.lists l.list))
