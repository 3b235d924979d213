use Rattle.std.proofs.Common.{List, ℕ, length}
use Rattle.chase_core.specs.Passing.{HavePassed}
use Rattle.chase_core.proofs.take.pass_over.Given as goal

abbrev pub invariant-loop-pair : goal.invariant-loop-pair
invariant-loop-pair l = (passed : List ℕ) × HavePassed l.setup.task l.book l.fn.table l.table passed

abbrev pub decreases-loop-pair : goal.decreases-loop-pair
decreases-loop-pair l = length l.table.ready
