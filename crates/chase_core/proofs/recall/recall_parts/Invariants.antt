use Rattle.std.proofs.Common.{ℕ, List}
use Rattle.chase_core.proofs.Recalling.{IsRecalledTo}
use Rattle.chase_core.proofs.recall.recall_parts.Given as goal

abbrev pub invariant-loop-pair : goal.invariant-loop-pair
invariant-loop-pair l = (list : List ℕ) × IsRecalledTo l.fn.table l.table list l.pair
