use Rattle.key_valuations.specs.Search.{AreRowsAt}
use Rattle.key_valuations.proofs.runs.rows_in_turn.Given as goal

abbrev pub invariant-loop-row : goal.invariant-loop-row
invariant-loop-row l = AreRowsAt l.search l.leads l.from l.row l.rows
