use Rattle.std.proofs.Common.{◌≡◌, ◌++◌}
use Rattle.std.specs.List.{concat}
use Rattle.valuation_groups.specs.Filling.{rows_between}
use Rattle.valuation_groups.proofs.groups.put_rows.Given as goal

abbrev pub invariant-loop-row : goal.invariant-loop-row
invariant-loop-row l = l.cells.items ≡ l.initial.cells.items ++ concat (rows_between l.rows.parts l.from l.row)
