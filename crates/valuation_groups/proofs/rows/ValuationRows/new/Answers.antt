use Rattle.std.proofs.Common.{refl}
use Rattle.valuation_groups.specs.Cells.{rows_of}
use Rattle.valuation_groups.proofs.rows.ValuationRows.new.Goals as goal

pub returns-clause-empty : goal.returns-clause-empty
unfolding rows_of
returns-clause-empty c = refl
