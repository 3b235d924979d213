use Rattle.std.proofs.Common.{◌∷◌, []}
use Rattle.proof_check.proofs.RowLemmas.{row_test}
use Rattle.proof_check.proofs.side.holds.Goals as goal

pub returns : goal.returns
returns c = row_test c.args.rows.now (c.args.s ∷ c.args.p ∷ c.args.o ∷ []) c.has.result c.has.ensures
