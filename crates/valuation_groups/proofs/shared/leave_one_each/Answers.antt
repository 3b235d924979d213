use Rattle.std.proofs.Common.{rules}
use Rattle.std.proofs.lemmas.Fn.{dedup_same}
use Rattle.valuation_groups.specs.Rows.{have_equal_rows}
use Rattle.valuation_groups.proofs.shared.leave_one_each.Goals as goal

pub returns : goal.returns
returns c = dedup_same _ (have_equal_rows c.args.rows.now.parts) _ (λ x y b f' x' y' k. search rules) _ _ c.dedup_by.ensures.filtered
