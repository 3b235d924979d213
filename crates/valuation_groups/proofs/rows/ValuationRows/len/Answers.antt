use Rattle.std.proofs.Common.{ap, sym, ◌∙◌, subst, length, ◌+◌}
use Rattle.valuation_groups.specs.Rows.{KeyRows, AreOfShape}
use Rattle.valuation_groups.proofs.RowLemmas.{length-parts_of_cells, shape_of_cells}
use Rattle.valuation_groups.proofs.rows.ValuationRows.len.Goals as goal

pub returns-clause-length : goal.returns-clause-length
returns-clause-length c =
    let r = c.self.inside in
    sym (length-parts_of_cells r.key r.value_count r.cells.items (r.value_count + 1 + r.image_count) r.count) ∙ ap (λ (v : KeyRows). length v.parts) c.self.view_is

pub returns-clause-shape : goal.returns-clause-shape
returns-clause-shape c =
    let r = c.self.inside in
    subst AreOfShape c.self.view_is (shape_of_cells r.key r.value_count r.image_count r.cells.items r.count c.self.invariant.0)
