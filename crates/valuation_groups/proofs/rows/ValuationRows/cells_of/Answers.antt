use Rattle.std.proofs.Common.{ℕ, List, ap, sym, ◌∙◌, ◌+◌, ◌<◌, length, arith}
use Rattle.valuation_groups.specs.Cells.{row_at, parts_in_row}
use Rattle.valuation_groups.specs.Rows.{KeyRows, part_at}
use Rattle.valuation_groups.proofs.CellLemmas.{length-row_at}
use Rattle.valuation_groups.proofs.RowLemmas.{length-parts_of_cells, part_at-cells}
use Rattle.valuation_groups.proofs.rows.ValuationRows.cells_of.Goals as goal

pub returns-clause-parts : goal.returns-clause-parts
returns-clause-parts c =
    let r = c.self.inside in
    let row = c.args.row in
    let w : ℕ = r.value_count + 1 + r.image_count in
    let there : row < r.count = omega (arith, length-parts_of_cells r.key r.value_count r.cells.items w r.count, ap (λ (v : KeyRows). length v.parts) c.self.view_is, c.requires) in
    let wide = c.width.ensures ∙ sym (ap (λ (v : KeyRows). v.value_count + 1 + v.image_count) c.self.view_is) in
    let is = c.row_of.ensures ∙ ap (λ cells. row_at cells c.width.result row) c.deref.ensures.value ∙ ap (λ w. row_at r.cells.items w row) wide in
    sym (ap (λ (v : KeyRows). part_at v.parts row) c.self.view_is)
    ∙ part_at-cells r.key r.value_count r.cells.items w r.count row there
    ∙ ap (parts_in_row r.key r.value_count) (sym is)
    ∙ ap (λ (v : KeyRows). parts_in_row v.key v.value_count c.row_of.result.now) c.self.view_is

pub returns-clause-width : goal.returns-clause-width
returns-clause-width c =
    let r = c.self.inside in
    let row = c.args.row in
    let w : ℕ = r.value_count + 1 + r.image_count in
    let there : row < r.count = omega (arith, length-parts_of_cells r.key r.value_count r.cells.items w r.count, ap (λ (v : KeyRows). length v.parts) c.self.view_is, c.requires) in
    let long = c.self.invariant.0 in
    let wide = c.width.ensures ∙ sym (ap (λ (v : KeyRows). v.value_count + 1 + v.image_count) c.self.view_is) in
    let is = c.row_of.ensures ∙ ap (λ cells. row_at cells c.width.result row) c.deref.ensures.value ∙ ap (λ w. row_at r.cells.items w row) wide in
    ap (λ (xs : List ℕ). length xs) is ∙ length-row_at r.cells.items w r.count row (omega arith) there ∙ ap (λ (v : KeyRows). v.value_count + 1 + v.image_count) c.self.view_is
