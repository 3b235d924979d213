use Rattle.std.proofs.Common.{ap, sym, ◌∙◌, ◌+◌}
use Rattle.valuation_groups.specs.Cells.{row_at}
use Rattle.valuation_groups.specs.Rows.{KeyRows, row_numbered}
use Rattle.valuation_groups.proofs.RowLemmas.{row_numbered-cells}
use Rattle.valuation_groups.proofs.rows.ValuationRows.row.Goals as goal

pub returns : goal.returns
returns c =
    let r = c.self.inside in
    let wide = c.width.ensures ∙ sym (ap (λ (v : KeyRows). v.value_count + 1 + v.image_count) c.self.view_is) in
    c.row_of.ensures
    ∙ ap (λ cells. row_at cells c.width.result c.args.row) c.deref.ensures.value
    ∙ ap (λ w. row_at r.cells.items w c.args.row) wide
    ∙ sym (row_numbered-cells r.key r.value_count r.image_count r.cells.items r.count c.args.row c.self.invariant.0)
    ∙ ap (λ (v : KeyRows). row_numbered v.parts c.args.row) c.self.view_is
