use Rattle.std.proofs.Common.{List, [], ◌∷◌, ◌++◌, ap, sym, ◌∙◌, ◌+◌}
use Rattle.chase_laws.specs.Signature.{SignatureParts}
use Rattle.valuation_groups.specs.Rows.{KeyRows}
use Rattle.valuation_groups.proofs.RowLemmas.{parts_of_cells, rows_pushed}
use Rattle.valuation_groups.proofs.rows.ValuationRows.push.Goals as goal

pub returns-clause-ok : goal.returns-clause-ok
returns-clause-ok c =
    let r = c.self.inside in
    let values_long = c.requires.values ∙ sym (ap (λ (v : KeyRows). v.value_count) c.self.view_is) in
    let images_long = c.requires.images ∙ sym (ap (λ (v : KeyRows). v.image_count) c.self.view_is) in
    let with : List SignatureParts → KeyRows = λ parts. record { key = r.key; value_count = r.value_count; image_count = r.image_count; parts = parts } in
    ap with
    (ap (λ cells. parts_of_cells r.key r.value_count cells (r.value_count + 1 + r.image_count) (r.count + 1)) c.in_ok-put.ensures.ok
    ∙ rows_pushed r.key r.value_count r.image_count r.cells.items c.args.values.now c.args.images.now r.count c.args.name c.self.invariant.0 values_long images_long)
    ∙ ap (λ (v : KeyRows). let added : SignatureParts = record { key = v.key; name = c.args.name; values = c.args.values.now; images = c.args.images.now } in
    let grown : KeyRows = record { key = v.key; value_count = v.value_count; image_count = v.image_count; parts = v.parts ++ added ∷ [] } in grown) c.self.view_is
