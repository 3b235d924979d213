use Rattle.std.proofs.Common.{ap, sym, ◌∙◌, ◌+◌, length}
use Rattle.valuation_groups.specs.Groups.{GroupShape}
use Rattle.valuation_groups.proofs.CellLemmas.{length-rows_of}
use Rattle.valuation_groups.proofs.group.Group.len.Goals as goal

pub returns-clause-length : goal.returns-clause-length
returns-clause-length c =
    let g = c.self.inside in
    sym (length-rows_of g.cells.now (g.image_count + 1) g.count) ∙ ap (λ (v : GroupShape). length v.rows) c.self.view_is
