use Rattle.std.proofs.Common.{List, ℕ, ap, sym, ◌∙◌, ◌+◌, ◌<◌, length, arith}
use Rattle.valuation_groups.specs.Groups.{GroupShape, row_in}
use Rattle.valuation_groups.proofs.CellLemmas.{length-rows_of, length-row_at, row_of_any}
use Rattle.valuation_groups.proofs.group.Group.row.Goals as goal

pub returns-clause-row : goal.returns-clause-row
returns-clause-row c =
    let g = c.self.inside in
    c.row_of.ensures ∙ sym (row_of_any g.cells.now (g.image_count + 1) g.count c.args.row c.self.invariant.0) ∙ ap (λ (v : GroupShape). row_in v c.args.row) c.self.view_is

pub returns-clause-named : goal.returns-clause-named
returns-clause-named c = λ there.
    let g = c.self.inside in
    let long = c.self.invariant.0 in
    let in_count : c.args.row < g.count = omega (arith, there, length-rows_of g.cells.now (g.image_count + 1) g.count, ap (λ (v : GroupShape). length v.rows) c.self.view_is) in
    omega (arith, ap (λ (xs : List ℕ). length xs) c.row_of.ensures, length-row_at g.cells.now (g.image_count + 1) g.count c.args.row (omega arith) in_count)
