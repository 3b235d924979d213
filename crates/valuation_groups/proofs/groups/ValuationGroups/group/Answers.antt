use Rattle.std.proofs.Common.{List, ◌<◌, ap, ◌∙◌, length, arith}
use Rattle.std.proofs.lemmas.List.{length-map}
use Rattle.valuation_groups.specs.Groups.{GroupShape, group_at}
use Rattle.valuation_groups.specs.Heads.{shape_of}
use Rattle.valuation_groups.proofs.GroupLemmas.{group_is}
use Rattle.valuation_groups.proofs.groups.ValuationGroups.group.Goals as goal

pub returns : goal.returns
returns c =
    let g = c.self.inside in
    let there : c.args.place < length g.heads.items =
    omega (arith, c.requires, length-map g.heads.items (shape_of g.values.items g.cells.items), ap (λ (gs : List GroupShape). length gs) c.self.view_is) in
    rw (c.deref.ensures.value, c.deref-2.ensures.value)
    (group_is g.values.items g.cells.items g.heads.items c.args.place c.index-head.result.now there c.index-head.ensures c.self.invariant.0
    ∙ ap (λ (gs : List GroupShape). group_at gs c.args.place) c.self.view_is)
