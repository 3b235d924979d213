use Rattle.std.proofs.Common.{List, ℕ, [], ◌∷◌, ◌++◌, ◌<◌, ◌-◌, ◌^◌, ap, refl, ◌∙◌, length, arith}
use Rattle.std.proofs.lemmas.List.{length_push}
use Rattle.valuation_groups.specs.declared.groups.Head.{Head}
use Rattle.valuation_groups.specs.Groups.{GroupShape}
use Rattle.valuation_groups.specs.Filling.{rows_between}
use Rattle.valuation_groups.proofs.GroupLemmas.{run_put, heads_put, view_put}
use Rattle.valuation_groups.proofs.groups.ValuationGroups.add_group.Goals as goal

pub invariant_of-self-2 : goal.invariant_of-self-2
invariant_of-self-2 c =
    let g = c.self.inside in
    let rows = c.args.rows.now in
    let head : Head = record { key = c.key.result; value_count = c.value_count.result; image_count = c.image_count.result; row_count = c.args.end - c.args.from; first_value = c.len-2.result; first_cell = c.len-3.result } in
    let put = run_put rows c.args.from c.args.end g.values.items g.cells.items c.values.result.now head c.requires.shape c.requires.some c.requires.within
    (c.len-2.ensures ∙ g.values.ok.0) (c.len-3.ensures ∙ g.cells.ok.0) c.values.ensures c.value_count.ensures.count c.image_count.ensures.count refl in
    let few : length (g.heads.items ++ head ∷ []) < 2 ^ 32 = omega (arith, length_push g.heads.items head, c.if-len.false, c.len.ensures, g.heads.ok.0) in
    rw (c.in_ok-push.ensures.items, c.in_ok-extend_from_slice.ensures.items, c.in_ok-put_rows.ensures.ok)
    (heads_put g.values.items g.cells.items c.values.result.now (rows_between rows.parts c.args.from c.args.end) g.heads.items head put c.self.invariant.0, few)

pub returns : goal.returns
returns c =
    let g = c.self.inside in
    let rows = c.args.rows.now in
    let run = rows_between rows.parts c.args.from c.args.end in
    let head : Head = record { key = c.key.result; value_count = c.value_count.result; image_count = c.image_count.result; row_count = c.args.end - c.args.from; first_value = c.len-2.result; first_cell = c.len-3.result } in
    let put = run_put rows c.args.from c.args.end g.values.items g.cells.items c.values.result.now head c.requires.shape c.requires.some c.requires.within
    (c.len-2.ensures ∙ g.values.ok.0) (c.len-3.ensures ∙ g.cells.ok.0) c.values.ensures c.value_count.ensures.count c.image_count.ensures.count refl in
    let make : ℕ → List ℕ → GroupShape = λ key values. record { key = key; values = values; rows = run } in
    rw (c.in_ok-push.ensures.items, c.in_ok-extend_from_slice.ensures.items, c.in_ok-put_rows.ensures.ok)
    (view_put g.values.items g.cells.items c.values.result.now run g.heads.items head put c.self.invariant.0
    ∙ ap (λ (gs : List GroupShape). gs ++ make c.key.result c.values.result.now ∷ []) c.self.view_is
    ∙ ap (λ key. c.args.self.now ++ make key c.values.result.now ∷ []) c.key.ensures
    ∙ ap (λ values. c.args.self.now ++ make rows.key values ∷ []) c.values.ensures)
