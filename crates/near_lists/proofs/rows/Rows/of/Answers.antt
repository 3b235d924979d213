use Rattle.std.proofs.Common.{ap, sym, ◌∙◌, arith, length, List, ℕ, ◌<◌, ◌+◌}
use Rattle.std.proofs.lemmas.List.{get_or_default}
use Rattle.list_pool.specs.Pool.{list_at}
use Rattle.near_lists.proofs.Ranges.{length-cut, list_at-cut, within}
use Rattle.near_lists.proofs.rows.Rows.of.Goals as goal

pub overflow_add-list : goal.overflow_add-list
overflow_add-list c =
    omega (arith, length-cut c.self.inside.starts.items c.self.inside.items.items c.self.invariant.some, ap (λ (ls : List (List ℕ)). length ls) c.self.view_is, c.requires, c.self.inside.starts.ok.0, c.self.inside.starts.small)

pub index-start-requires : goal.index-start-requires
index-start-requires c = omega (arith, length-cut c.self.inside.starts.items c.self.inside.items.items c.self.invariant.some, ap (λ (ls : List (List ℕ)). length ls) c.self.view_is, c.requires, c.self.inside.starts.ok.0)

pub index-end-requires : goal.index-end-requires
index-end-requires c = omega (arith, length-cut c.self.inside.starts.items c.self.inside.items.items c.self.invariant.some, ap (λ (ls : List (List ℕ)). length ls) c.self.view_is, c.requires, c.self.inside.starts.ok.0)

pub part-requires-clause-start : goal.part-requires-clause-start
part-requires-clause-start c =
    let starts = c.self.inside.starts.items in
    let more : c.args.list + 1 < length starts = omega (arith, length-cut starts c.self.inside.items.items c.self.invariant.some, ap (λ (ls : List (List ℕ)). length ls) c.self.view_is, c.requires) in
    let a = c.index-start.ensures ∙ get_or_default starts c.args.list c.index-start.result.now 0 (omega arith) in
    let b = c.index-end.ensures ∙ get_or_default starts (c.args.list + 1) c.index-end.result.now 0 more in
    rw (a, b) (c.self.invariant.rising c.args.list more)

pub part-requires-clause-end : goal.part-requires-clause-end
part-requires-clause-end c =
    let starts = c.self.inside.starts.items in
    let more : c.args.list + 1 < length starts = omega (arith, length-cut starts c.self.inside.items.items c.self.invariant.some, ap (λ (ls : List (List ℕ)). length ls) c.self.view_is, c.requires) in
    let b = c.index-end.ensures ∙ get_or_default starts (c.args.list + 1) c.index-end.result.now 0 more in
    rw (b, c.deref.ensures.value) (within starts c.self.inside.items.items c.self.invariant (c.args.list + 1) more)

pub returns : goal.returns
returns c =
    let starts = c.self.inside.starts.items in
    let items = c.self.inside.items.items in
    let more : c.args.list + 1 < length starts = omega (arith, length-cut starts items c.self.invariant.some, ap (λ (ls : List (List ℕ)). length ls) c.self.view_is, c.requires) in
    let a = c.index-start.ensures ∙ get_or_default starts c.args.list c.index-start.result.now 0 (omega arith) in
    let b = c.index-end.ensures ∙ get_or_default starts (c.args.list + 1) c.index-end.result.now 0 more in
    c.part.ensures ∙ rw (a, b, c.deref.ensures.value) (sym (list_at-cut starts items c.args.list more) ∙ ap (λ (ls : List (List ℕ)). list_at ls c.args.list) c.self.view_is)
