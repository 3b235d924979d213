use Rattle.std.proofs.Common.{◌∙◌, ap, sym, subst, length, ◌<◌, ◌≡◌, ◌+◌, Some, arith}
use Rattle.std.specs.Prelude.{slice_get}
use Rattle.list_pool.specs.Counts.{times}
use Rattle.list_pool.specs.Pool.{list_at}
use Rattle.list_pool.specs.Pool.{Lists}
use Rattle.list_pool.specs.Linked.{lists_of}
use Rattle.list_pool.proofs.Pools.{in_range}
use Rattle.list_pool.proofs.Looks.{cell_read, next_at}
use Rattle.list_pool.proofs.Plain.{times_from_Contains, split_get, next_none, get_from_Contains, Contains_from_get}
use Rattle.list_pool.proofs.pool.Pool.next.Goals as goal

pub index-requires : goal.index-requires
index-requires c =
    let cells = c.self.inside.cells.items in
    let lists = c.self.inside.lists.items in
    let within : c.args.list < length lists = omega (arith, c.self.invariant.count, ap (λ (v : Lists). length v.lists) c.self.view_is, c.requires.list) in
    let stands = subst (λ (v : Lists). 0 < times (list_at v.lists c.args.list) c.args.cell) (sym c.self.view_is) (times_from_Contains (list_at c.args.self.now.lists c.args.list) c.args.cell c.requires.stands) in
    rw c.self.inside.cells.ok.0 (in_range cells lists c.self.inside.spare (lists_of cells lists) c.self.invariant c.args.list c.args.cell within stands)

pub returns-clause-next : goal.returns-clause-next
returns-clause-next c =
    let cells = c.self.inside.cells.items in
    let lists = c.self.inside.lists.items in
    let shown = lists_of cells lists in
    let within : c.args.list < length lists = omega (arith, c.self.invariant.count, ap (λ (v : Lists). length v.lists) c.self.view_is, c.requires.list) in
    let stands = subst (λ (v : Lists). 0 < times (list_at v.lists c.args.list) c.args.cell) (sym c.self.view_is) (times_from_Contains (list_at c.args.self.now.lists c.args.list) c.args.cell c.requires.stands) in
    let cell_in = in_range cells lists c.self.inside.spare shown c.self.invariant c.args.list c.args.cell within stands in
    let read = cell_read cells c.args.cell c.index.result.now cell_in c.index.ensures in
    λ i e.
    let here : slice_get (list_at shown c.args.list) i ≡ Some c.args.cell = ap (λ (v : Lists). slice_get (list_at v.lists c.args.list) i) c.self.view_is ∙ e in
    let r = split_get (list_at shown c.args.list) i c.args.cell here in
    c.get.ensures ∙ ap (λ k. k.after) read ∙ next_at cells lists c.self.inside.spare shown c.self.invariant c.args.list within r.0 c.args.cell r.1 r.2 ∙ r.3 ∙
    ap (λ (v : Lists). slice_get (list_at v.lists c.args.list) (i + 1)) c.self.view_is

pub returns-clause-last : goal.returns-clause-last
returns-clause-last c = next_none (list_at c.args.self.now.lists c.args.list) c.args.cell c.get.result c.requires.stands (returns-clause-next c)

pub returns-clause-stands : goal.returns-clause-stands
returns-clause-stands c =
    let xs = list_at c.args.self.now.lists c.args.list in
    let stands = c.requires.stands in
    Contains_from_get xs (stands.0 + 1) c.get.result (returns-clause-next c stands.0 (get_from_Contains xs c.args.cell stands))
