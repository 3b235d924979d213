use Rattle.std.proofs.Common.{◌∙◌, ap, sym, subst, set, arith, length, ◌≤◌, ◌<◌, ◌+◌}
use Rattle.list_pool.specs.Counts.{count_in, times}
use Rattle.list_pool.specs.Pool.{Lists, list_at, without, IsFree}
use Rattle.list_pool.specs.Linked.{IsPool, lists_of}
use Rattle.list_pool.specs.Links.{Links}
use Rattle.list_pool.proofs.Walks.{shown}
use Rattle.list_pool.proofs.Plain.{left_free, times_from_Contains}
use Rattle.list_pool.proofs.Pools.{once_in, removed, in_range, once, cells_count}
use Rattle.list_pool.proofs.Times.{split_at}
use Rattle.list_pool.proofs.Looks.{cell_read, before_in_range, after_in_range, room, filter_one}
use Rattle.list_pool.proofs.pool.Pool.remove.Goals as goal

pub index-requires : goal.index-requires
index-requires c =
    let cells = c.self.inside.cells.items in
    let lists = c.self.inside.lists.items in
    let before = lists_of cells lists in
    let list_in : c.args.list < length lists = omega (arith, c.self.invariant.count, ap (λ (v : Lists). length v.lists) c.self.view_is, c.requires.list) in
    let stands = subst (λ (v : Lists). 0 < times (list_at v.lists c.args.list) c.args.cell) (sym c.self.view_is) (times_from_Contains (list_at c.args.self.now.lists c.args.list) c.args.cell c.requires.stands) in
    let cell_in = in_range cells lists c.self.inside.spare before c.self.invariant c.args.list c.args.cell list_in stands in
    rw c.self.inside.cells.ok.0 cell_in

pub link-requires-clause-left : goal.link-requires-clause-left
link-requires-clause-left c =
    let cells = c.self.inside.cells.items in
    let lists = c.self.inside.lists.items in
    let before = lists_of cells lists in
    let list_in : c.args.list < length lists = omega (arith, c.self.invariant.count, ap (λ (v : Lists). length v.lists) c.self.view_is, c.requires.list) in
    let stands = subst (λ (v : Lists). 0 < times (list_at v.lists c.args.list) c.args.cell) (sym c.self.view_is) (times_from_Contains (list_at c.args.self.now.lists c.args.list) c.args.cell c.requires.stands) in
    let cell_in = in_range cells lists c.self.inside.spare before c.self.invariant c.args.list c.args.cell list_in stands in
    let read = cell_read cells c.args.cell c.index.result.now cell_in c.index.ensures in
    λ x e. before_in_range cells lists c.self.inside.spare before c.self.invariant c.args.list list_in c.args.cell stands x (rw (← read) e)

pub link-requires-clause-right : goal.link-requires-clause-right
link-requires-clause-right c =
    let cells = c.self.inside.cells.items in
    let lists = c.self.inside.lists.items in
    let before = lists_of cells lists in
    let list_in : c.args.list < length lists = omega (arith, c.self.invariant.count, ap (λ (v : Lists). length v.lists) c.self.view_is, c.requires.list) in
    let stands = subst (λ (v : Lists). 0 < times (list_at v.lists c.args.list) c.args.cell) (sym c.self.view_is) (times_from_Contains (list_at c.args.self.now.lists c.args.list) c.args.cell c.requires.stands) in
    let cell_in = in_range cells lists c.self.inside.spare before c.self.invariant c.args.list c.args.cell list_in stands in
    let read = cell_read cells c.args.cell c.index.result.now cell_in c.index.ensures in
    λ x e. after_in_range cells lists c.self.inside.spare before c.self.invariant c.args.list list_in c.args.cell stands x (rw (← read) e)

pub mark-requires : goal.mark-requires
mark-requires c =
    let cells = c.self.inside.cells.items in
    let lists = c.self.inside.lists.items in
    let before = lists_of cells lists in
    let list_in : c.args.list < length lists = omega (arith, c.self.invariant.count, ap (λ (v : Lists). length v.lists) c.self.view_is, c.requires.list) in
    let stands = subst (λ (v : Lists). 0 < times (list_at v.lists c.args.list) c.args.cell) (sym c.self.view_is) (times_from_Contains (list_at c.args.self.now.lists c.args.list) c.args.cell c.requires.stands) in
    let cell_in = in_range cells lists c.self.inside.spare before c.self.invariant c.args.list c.args.cell list_in stands in
    rw (cells_count cells lists c.link.new.cells.items c.link.new.lists.items c.args.list _ _ c.link.ensures) cell_in

pub overflow_add-self : goal.overflow_add-self
overflow_add-self c =
    let cells = c.self.inside.cells.items in
    let lists = c.self.inside.lists.items in
    let before = lists_of cells lists in
    let list_in : c.args.list < length lists = omega (arith, c.self.invariant.count, ap (λ (v : Lists). length v.lists) c.self.view_is, c.requires.list) in
    let stands = subst (λ (v : Lists). 0 < times (list_at v.lists c.args.list) c.args.cell) (sym c.self.view_is) (times_from_Contains (list_at c.args.self.now.lists c.args.list) c.args.cell c.requires.stands) in
    let cell_in = in_range cells lists c.self.inside.spare before c.self.invariant c.args.list c.args.cell list_in stands in
    omega (arith, room cells lists c.self.inside.spare before c.self.invariant c.args.list list_in c.args.cell stands)

pub invariant_of-self : goal.invariant_of-self
invariant_of-self c =
    let cells = c.self.inside.cells.items in
    let lists = c.self.inside.lists.items in
    let before = lists_of cells lists in
    let list_in : c.args.list < length lists = omega (arith, c.self.invariant.count, ap (λ (v : Lists). length v.lists) c.self.view_is, c.requires.list) in
    let stands = subst (λ (v : Lists). 0 < times (list_at v.lists c.args.list) c.args.cell) (sym c.self.view_is) (times_from_Contains (list_at c.args.self.now.lists c.args.list) c.args.cell c.requires.stands) in
    let cell_in = in_range cells lists c.self.inside.spare before c.self.invariant c.args.list c.args.cell list_in stands in
    let read = cell_read cells c.args.cell c.index.result.now cell_in c.index.ensures in
    let parts = split_at (list_at before c.args.list) c.args.cell stands in
    let linked = subst (λ k. Links cells lists c.link.new.cells.items c.link.new.lists.items c.args.list k.before k.after) read c.link.ensures in
    let rest = filter_one (list_at before c.args.list) parts.0 c.args.cell parts.1 parts.2 (once cells lists c.self.inside.spare before c.self.invariant c.args.list list_in) in
    let made : IsPool c.mark.new.cells.items c.link.new.lists.items (c.self.inside.spare + 1) (set before c.args.list (without (list_at before c.args.list) c.args.cell)) = rw (c.mark.ensures, rest) (removed cells lists c.self.inside.spare before c.self.invariant c.args.list list_in c.args.cell parts.0 parts.1 parts.2
    c.link.new.cells.items c.link.new.lists.items linked) in
    rw (shown c.mark.new.cells.items c.link.new.lists.items (c.self.inside.spare + 1) (set before c.args.list (without (list_at before c.args.list) c.args.cell)) made) made

pub returns-clause-lists : goal.returns-clause-lists
returns-clause-lists c =
    let cells = c.self.inside.cells.items in
    let lists = c.self.inside.lists.items in
    let before = lists_of cells lists in
    let list_in : c.args.list < length lists = omega (arith, c.self.invariant.count, ap (λ (v : Lists). length v.lists) c.self.view_is, c.requires.list) in
    let stands = subst (λ (v : Lists). 0 < times (list_at v.lists c.args.list) c.args.cell) (sym c.self.view_is) (times_from_Contains (list_at c.args.self.now.lists c.args.list) c.args.cell c.requires.stands) in
    let cell_in = in_range cells lists c.self.inside.spare before c.self.invariant c.args.list c.args.cell list_in stands in
    let read = cell_read cells c.args.cell c.index.result.now cell_in c.index.ensures in
    let parts = split_at (list_at before c.args.list) c.args.cell stands in
    let linked = subst (λ k. Links cells lists c.link.new.cells.items c.link.new.lists.items c.args.list k.before k.after) read c.link.ensures in
    let rest = filter_one (list_at before c.args.list) parts.0 c.args.cell parts.1 parts.2 (once cells lists c.self.inside.spare before c.self.invariant c.args.list list_in) in
    let made : IsPool c.mark.new.cells.items c.link.new.lists.items (c.self.inside.spare + 1) (set before c.args.list (without (list_at before c.args.list) c.args.cell)) = rw (c.mark.ensures, rest) (removed cells lists c.self.inside.spare before c.self.invariant c.args.list list_in c.args.cell parts.0 parts.1 parts.2
    c.link.new.cells.items c.link.new.lists.items linked) in
    shown c.mark.new.cells.items c.link.new.lists.items (c.self.inside.spare + 1) (set before c.args.list (without (list_at before c.args.list) c.args.cell)) made ∙
    ap (λ (v : Lists). set v.lists c.args.list (without (list_at v.lists c.args.list) c.args.cell)) c.self.view_is

pub returns-clause-free : goal.returns-clause-free
returns-clause-free c =
    let lists = c.args.self.now.lists in
    let inside = c.self.inside in
    let once = subst (λ (v : Lists). count_in v.lists c.args.cell ≤ 1) c.self.view_is
    (once_in inside.cells.items inside.lists.items inside.spare (lists_of inside.cells.items inside.lists.items) c.self.invariant c.args.cell) in
    subst (λ ls. IsFree ls c.args.cell) (sym (returns-clause-lists c)) (left_free lists c.args.list c.args.cell once c.requires.list c.requires.stands)
