use Rattle.std.proofs.Common.{subst, sym, ◌∙◌, Some, None, ap, arith, set, length, ◌<◌, [], ◌≡◌}
use Rattle.list_pool.specs.Pool.{Lists, list_at, joined_lists}
use Rattle.list_pool.specs.Linked.{IsPool, lists_of}
use Rattle.list_pool.specs.Links.{Links}
use Rattle.list_pool.proofs.Pools.{spliced, cells_count}
use Rattle.list_pool.proofs.Looks.{ends_read, last_in_range, first_in_range, first_is_head, from_head, nil_from_head, nothing_spliced}
use Rattle.list_pool.proofs.Plain.{some_of, none_of}
use Rattle.list_pool.proofs.Walks.{shown}
use Rattle.list_pool.proofs.pool.Pool.splice.Goals as goal

pub link-requires-clause-left : goal.link-requires-clause-left
link-requires-clause-left c =
    let cells = c.self.inside.cells.items in
    let lists = c.self.inside.lists.items in
    let before = lists_of cells lists in
    let into_in : c.args.into < length lists = omega (arith, c.self.invariant.count, ap (λ (v : Lists). length v.lists) c.self.view_is, c.requires.into) in
    let from_in : c.args.from < length lists = omega (arith, c.self.invariant.count, ap (λ (v : Lists). length v.lists) c.self.view_is, c.requires.from) in
    let read = ends_read lists c.args.into c.index-then-is_some.result.now into_in c.index-then-is_some.ensures in
    λ x e. last_in_range cells lists c.self.inside.spare before c.self.invariant c.args.into into_in x (rw (← read) e)

pub link-requires-clause-right : goal.link-requires-clause-right
link-requires-clause-right c =
    let cells = c.self.inside.cells.items in
    let lists = c.self.inside.lists.items in
    let before = lists_of cells lists in
    let into_in : c.args.into < length lists = omega (arith, c.self.invariant.count, ap (λ (v : Lists). length v.lists) c.self.view_is, c.requires.into) in
    let from_in : c.args.from < length lists = omega (arith, c.self.invariant.count, ap (λ (v : Lists). length v.lists) c.self.view_is, c.requires.from) in
    let read = ends_read lists c.args.from c.index.result.now from_in c.index.ensures in
    λ x e. first_in_range cells lists c.self.inside.spare before c.self.invariant c.args.from from_in x (rw (← read) e)

pub link-requires-then-is_some-clause-left : goal.link-requires-then-is_some-clause-left
link-requires-then-is_some-clause-left c =
    let cells = c.self.inside.cells.items in
    let lists = c.self.inside.lists.items in
    let before = lists_of cells lists in
    let into_in : c.args.into < length lists = omega (arith, c.self.invariant.count, ap (λ (v : Lists). length v.lists) c.self.view_is, c.requires.into) in
    let from_in : c.args.from < length lists = omega (arith, c.self.invariant.count, ap (λ (v : Lists). length v.lists) c.self.view_is, c.requires.from) in
    let read = ends_read lists c.args.from c.index.result.now from_in c.index.ensures in
    λ x e. rw (cells_count cells lists c.link.new.cells.items c.link.new.lists.items c.args.into _ _ c.link.ensures)
    (last_in_range cells lists c.self.inside.spare before c.self.invariant c.args.from from_in x (rw (← read) e))

pub invariant_of-self : goal.invariant_of-self
invariant_of-self c =
    let cells = c.self.inside.cells.items in
    let lists = c.self.inside.lists.items in
    let before = lists_of cells lists in
    let into_in : c.args.into < length lists = omega (arith, c.self.invariant.count, ap (λ (v : Lists). length v.lists) c.self.view_is, c.requires.into) in
    let from_in : c.args.from < length lists = omega (arith, c.self.invariant.count, ap (λ (v : Lists). length v.lists) c.self.view_is, c.requires.from) in
    let cells' = c.link.new.cells.items in
    let lists' = c.link.new.lists.items in
    let cells'' = c.link-then-is_some.new.cells.items in
    let lists'' = c.link-then-is_some.new.lists.items in
    let read = ends_read lists c.args.from c.index.result.now from_in c.index.ensures in
    let read' = ends_read lists c.args.into c.index-then-is_some.result.now into_in c.index-then-is_some.ensures in
    let top = first_is_head cells lists c.self.inside.spare before c.self.invariant c.args.from from_in in
    let some = some_of c.get.result (sym c.is_some.ensures ∙ c.if-is_some.true) in
    let is_first = sym c.get.ensures ∙ some.1 in
    let parts = from_head (list_at before c.args.from) some.0 (sym top ∙ ap (λ e. e.first) (sym read) ∙ is_first) in
    let one = subst (λ e. Links cells lists cells' lists' c.args.into e.last (Some some.0)) read'
    (subst (Links cells lists cells' lists' c.args.into c.index-then-is_some.result.now.last) is_first c.link.ensures) in
    let two = subst (λ e. Links cells' lists' cells'' lists'' c.args.into e.last None) read
    (subst (Links cells' lists' cells'' lists'' c.args.into c.index.result.now.last) c.none-none.ensures c.link-then-is_some.ensures) in
    let made : IsPool cells'' (set lists'' c.args.from c.no_ends.result) c.self.inside.spare (joined_lists before c.args.into c.args.from) =
    rw (parts.1, c.no_ends.ensures) (spliced cells lists c.self.inside.spare before c.self.invariant c.args.into c.args.from into_in from_in c.requires.apart some.0 parts.0 parts.1
    cells' lists' cells'' lists'' one two) in
    rw (shown cells'' (set lists'' c.args.from c.no_ends.result) c.self.inside.spare (joined_lists before c.args.into c.args.from) made) made

pub returns-then-is_some-clause-lists : goal.returns-then-is_some-clause-lists
returns-then-is_some-clause-lists c =
    let cells = c.self.inside.cells.items in
    let lists = c.self.inside.lists.items in
    let before = lists_of cells lists in
    let into_in : c.args.into < length lists = omega (arith, c.self.invariant.count, ap (λ (v : Lists). length v.lists) c.self.view_is, c.requires.into) in
    let from_in : c.args.from < length lists = omega (arith, c.self.invariant.count, ap (λ (v : Lists). length v.lists) c.self.view_is, c.requires.from) in
    let cells' = c.link.new.cells.items in
    let lists' = c.link.new.lists.items in
    let cells'' = c.link-then-is_some.new.cells.items in
    let lists'' = c.link-then-is_some.new.lists.items in
    let read = ends_read lists c.args.from c.index.result.now from_in c.index.ensures in
    let read' = ends_read lists c.args.into c.index-then-is_some.result.now into_in c.index-then-is_some.ensures in
    let top = first_is_head cells lists c.self.inside.spare before c.self.invariant c.args.from from_in in
    let some = some_of c.get.result (sym c.is_some.ensures ∙ c.if-is_some.true) in
    let is_first = sym c.get.ensures ∙ some.1 in
    let parts = from_head (list_at before c.args.from) some.0 (sym top ∙ ap (λ e. e.first) (sym read) ∙ is_first) in
    let one = subst (λ e. Links cells lists cells' lists' c.args.into e.last (Some some.0)) read'
    (subst (Links cells lists cells' lists' c.args.into c.index-then-is_some.result.now.last) is_first c.link.ensures) in
    let two = subst (λ e. Links cells' lists' cells'' lists'' c.args.into e.last None) read
    (subst (Links cells' lists' cells'' lists'' c.args.into c.index.result.now.last) c.none-none.ensures c.link-then-is_some.ensures) in
    let made : IsPool cells'' (set lists'' c.args.from c.no_ends.result) c.self.inside.spare (joined_lists before c.args.into c.args.from) =
    rw (parts.1, c.no_ends.ensures) (spliced cells lists c.self.inside.spare before c.self.invariant c.args.into c.args.from into_in from_in c.requires.apart some.0 parts.0 parts.1
    cells' lists' cells'' lists'' one two) in
    shown cells'' (set lists'' c.args.from c.no_ends.result) c.self.inside.spare (joined_lists before c.args.into c.args.from) made ∙ ap (λ (v : Lists). joined_lists v.lists c.args.into c.args.from) c.self.view_is

pub returns-else-is_some-clause-lists : goal.returns-else-is_some-clause-lists
returns-else-is_some-clause-lists c =
    let cells = c.self.inside.cells.items in
    let lists = c.self.inside.lists.items in
    let before = lists_of cells lists in
    let into_in : c.args.into < length lists = omega (arith, c.self.invariant.count, ap (λ (v : Lists). length v.lists) c.self.view_is, c.requires.into) in
    let from_in : c.args.from < length lists = omega (arith, c.self.invariant.count, ap (λ (v : Lists). length v.lists) c.self.view_is, c.requires.from) in
    let read = ends_read lists c.args.from c.index.result.now from_in c.index.ensures in
    let top = first_is_head cells lists c.self.inside.spare before c.self.invariant c.args.from from_in in
    let is_first = sym c.get.ensures ∙ none_of c.get.result (sym c.is_some.ensures ∙ c.if-is_some.false) in
    let none = nil_from_head (list_at before c.args.from) (sym top ∙ ap (λ e. e.first) (sym read) ∙ is_first) in
    let same = subst (λ (v : Lists). list_at v.lists c.args.from ≡ []) c.self.view_is none in
    sym (nothing_spliced c.args.self.now.lists c.args.into c.args.from same)
