use Rattle.std.proofs.Common.{◌∙◌, ap, sym, subst, set, arith, length, ◌++◌, ◌∷◌, [], ◌<◌, ◌-◌, Some, None}
use Rattle.list_pool.specs.Pool.{Lists, list_at, IsFree}
use Rattle.list_pool.specs.Linked.{IsPool, lists_of}
use Rattle.list_pool.specs.Links.{Links}
use Rattle.list_pool.proofs.Pools.{pushed, cells_count}
use Rattle.list_pool.proofs.Looks.{ends_read, last_in_range, spared}
use Rattle.list_pool.proofs.Plain.{count_from_IsFree}
use Rattle.list_pool.proofs.Walks.{shown}
use Rattle.list_pool.proofs.pool.Pool.push_back.Goals as goal

pub link-requires-clause-left : goal.link-requires-clause-left
link-requires-clause-left c =
    let cells = c.self.inside.cells.items in
    let lists = c.self.inside.lists.items in
    let within : c.args.list < length lists = omega (arith, c.self.invariant.count, ap (λ (v : Lists). length v.lists) c.self.view_is, c.requires.list) in
    let read = ends_read lists c.args.list c.index.result.now within c.index.ensures in
    λ x e. last_in_range cells lists c.self.inside.spare (lists_of cells lists) c.self.invariant c.args.list within x (rw (← read) e)

pub overflow_sub-self : goal.overflow_sub-self
overflow_sub-self c =
    let cells = c.self.inside.cells.items in
    let lists = c.self.inside.lists.items in
    let cell_in : c.args.cell < length cells = omega (arith, ap (λ (v : Lists). v.cells) c.self.view_is, c.requires.cell) in
    let none = count_from_IsFree (lists_of cells lists) c.args.cell (subst (λ (v : Lists). IsFree v.lists c.args.cell) (sym c.self.view_is) c.requires.free) in
    omega (arith, spared cells lists c.self.inside.spare (lists_of cells lists) c.self.invariant c.args.cell cell_in none)

pub returns-clause-spare : goal.returns-clause-spare
returns-clause-spare c =
    let cells = c.self.inside.cells.items in
    let lists = c.self.inside.lists.items in
    let cell_in : c.args.cell < length cells = omega (arith, ap (λ (v : Lists). v.cells) c.self.view_is, c.requires.cell) in
    let none = count_from_IsFree (lists_of cells lists) c.args.cell (subst (λ (v : Lists). IsFree v.lists c.args.cell) (sym c.self.view_is) c.requires.free) in
    omega (arith, ap (λ (v : Lists). v.spare) c.self.view_is, spared cells lists c.self.inside.spare (lists_of cells lists) c.self.invariant c.args.cell cell_in none)

pub invariant_of-self : goal.invariant_of-self
invariant_of-self c =
    let cells = c.self.inside.cells.items in
    let lists = c.self.inside.lists.items in
    let before = lists_of cells lists in
    let cells' = c.link.new.cells.items in
    let lists' = c.link.new.lists.items in
    let cells'' = c.link-2.new.cells.items in
    let lists'' = c.link-2.new.lists.items in
    let within : c.args.list < length lists = omega (arith, c.self.invariant.count, ap (λ (v : Lists). length v.lists) c.self.view_is, c.requires.list) in
    let cell_in : c.args.cell < length cells = omega (arith, ap (λ (v : Lists). v.cells) c.self.view_is, c.requires.cell) in
    let read = ends_read lists c.args.list c.index.result.now within c.index.ensures in
    let none = count_from_IsFree before c.args.cell (subst (λ (v : Lists). IsFree v.lists c.args.cell) (sym c.self.view_is) c.requires.free) in
    let some = spared cells lists c.self.inside.spare before c.self.invariant c.args.cell cell_in none in
    let first = subst (λ e. Links cells lists cells' lists' c.args.list e.last (Some c.args.cell)) read
    (subst (Links cells lists cells' lists' c.args.list c.index.result.now.last) c.new-new_last.ensures c.link.ensures) in
    let second = subst (λ w. Links cells' lists' cells'' lists'' c.args.list w None) c.new-new_last.ensures
    (subst (Links cells' lists' cells'' lists'' c.args.list c.new-new_last.result) c.none-none.ensures c.link-2.ensures) in
    let size = cells_count cells' lists' cells'' lists'' c.args.list _ _ c.link-2.ensures in
    let size' = cells_count cells lists cells' lists' c.args.list _ _ c.link.ensures in
    let made : IsPool c.mark.new.cells.items lists'' (c.self.inside.spare - 1) (set before c.args.list (list_at before c.args.list ++ c.args.cell ∷ [])) = rw c.mark.ensures (pushed cells lists c.self.inside.spare before c.self.invariant c.args.list within c.args.cell
    cells' lists' cells'' lists'' (c.self.inside.spare - 1) cell_in none
    first second (omega arith) (size ∙ size')) in
    rw (shown c.mark.new.cells.items lists'' (c.self.inside.spare - 1) (set before c.args.list (list_at before c.args.list ++ c.args.cell ∷ [])) made) made

pub returns-clause-lists : goal.returns-clause-lists
returns-clause-lists c =
    let cells = c.self.inside.cells.items in
    let lists = c.self.inside.lists.items in
    let before = lists_of cells lists in
    let cells' = c.link.new.cells.items in
    let lists' = c.link.new.lists.items in
    let cells'' = c.link-2.new.cells.items in
    let lists'' = c.link-2.new.lists.items in
    let within : c.args.list < length lists = omega (arith, c.self.invariant.count, ap (λ (v : Lists). length v.lists) c.self.view_is, c.requires.list) in
    let cell_in : c.args.cell < length cells = omega (arith, ap (λ (v : Lists). v.cells) c.self.view_is, c.requires.cell) in
    let read = ends_read lists c.args.list c.index.result.now within c.index.ensures in
    let none = count_from_IsFree before c.args.cell (subst (λ (v : Lists). IsFree v.lists c.args.cell) (sym c.self.view_is) c.requires.free) in
    let some = spared cells lists c.self.inside.spare before c.self.invariant c.args.cell cell_in none in
    let first = subst (λ e. Links cells lists cells' lists' c.args.list e.last (Some c.args.cell)) read
    (subst (Links cells lists cells' lists' c.args.list c.index.result.now.last) c.new-new_last.ensures c.link.ensures) in
    let second = subst (λ w. Links cells' lists' cells'' lists'' c.args.list w None) c.new-new_last.ensures
    (subst (Links cells' lists' cells'' lists'' c.args.list c.new-new_last.result) c.none-none.ensures c.link-2.ensures) in
    let size = cells_count cells' lists' cells'' lists'' c.args.list _ _ c.link-2.ensures in
    let size' = cells_count cells lists cells' lists' c.args.list _ _ c.link.ensures in
    let made : IsPool c.mark.new.cells.items lists'' (c.self.inside.spare - 1) (set before c.args.list (list_at before c.args.list ++ c.args.cell ∷ [])) = rw c.mark.ensures (pushed cells lists c.self.inside.spare before c.self.invariant c.args.list within c.args.cell
    cells' lists' cells'' lists'' (c.self.inside.spare - 1) cell_in none
    first second (omega arith) (size ∙ size')) in
    shown c.mark.new.cells.items lists'' (c.self.inside.spare - 1) (set before c.args.list (list_at before c.args.list ++ c.args.cell ∷ [])) made ∙
    ap (λ (v : Lists). set v.lists c.args.list (list_at v.lists c.args.list ++ c.args.cell ∷ [])) c.self.view_is
