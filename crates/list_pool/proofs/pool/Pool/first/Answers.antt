use Rattle.std.proofs.Common.{◌∙◌, ap, subst, sym, length, ◌<◌, arith}
use Rattle.std.specs.Prelude.{slice_get, is_some}
use Rattle.list_pool.specs.Pool.{Lists, list_at, StandOnce, AreInRange}
use Rattle.list_pool.specs.Linked.{lists_of}
use Rattle.list_pool.proofs.Looks.{ends_read, first_is_head}
use Rattle.list_pool.proofs.Plain.{head_get, first_none, Contains_from_get}
use Rattle.list_pool.proofs.Shown.{stand_once, are_in_range}
use Rattle.list_pool.proofs.pool.Pool.first.Goals as goal

pub returns-clause-first : goal.returns-clause-first
returns-clause-first c =
    let cells = c.self.inside.cells.items in
    let lists = c.self.inside.lists.items in
    let within : c.args.list < length lists = omega (arith, c.self.invariant.count, ap (λ (v : Lists). length v.lists) c.self.view_is, c.requires) in
    let read = ends_read lists c.args.list c.index.result.now within c.index.ensures in
    c.get.ensures ∙ ap (λ e. e.first) read ∙ first_is_head cells lists c.self.inside.spare (lists_of cells lists) c.self.invariant c.args.list within ∙
    head_get (list_at (lists_of cells lists) c.args.list) ∙ ap (λ (v : Lists). slice_get (list_at v.lists c.args.list) 0) c.self.view_is

pub returns-clause-empty : goal.returns-clause-empty
returns-clause-empty c =
    let xs = list_at c.args.self.now.lists c.args.list in
    let e = ap is_some (returns-clause-first c) in
    let none = first_none xs in
    (λ f. none.0 (sym e ∙ f), λ f. e ∙ none.1 f)

pub returns-clause-stands : goal.returns-clause-stands
returns-clause-stands c = Contains_from_get (list_at c.args.self.now.lists c.args.list) 0 c.get.result (returns-clause-first c)

pub returns-clause-once : goal.returns-clause-once
returns-clause-once c =
    let cells = c.self.inside.cells.items in
    let lists = c.self.inside.lists.items in
    subst (λ (v : Lists). StandOnce v.lists) c.self.view_is (stand_once cells lists c.self.inside.spare (lists_of cells lists) c.self.invariant)

pub returns-clause-in_range : goal.returns-clause-in_range
returns-clause-in_range c =
    let cells = c.self.inside.cells.items in
    let lists = c.self.inside.lists.items in
    subst (λ (v : Lists). AreInRange v.lists v.cells) c.self.view_is (are_in_range cells lists c.self.inside.spare (lists_of cells lists) c.self.invariant)
