-- The front of the only list.
use Rattle.std.proofs.Common.{◌∙◌, ap, arith, ◌<◌, ◌≡◌, [], ℕ, Option, MatchOption, length, subst, sym, drop, get_or-set_same, length-set, Some, slice_get, None}
use Rattle.std.specs.Prelude.{IfSome}
use Rattle.std.proofs.lemmas.List.Elements.{Contains-get_or}
use Rattle.list_pool.specs.Pool.{list_at}
use Rattle.signature_chase.proofs.Queues.{front_taken, first_in}
use Rattle.signature_chase.proofs.queue.take_first.Goals as goal

pub returns-clause-first : goal.returns-clause-first
returns-clause-first c =
    let lists = c.args.pool.now.lists in
    let some : 0 < length lists = let e = c.requires in omega arith in
    let left : list_at c.pop_front.new.self.lists 0 ≡ drop 1 (list_at lists 0) = ap (λ ls. list_at ls 0) c.pop_front.ensures.lists ∙ get_or-set_same lists 0 (drop 1 (list_at lists 0)) [] some in
    rw left (front_taken (list_at lists 0) c.pop_front.result c.pop_front.ensures.first)

pub returns-clause-group : goal.returns-clause-group
returns-clause-group c =
    let lists = c.args.pool.now.lists in
    first_in lists c.args.pool.now.cells c.pop_front.result c.pop_front.ensures.first c.first.ensures.in_range

pub returns-clause-lists : goal.returns-clause-lists
returns-clause-lists c = ap length c.pop_front.ensures.lists ∙ length-set c.args.pool.now.lists 0 (drop 1 (list_at c.args.pool.now.lists 0)) ∙ c.requires
