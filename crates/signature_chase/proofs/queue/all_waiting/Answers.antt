-- The groups so far are on the list, in order.
use Rattle.std.proofs.Common.{◌∙◌, ap, arith, ◌<◌, [], ◌++◌, ◌∷◌, length, subst, Contains, sym, add-one, get_or-set_same, length-set}
use Rattle.list_pool.specs.Pool.{list_at}
use Rattle.signature_chase.proofs.Queues.{below-range, range_push, only_list}
use Rattle.signature_chase.proofs.queue.all_waiting.Goals as goal

pub push_back-requires-clause-free : goal.push_back-requires-clause-free
push_back-requires-clause-free c =
    let i = c.loop-group.invariant in
    let g = c.loop-group.group in
    only_list c.loop-group.pool.lists g i.count
    (λ h. let k : g < g = below-range g g (subst (λ xs. Contains xs g) i.list h) in omega arith)

pub loop-group-preserved : goal.loop-group-preserved
loop-group-preserved c =
    let i = c.loop-group.invariant in
    let lists = c.loop-group.pool.lists in
    let g = c.loop-group.group in
    let some : 0 < length lists = let e = i.count in omega arith in
    record {
      count = ap length c.push_back.ensures.lists ∙ length-set lists 0 (list_at lists 0 ++ g ∷ []) ∙ i.count;
      cells = c.push_back.ensures.cells ∙ i.cells;
      list = ap (λ ls. list_at ls 0) c.push_back.ensures.lists ∙ get_or-set_same lists 0 (list_at lists 0 ++ g ∷ []) [] some ∙ ap (λ xs. xs ++ g ∷ []) i.list
          ∙ sym (rw add-one (range_push 0 g g (omega arith)));
    }
