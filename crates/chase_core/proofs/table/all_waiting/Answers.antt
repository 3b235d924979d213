-- The cells so far are on the list, in order.
use Rattle.std.proofs.Common.{◌∙◌, ap, arith, ◌<◌, [], ◌++◌, ◌∷◌, length, subst, Contains, sym, add-one, get_or-set_same, length-set}
use Rattle.list_pool.specs.Pool.{list_at}
use Rattle.chase_core.proofs.Members.{Contains-range, range_push}
use Rattle.chase_core.proofs.Tables.{only_list}
use Rattle.chase_core.proofs.table.all_waiting.Goals as goal

pub push_back-requires-clause-free : goal.push_back-requires-clause-free
push_back-requires-clause-free c =
    let i = c.loop-pair.invariant in
    only_list c.loop-pair.waiting.lists c.loop-pair.pair i.count
    (λ h. let k : c.loop-pair.pair < c.loop-pair.pair = (Contains-range c.loop-pair.pair c.loop-pair.pair).0 (subst (λ xs. Contains xs c.loop-pair.pair) i.list h) in omega arith)

pub loop-pair-preserved : goal.loop-pair-preserved
loop-pair-preserved c =
    let i = c.loop-pair.invariant in
    let lists = c.loop-pair.waiting.lists in
    let p = c.loop-pair.pair in
    let some : 0 < length lists = let e = i.count in omega arith in
    record {
      count = ap length c.push_back.ensures.lists ∙ length-set lists 0 (list_at lists 0 ++ p ∷ []) ∙ i.count;
      cells = c.push_back.ensures.cells ∙ i.cells;
      list = ap (λ ls. list_at ls 0) c.push_back.ensures.lists ∙ get_or-set_same lists 0 (list_at lists 0 ++ p ∷ []) [] some ∙ ap (λ xs. xs ++ p ∷ []) i.list
          ∙ sym (rw add-one (range_push 0 p p (omega arith)));
    }
