use Rattle.std.proofs.Common.{[], ◌∷◌, ◌++◌, ◌≡◌, ap, ap₂, sym, ◌∙◌, map, replicate, arith, add-one}
use Rattle.std.proofs.lemmas.List.{length-map}
use Rattle.list_pool.specs.Pool.{list_at}
use Rattle.list_pool.specs.Counts.{times}
use Rattle.near_lists.specs.Owners.{ends_of, owners_below}
use Rattle.near_lists.proofs.Owners.{owners_fit}
use Rattle.near_lists.proofs.Ended.{at, list_at-ends}
use Rattle.near_lists.proofs.pairs.put_pairs.Goals as goal

pub put_row-requires-clause-room : goal.put_row-requires-clause-room
put_row-requires-clause-room c = λ n h.
    let pairs = c.args.pairs.now in
    let rows = map ends_of pairs in
    let i = c.loop-place.place in
    let before = c.loop-place.invariant in
    let fit = owners_fit rows n i (let l = length-map pairs ends_of in omega arith) in
    let room = c.requires.room n (omega (arith, before.as_many)) in
    let so_far = before.lists n (omega (arith, before.as_many)) in
    let row : times (list_at rows i) n ≡ times ((at pairs i).0 ∷ (at pairs i).1 ∷ []) n = ap (λ xs. times xs n) (list_at-ends pairs i c.loop-place-test.true) in
    rw (before.starts, so_far) (omega arith)

pub loop-place-preserved : goal.loop-place-preserved
loop-place-preserved c =
    let pairs = c.args.pairs.now in
    let rows = map ends_of pairs in
    let i = c.loop-place.place in
    let before = c.loop-place.invariant in
    let put = c.put_row.ensures in
    record {
      as_many = put.as_many ∙ before.as_many;
      starts = put.starts ∙ before.starts;
      lists = λ n h.
          put.lists n (omega (arith, before.as_many))
          ∙ ap₂ (λ xs row. xs ++ replicate (times row n) i) (before.lists n h) (sym (list_at-ends pairs i c.loop-place-test.true))
          ∙ ap (owners_below rows n) (sym (add-one i));
    }
