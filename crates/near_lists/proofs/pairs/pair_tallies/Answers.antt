use Rattle.std.proofs.Common.{List, [], ◌∷◌, ℕ, ◌≡◌, ◌<◌, ◌+◌, ap, sym, ◌∙◌, length, get_or, arith}
use Rattle.list_pool.specs.Counts.{times}
use Rattle.near_lists.proofs.Ended.{at, owners-le, owners_step, written_whole}
use Rattle.near_lists.proofs.pairs.pair_tallies.Goals as goal

pub tally-requires-clause-room : goal.tally-requires-clause-room
tally-requires-clause-room c = λ n h.
    let pairs = c.args.pairs.now in
    let i = c.loop-a.a-index in
    let before = c.loop-a.invariant in
    let same : get_or c.deref_mut.result.now n 0 ≡ get_or c.loop-a.tallies.items n 0 = ap (λ (xs : List ℕ). get_or xs n 0) c.deref_mut.ensures.value in
    let long : length c.deref_mut.result.now ≡ length c.loop-a.tallies.items = ap (λ (xs : List ℕ). length xs) c.deref_mut.ensures.value in
    let each = before.each n (omega (arith, before.one_each)) in
    let few = owners-le pairs n i (omega arith) in
    omega (arith, c.requires.few)

pub loop-a-preserved : goal.loop-a-preserved
loop-a-preserved c =
    let pairs = c.args.pairs.now in
    let i = c.loop-a.a-index in
    let old = c.loop-a.tallies.items in
    let new = c.tally.new.tallies in
    let before = c.loop-a.invariant in
    let long : length c.deref_mut.result.now ≡ length old = ap (λ (xs : List ℕ). length xs) c.deref_mut.ensures.value in
    let count : c.loop-a.tallies.len ≡ length old = omega (arith, c.deref_mut.ensures.len) in
    let kept : length new ≡ length old = c.tally.ensures.one_each ∙ long in
    rw (written_whole old new c.loop-a.tallies.len kept count) (record {
      one_each = kept ∙ before.one_each;
      each = λ n h.
          let within : n < length c.deref_mut.result.now = omega (arith, before.one_each) in
          let was : get_or c.deref_mut.result.now n 0 ≡ get_or old n 0 = ap (λ (xs : List ℕ). get_or xs n 0) c.deref_mut.ensures.value in
          c.tally.ensures.each n within
          ∙ ap (λ m. m + times ((at pairs i).0 ∷ (at pairs i).1 ∷ []) n) (was ∙ before.each n h)
          ∙ sym (owners_step pairs n i c.loop-a-test.true);
    })
