use Rattle.std.proofs.Common.{◌≡◌, ◌<◌, ◌+◌, ap, sym, ◌∙◌, subst, length, take, get_or, set, inl, inr, arith}
use Rattle.std.proofs.lemmas.Bool.{cases_eq}
use Rattle.std.proofs.lemmas.List.{length-set, length-take-le, get_or-set_same, get_or-set_other}
use Rattle.list_pool.specs.Counts.{times}
use Rattle.near_lists.proofs.Counted.{times_nil, times-le-length, times_more_here, times_more_other}
use Rattle.near_lists.proofs.turn.tally.Goals as goal

pub loop-item-init : goal.loop-item-init
loop-item-init c = record { one_each = omega arith; each = λ n h. let none = times_nil n in omega arith }

pub loop-item-preserved : goal.loop-item-preserved
loop-item-preserved c =
    let items = c.args.items.now in
    let i = c.loop-item.item-index in
    let x = get_or items i 0 in
    let old = c.loop-item.tallies in
    let first = c.args.tallies.now in
    let before = c.loop-item.invariant in
    let named : x < length first = c.requires.named i 0 c.loop-item-test.true in
    let x_in : x < length old = omega (arith, before.one_each) in
    record {
      one_each = length-set old x (get_or old x 0 + 1) ∙ before.one_each;
      each = λ n h. elim (cases_eq n x) [
        | inl e ↦ subst (λ m. get_or (set old x (get_or old x 0 + 1)) m 0 ≡ get_or first m 0 + times (take (i + 1) items) m) (sym e)
            (get_or-set_same old x (get_or old x 0 + 1) 0 x_in
            ∙ (let a = before.each x named in let b = times_more_here items i c.loop-item-test.true in omega arith))
        | inr d ↦ get_or-set_other old x n (get_or old x 0 + 1) 0 d ∙ before.each n h
            ∙ ap (λ m. get_or first n 0 + m) (sym (times_more_other items i n c.loop-item-test.true d))
      ];
    }

pub overflow_add-tallies : goal.overflow_add-tallies
overflow_add-tallies c =
    let items = c.args.items.now in
    let i = c.loop-item.item-index in
    let x = get_or items i 0 in
    let named : x < length c.args.tallies.now = c.requires.named i 0 c.loop-item-test.true in
    let a = c.loop-item.invariant.each x named in
    let b = c.requires.room x named in
    omega (arith, a, b, times-le-length (take i items) x, length-take-le i items (omega arith))
