use Rattle.std.proofs.Common.{◌+◌, ◌≡◌, length, subst, sym, refl, arith}
use Rattle.merge_graph.proofs.RankLemmas.{ListsBelow, lists_more}
use Rattle.merge_graph.proofs.ranks.marked.Goals as goal

pub loop-place-preserved : goal.loop-place-preserved
loop-place-preserved c = subst (ListsBelow c.args.marks.now (c.loop-place.place + 1)) (sym c.in_ok-list.ensures) (lists_more c.args.marks.now c.loop-place.place c.loop-place.listed.items _ refl c.loop-place.invariant)

pub returns : goal.returns
returns c =
    let all : c.loop-place.place ≡ length c.args.marks.now = omega (arith, c.loop-place-test.false, c.loop-place.auto.place-end) in
    let h : ListsBelow c.args.marks.now (length c.args.marks.now) c.loop-place.listed.items = subst (λ k. ListsBelow c.args.marks.now k c.loop-place.listed.items) all c.loop-place.invariant in
    record { only = h.only; every = h.every; few = h.few }
