-- One pair more.
use Rattle.std.proofs.Common.{List, ℕ, ◌≡◌, ◌+◌, max, length, get_or, ap, subst, ◌∙◌, arith}
use Rattle.std.proofs.lemmas.List.{take_all}
use Rattle.chase_core.specs.Setup.{IsMost, near_count}
use Rattle.chase_core.proofs.Widest.{most_more}
use Rattle.chase_core.proofs.setup.most_near.Goals as goal

pub loop-a-preserved : goal.loop-a-preserved
loop-a-preserved c =
    let near = c.args.near.now.near in
    let pairs = c.args.pairs.now in
    let i = c.loop-a.a-index in
    let p : ℕ × ℕ = get_or pairs i (0, 0) in
    let a = ap length c.near.ensures.list in
    let b = ap length c.near-in-loop-a.ensures.list in
    let count : length c.near.result.now + length c.near-in-loop-a.result.now ≡ near_count near p = omega arith in
    let most : c.max-most.result ≡ max c.loop-a.most (near_count near p) = c.max-most.ensures ∙ ap (max c.loop-a.most) count in
    rw most (most_more near pairs i c.loop-a.most c.loop-a-test.true c.loop-a.invariant)

pub returns : goal.returns
returns c = subst (λ (pairs : List (ℕ × ℕ)). IsMost c.args.near.now.near pairs c.loop-a.most) (take_all c.loop-a.a-index c.args.pairs.now (omega arith)) c.loop-a.invariant
