use Rattle.std.proofs.Common.{ℕ, ◌<◌, ◌≡◌, length, get_or, arith, sym, ap, subst, false}
use Rattle.std.proofs.lemmas.List.{get_or_default}
use Rattle.proof_graph.specs.declared.trees.Node.{Node}
use Rattle.proof_graph.specs.Tree.{Climbs, stays, goes, since, above, lone_node, node_in, never}
use Rattle.proof_graph.proofs.trees.top.Goals as goal

pub loop-top-preserved : goal.loop-top-preserved
loop-top-preserved c =
    let d : Node = record { above = 0; since = 0; by_b = false; rank = 0 } in
    let e : get_or c.args.nodes.now c.loop-top.top d ≡ node_in c.args.nodes.now c.loop-top.top = get_or_default c.args.nodes.now c.loop-top.top d lone_node c.loop-top.invariant.0 in
    let s : (get_or c.args.nodes.now c.loop-top.top d).since ≡ since c.args.nodes.now c.loop-top.top = ap (λ (n : Node). n.since) e in
    let a : (get_or c.args.nodes.now c.loop-top.top d).above ≡ above c.args.nodes.now c.loop-top.top = ap (λ (n : Node). n.above) e in
    let t = c.loop-top-test.true in
    subst (λ u. (u < length c.args.nodes.now) × ((r : ℕ) → Climbs c.args.nodes.now never u r → Climbs c.args.nodes.now never c.args.at r)) (sym a) (
      c.requires.forest.inside c.loop-top.top c.loop-top.invariant.0,
      λ r w. c.loop-top.invariant.1 r (goes (omega arith) w),
    )

pub returns-clause-climbs : goal.returns-clause-climbs
returns-clause-climbs c =
    let d : Node = record { above = 0; since = 0; by_b = false; rank = 0 } in
    let e : get_or c.args.nodes.now c.loop-top.top d ≡ node_in c.args.nodes.now c.loop-top.top = get_or_default c.args.nodes.now c.loop-top.top d lone_node c.loop-top.invariant.0 in
    let s : (get_or c.args.nodes.now c.loop-top.top d).since ≡ since c.args.nodes.now c.loop-top.top = ap (λ (n : Node). n.since) e in
    let t = c.loop-top-test.false in
    c.loop-top.invariant.1 c.loop-top.top (stays (omega arith))
