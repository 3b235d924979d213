use Rattle.std.proofs.Common.{◌<◌, length, arith, sym, ap, subst, refl, inr, true, false}
use Rattle.std.proofs.lemmas.List.{length-map}
use Rattle.chase_laws.specs.declared.entry.Entry.{Entry}
use Rattle.chase_laws.specs.Joined.{links}
use Rattle.proof_graph.specs.declared.trees.Node.{Node}
use Rattle.proof_graph.specs.Tree.{Approach, not_begun}
use Rattle.proof_graph.proofs.MeetLemmas.{node_read, step_x, step_y, ended_apart, last_low, met}
use Rattle.proof_graph.proofs.meeting.meet.Goals as goal

pub loop-of_x-init : goal.loop-of_x-init
loop-of_x-init c = (c.requires.x, c.requires.y, not_begun refl refl)

pub loop-of_x-preserved-then-since_x-since_y : goal.loop-of_x-preserved-then-since_x-since_y
loop-of_x-preserved-then-since_x-since_y c =
    let nodes = c.args.nodes.now in
    let u = c.loop-of_x.of_x in
    let v = c.loop-of_x.of_y in
    let i = c.loop-of_x.invariant in
    let sx = ap (λ (n : Node). n.since) (node_read nodes u i.0) in
    let sy = ap (λ (n : Node). n.since) (node_read nodes v i.1) in
    let up = ap (λ (n : Node). n.above) (node_read nodes u i.0) in
    let l = c.if-since_x-since_y.true in
    subst (λ w. (w < length nodes) × (v < length nodes) × Approach nodes c.args.x c.args.y w v u true) (sym up)
    (c.requires.trees.forest.inside u i.0, i.1, step_x nodes c.requires.trees.forest c.args.x c.args.y u v c.loop-of_x.below c.loop-of_x.from_x i.0 i.1 (omega arith) i.2)

pub loop-of_x-preserved : goal.loop-of_x-preserved
loop-of_x-preserved c =
    let nodes = c.args.nodes.now in
    let u = c.loop-of_x.of_x in
    let v = c.loop-of_x.of_y in
    let i = c.loop-of_x.invariant in
    let sx = ap (λ (n : Node). n.since) (node_read nodes u i.0) in
    let sy = ap (λ (n : Node). n.since) (node_read nodes v i.1) in
    let up = ap (λ (n : Node). n.above) (node_read nodes v i.1) in
    let l = c.if-since_x-since_y.false in
    let m = c.if-since_y-lt-NEVER.true in
    subst (λ w. (u < length nodes) × (w < length nodes) × Approach nodes c.args.x c.args.y u w v false) (sym up)
    (i.0, c.requires.trees.forest.inside v i.1, step_y nodes c.requires.trees.forest c.args.x c.args.y u v c.loop-of_x.below c.loop-of_x.from_x i.0 i.1 c.loop-of_x-test.true (omega arith) (omega arith) i.2)

pub returns-else-since_y-lt-NEVER-clause-none : goal.returns-else-since_y-lt-NEVER-clause-none
returns-else-since_y-lt-NEVER-clause-none c =
    let nodes = c.args.nodes.now in
    let u = c.loop-of_x.of_x in
    let v = c.loop-of_x.of_y in
    let i = c.loop-of_x.invariant in
    let sx = ap (λ (n : Node). n.since) (node_read nodes u i.0) in
    let sy = ap (λ (n : Node). n.since) (node_read nodes v i.1) in
    let l = c.if-since_x-since_y.false in
    let m = c.if-since_y-lt-NEVER.false in
    inr (ended_apart (links c.args.journal.now) nodes (length c.args.journal.now) c.requires.trees c.requires.small c.args.x c.args.y u v c.loop-of_x.below c.loop-of_x.from_x
    (sym (length-map c.args.journal.now (λ (e : Entry). (e.a, e.b)))) c.requires.x c.requires.y c.loop-of_x-test.true (omega arith) (omega arith) i.2)

pub seen-requires-clause-below : goal.seen-requires-clause-below
seen-requires-clause-below c =
    (last_low (links c.args.journal.now) c.args.nodes.now (length c.args.journal.now) c.requires.trees c.requires.small c.args.x c.args.y c.loop-of_x.of_x c.loop-of_x.of_y c.loop-of_x.below c.loop-of_x.from_x c.if-x-y.false c.loop-of_x-test.false c.loop-of_x.invariant.2).0

pub seen-requires-clause-place : goal.seen-requires-clause-place
seen-requires-clause-place c =
    (last_low (links c.args.journal.now) c.args.nodes.now (length c.args.journal.now) c.requires.trees c.requires.small c.args.x c.args.y c.loop-of_x.of_x c.loop-of_x.of_y c.loop-of_x.below c.loop-of_x.from_x c.if-x-y.false c.loop-of_x-test.false c.loop-of_x.invariant.2).1

pub returns-clause-some : goal.returns-clause-some
returns-clause-some c =
    met c.args.journal.now c.args.nodes.now (length c.args.journal.now) c.requires.trees c.requires.small c.args.x c.args.y c.loop-of_x.of_x c.loop-of_x.of_y c.loop-of_x.below c.loop-of_x.from_x c.seen.result
    c.requires.x c.requires.y c.if-x-y.false c.loop-of_x-test.false c.loop-of_x.invariant.2 c.seen.ensures
