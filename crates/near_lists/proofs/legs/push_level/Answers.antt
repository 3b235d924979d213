use Rattle.std.proofs.Common.{ap, length, arith}
use Rattle.near_lists.proofs.Adding.{adds_more}
use Rattle.near_lists.proofs.Levels.{FromEdge, from_edge_at, from_edges}
use Rattle.near_lists.proofs.legs.push_level.Goals as goal

pub loop-edge-preserved : goal.loop-edge-preserved
loop-edge-preserved c =
    let Q = c.args.pattern.now in
    let old = c.args.legs.now.items in
    let mid = c.loop-edge.legs.items in
    let new = c.push_along.new.legs.items in
    let i = c.loop-edge.edge-index in
    record {
      added = adds_more old mid new (FromEdge Q c.args.distances.now c.args.level) i c.loop-edge.invariant.added
          (from_edge_at Q c.slots.result.now c.edges-edge-items.result.now c.args.distances.now c.args.level i _ mid new c.slots.ensures.slots c.edges-edge-items.ensures.edges c.loop-edge-test.true c.in_ok-push_along.ensures.added);
      rise = c.in_ok-push_along.ensures.rise;
    }

pub returns-clause-added : goal.returns-clause-added
returns-clause-added c =
    from_edges c.args.pattern.now c.args.distances.now c.args.level c.loop-edge.edge-index c.args.legs.now.items c.loop-edge.legs.items
    (let long = ap length c.edges-edge-items.ensures.edges in omega arith) c.loop-edge.invariant.added
