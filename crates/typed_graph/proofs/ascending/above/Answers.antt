use Rattle.std.proofs.lemmas.Map.Keys.{non_decreasing_from_sorted, sorted_from_strictly_increasing}
use Rattle.typed_graph.proofs.Blocks.{above_exact}
use Rattle.typed_graph.proofs.ascending.above.Goals as goal

pub upper-requires : goal.upper-requires
upper-requires c = non_decreasing_from_sorted c.args.xs.now (sorted_from_strictly_increasing c.args.xs.now c.requires)

pub returns-clause-exact : goal.returns-clause-exact
returns-clause-exact c = rw c.cut.ensures (above_exact c.args.xs.now c.args.x c.upper.result c.upper.ensures.within c.upper.ensures.below c.upper.ensures.above)
