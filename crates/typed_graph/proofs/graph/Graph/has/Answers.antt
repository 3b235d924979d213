use Rattle.typed_graph.proofs.Order.{chain}
use Rattle.typed_graph.proofs.graph.Graph.has.Goals as goal

pub returns-then-count : goal.returns-then-count
returns-then-count c = chain _ _ _ c.holds.ensures (c.outgoing.ensures.exact c.args.o)

pub returns-else-count : goal.returns-else-count
returns-else-count c = chain _ _ _ c.holds-else-count.ensures (c.incoming.ensures.exact c.args.s)
