-- The two tables have the rows.
use Rattle.typed_graph.proofs.Order.{all_named}
use Rattle.typed_graph.proofs.graph.Graph.build_in_threads.Goals as goal

pub assembled-requires-clause-named : goal.assembled-requires-clause-named
assembled-requires-clause-named g c = rw c.requires.flags (all_named _ _ c.args.names c.in_ok-sorted.ensures.same c.requires.named)

pub returns-clause-rows : goal.returns-clause-rows
returns-clause-rows g c = rw c.assembled.ensures.rows c.in_ok-sorted.ensures.same
