-- The rows in order can be made a table.
use Rattle.typed_graph.proofs.Order.{firsts_named, rows_rise}
use Rattle.typed_graph.proofs.orders.index_forward.Goals as goal

pub from_sorted-requires-clause-rise : goal.from_sorted-requires-clause-rise
from_sorted-requires-clause-rise c = rw c.deref.ensures.value (rows_rise c.args.rows.items c.requires.three c.requires.ascending)

pub from_sorted-requires-clause-named : goal.from_sorted-requires-clause-named
from_sorted-requires-clause-named c = rw c.deref.ensures.value (firsts_named c.args.rows.items c.args.names c.requires.three c.requires.named)

pub returns-clause-forward : goal.returns-clause-forward
returns-clause-forward c = λ n p m. rw c.deref.ensures.value at (c.in_ok-forward.ensures n p m)
