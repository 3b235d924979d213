use Rattle.typed_graph.proofs.Made.{table_is, table_exact}
use Rattle.typed_graph.proofs.index.Index.from_sorted.Goals as goal

pub invariant_of-result : goal.invariant_of-result
invariant_of-result c = rw (c.in_ok-middles.ensures, c.in_ok-lasts.ensures) (table_is c.args.rows.now c.args.names c.in_ok-starts.starts.items c.requires.rise c.in_ok-starts.ensures)

pub returns : goal.returns
returns c = rw (c.in_ok-middles.ensures, c.in_ok-lasts.ensures) (table_exact c.args.rows.now c.args.names c.in_ok-starts.starts.items c.requires.rise c.in_ok-starts.ensures c.requires.named)
