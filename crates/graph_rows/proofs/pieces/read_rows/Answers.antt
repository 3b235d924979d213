use Rattle.graph_rows.proofs.FeedingLemmas.{gives_rows}
use Rattle.graph_rows.proofs.pieces.read_rows.Goals as goal

pub returns-clause-gives : goal.returns-clause-gives
returns-clause-gives g c =
    gives_rows g.S.Shelf c.args.shelf.now c.read_behind.new.shelf c.args.limits.now c.args.name.now c.new-rows.result c.read_behind.new.rows
    c.new-rows.ensures c.in_ok-read_behind.ensures.reads
