-- What a search in ascending numbers says.
use Rattle.typed_graph.proofs.Ends.{found_exact}
use Rattle.typed_graph.proofs.ascending.holds.Goals as goal

pub returns-else-xs-le-FEW : goal.returns-else-xs-le-FEW
returns-else-xs-le-FEW c = rw c.is_ok.ensures.value (found_exact c.args.xs.now c.args.x c.binary_search.result c.requires c.binary_search.ensures.position)
