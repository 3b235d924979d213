-- One name more.
use Rattle.typed_graph.proofs.KeptTypes.{types_push}
use Rattle.typed_graph.proofs.types.types_of_all.Goals as goal

pub loop-n-preserved : goal.loop-n-preserved
loop-n-preserved c = rw c.in_ok-push.ensures.items (types_push c.args.forward.now c.args.rdf_type c.loop-n.n c.loop-n.types.items c.of.result c.loop-n.invariant c.of.ensures)
