use Rattle.typed_graph.specs.Types.{AreTypes}
use Rattle.typed_graph.proofs.types.types_of_all.Given as goal

abbrev pub invariant-loop-n : goal.invariant-loop-n
invariant-loop-n l = AreTypes l.forward l.rdf_type l.n l.types.items
