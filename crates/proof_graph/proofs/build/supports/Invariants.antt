use Rattle.std.proofs.Common.{◌≡◌, ◌++◌, drop, map}
use Rattle.proof_file.specs.Tells.{entities_from, supported_slots}
use Rattle.proof_graph.specs.Built.{built_support}
use Rattle.proof_graph.proofs.build.supports.Given as goal

abbrev pub invariant-loop-at : goal.invariant-loop-at
invariant-loop-at l =
    l.supports.items ++ map (built_support l.ways l.entry) (entities_from l.at (drop l.at l.slots)) ≡ map (built_support l.ways l.entry) (supported_slots l.slots)
