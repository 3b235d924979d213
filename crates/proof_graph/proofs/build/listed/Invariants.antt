use Rattle.std.proofs.Common.{◌≡◌, take}
use Rattle.proof_graph.proofs.build.listed.Given as goal

abbrev pub invariant-loop-at : goal.invariant-loop-at
invariant-loop-at l = l.names.items ≡ take l.at l.side
