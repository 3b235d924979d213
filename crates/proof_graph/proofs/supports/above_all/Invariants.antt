use Rattle.std.proofs.Common.{◌<◌, All, take}
use Rattle.chase_laws.specs.declared.entry.Entry.{Entry}
use Rattle.proof_graph.proofs.supports.above_all.Given as goal

abbrev pub invariant-loop-entry : goal.invariant-loop-entry
invariant-loop-entry l = (l.a < l.above) × (l.b < l.above) × All (λ (e : Entry). (e.a < l.above) × (e.b < l.above)) (take l.entry-index l.journal)
