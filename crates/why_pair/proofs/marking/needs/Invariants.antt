use Rattle.std.proofs.Common.{◌≡◌, ◌++◌, drop}
use Rattle.std.specs.List.{flat_map}
use Rattle.proof_file.specs.Tells.{entities_from}
use Rattle.why_pair.specs.Needed.{way_at, needs_of}
use Rattle.why_pair.proofs.marking.needs.Given as goal

abbrev pub invariant-loop-at : goal.invariant-loop-at
invariant-loop-at l =
    l.places.items ++ flat_map (way_at l.ways l.entry) (entities_from l.at (drop l.at l.slots)) ≡ needs_of l.ways l.slots l.entry
