use Rattle.std.proofs.Common.{◌≡◌, ◌++◌, length, All}
use Rattle.chase_laws.specs.Joined.{links}
use Rattle.term_text.specs.Appending.{BeginsWith}
use Rattle.proof_graph.specs.Way.{way}
use Rattle.proof_graph.specs.Parts.{parts_places, IsWayPart, work_left}
use Rattle.proof_graph.proofs.parts.put_way.Given as goal

abbrev pub invariant-loop-part : goal.invariant-loop-part
invariant-loop-part l = record {
  each : All (IsWayPart (links l.journal) (length l.nodes)) l.parts.items;
  whole : l.places.items ++ parts_places (links l.journal) (length l.journal) l.parts.items ≡ l.initial.places.items ++ way (links l.journal) (length l.journal) l.from l.to;
  kept : BeginsWith l.initial.places.items l.places.items;
}

abbrev pub decreases-loop-part : goal.decreases-loop-part
decreases-loop-part l = work_left (links l.journal) (length l.journal) l.parts.items
