use Rattle.std.proofs.Common.{◌≡◌, ◌≤◌, ◌++◌, drop}
use Rattle.why_pair.specs.Relinked.{places_from}
use Rattle.why_pair.proofs.keeping.places_kept.Given as goal

abbrev pub invariant-loop-marked : goal.invariant-loop-marked
invariant-loop-marked l = record {
  few : l.next ≤ l.marked-index;
  whole : l.places.items ++ places_from l.next (drop l.marked-index l.marks) ≡ places_from 0 l.marks;
}
