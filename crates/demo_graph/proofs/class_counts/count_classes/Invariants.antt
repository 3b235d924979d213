use Rattle.std.proofs.Common.{◌≤◌}
use Rattle.demo_graph.specs.Counts.{SharesItsLabel, LeadsItsClass}
use Rattle.demo_graph.proofs.PlaceLemmas.{IsCountTo}
use Rattle.demo_graph.proofs.class_counts.count_classes.Given as goal

abbrev pub invariant-loop-place : goal.invariant-loop-place
invariant-loop-place l = record {
  members : IsCountTo (SharesItsLabel l.labels) l.place l.members;
  classes : IsCountTo (LeadsItsClass l.labels) l.place l.classes;
  few_members : l.members ≤ l.place;
  few_classes : l.classes ≤ l.place;
}
