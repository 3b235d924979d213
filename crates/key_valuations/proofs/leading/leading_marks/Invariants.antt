use Rattle.std.proofs.Common.{List, ℕ, ◌≡◌, length}
use Rattle.chase_laws.specs.Graph.{NumberedGraph}
use Rattle.key_valuations.specs.Marks.{AreMarkedBySlots}
use Rattle.key_valuations.specs.Leading.{leading_values}
use Rattle.key_valuations.proofs.leading.leading_marks.Given as goal

abbrev pub invariant-loop-at : goal.invariant-loop-at
invariant-loop-at l = record {
  long : length l.marks ≡ 16;
  marked : (G : NumberedGraph) (v : List ℕ) → leading_values G l.leading v ≡ l.values → AreMarkedBySlots G l.pattern l.plan.place l.marks v;
}
