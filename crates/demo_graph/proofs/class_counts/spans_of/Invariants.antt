use Rattle.std.proofs.Common.{ℕ, nat_eq}
use Rattle.std.specs.HashMap.{get}
use Rattle.demo_graph.specs.Spans.{IsNoted}
use Rattle.demo_graph.proofs.class_counts.spans_of.Given as goal

abbrev pub invariant-loop-place : goal.invariant-loop-place
invariant-loop-place l = (label : ℕ) → IsNoted l.labels l.place label (get nat_eq l.spans label)
