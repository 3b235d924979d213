use Rattle.std.proofs.Common.{◌≡◌}
use Rattle.demo_graph.specs.DemoTexts.{demo_graph_text}
use Rattle.demo_graph.proofs.texts.demo_texts.Given as goal

abbrev pub invariant-loop-number : goal.invariant-loop-number
invariant-loop-number l = l.graph.items ≡ demo_graph_text l.number
