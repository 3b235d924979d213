use Rattle.std.proofs.Common.{◌∙◌}
use Rattle.demo_graph.proofs.LineLemmas.{lines_of_type}
use Rattle.demo_graph.proofs.texts.type_lines.Goals as goal

pub returns : goal.returns
returns c = c.in_ok-format.ensures.ok ∙ lines_of_type c.args.number
