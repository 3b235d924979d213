use Rattle.std.proofs.Common.{◌∙◌}
use Rattle.demo_graph.proofs.LineLemmas.{lines_of_name}
use Rattle.demo_graph.proofs.texts.name_lines.Goals as goal

pub returns : goal.returns
returns c = c.in_ok-format.ensures.ok ∙ lines_of_name c.args.number
