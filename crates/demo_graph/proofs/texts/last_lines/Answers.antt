use Rattle.std.proofs.Common.{◌∙◌, arith}
use Rattle.demo_graph.proofs.LineLemmas.{lines_of_zero, lines_of_next}
use Rattle.demo_graph.proofs.texts.last_lines.Goals as goal

pub returns-in_ok-format-in-None : goal.returns-in_ok-format-in-None
returns-in_ok-format-in-None c = c.in_ok-format-in-None.ensures.ok ∙ lines_of_zero c.args.number (omega (arith, c.in-None.ensures))

pub returns-in_ok-format-in-Some : goal.returns-in_ok-format-in-Some
returns-in_ok-format-in-Some c =
    c.in_ok-format-in-Some.ensures.ok ∙ lines_of_next c.args.number c.in-Some.before (omega (arith, c.in-Some.ensures.0, c.in-Some.ensures.1))
