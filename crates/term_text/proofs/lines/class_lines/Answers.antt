use Rattle.term_text.proofs.LineSteps.{lines_of_all}
use Rattle.term_text.proofs.lines.class_lines.Goals as goal

pub returns : goal.returns
returns g c = lines_of_all c.args.members.now _ c.in_ok-lines.ensures
