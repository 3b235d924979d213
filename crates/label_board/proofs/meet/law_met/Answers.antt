use Rattle.label_board.proofs.ReadView.{label_joined}
use Rattle.label_board.proofs.meet.law_met.Goals as goal

pub returns : goal.returns
returns c = λ entries view all m n h. c.law_view.ensures entries view (label_joined entries view all) m n h
