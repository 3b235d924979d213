use Rattle.label_board.proofs.ReadView.{label_shown}
use Rattle.label_board.proofs.meet.law_fresh.Goals as goal

pub returns : goal.returns
returns c = λ S view all n l h. label_shown S.labels view all n l h
