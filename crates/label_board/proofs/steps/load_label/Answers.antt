use Rattle.std.proofs.Common.{rules}
use Rattle.label_board.proofs.Keeps.{loads}
use Rattle.label_board.proofs.steps.load_label.Goals as goal

pub load-requires : goal.load-requires
load-requires c = (search rules, search rules, loads _ _ _ _ _ c.requires.name)
