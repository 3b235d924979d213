use Rattle.std.proofs.Common.{rules}
use Rattle.label_board.proofs.Keeps.{meets}
use Rattle.label_board.proofs.steps.load_count.Goals as goal

pub load-requires : goal.load-requires
load-requires c = (search rules, search rules, meets _ _ _ _ c.requires.scribe)
