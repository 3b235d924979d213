use Rattle.std.proofs.Common.{rules}
use Rattle.label_board.proofs.Keeps.{writes}
use Rattle.label_board.proofs.steps.write_label.Goals as goal

pub store-requires : goal.store-requires
store-requires c = (search rules, search rules, writes _ _ _ _ _ _ c.requires.scribe.0 c.requires.scribe.1 (search rules) c.requires.scribe.2 c.requires.posting)
