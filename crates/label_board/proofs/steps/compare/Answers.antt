use Rattle.std.proofs.Common.{rules}
use Rattle.label_board.proofs.Keeps.{splits, joins}
use Rattle.label_board.proofs.steps.compare.Goals as goal

pub split_seat-note-requires : goal.split_seat-note-requires
split_seat-note-requires c = (search rules, search rules, splits _ _ _)

pub join_seat-requires : goal.join_seat-requires
join_seat-requires c = (search rules, search rules, search rules, search rules, joins _ _ _ _ _)
