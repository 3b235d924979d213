use Rattle.std.proofs.Common.{rules}
use Rattle.label_board.proofs.Keeps.{opens}
use Rattle.label_board.proofs.handles.Board.new.Goals as goal

pub of_words-requires : goal.of_words-requires
of_words-requires c = opens _ _ _ _ (search rules) (search rules)
