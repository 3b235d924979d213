-- What never changes of a shared chase, and what was there before.
use Rattle.std.specs.Prelude.{List, ℕ, length, ◌≡◌, ◌++◌}
use Rattle.chase_laws.specs.declared.entry.Entry.{Entry}
use Rattle.atomic_table.specs.Seated.{TableId}
use Rattle.chase_laws.specs.Core.{name_count}
use Rattle.chase_core.specs.Setup.{Preparation}
use Rattle.label_board.specs.Seen.{SeenBoard}

-- the setup, and the board of labels
abbrev pub Base : Type 0
Base = Preparation × SeenBoard

-- the board at a table, over the names of a setup
abbrev pub board_over : Preparation → TableId → SeenBoard
board_over S id = record { id = id; names = name_count S.task }

-- a setup, and the board at a table over its names
abbrev pub base_with : Preparation → TableId → Base
base_with S id = (S, board_over S id)

-- how many pairs the setup has
abbrev pub pair_count : Base → ℕ
pair_count B = length B.0.task.pairs

-- the room that a view needs
abbrev pub widest_of : Base → ℕ
widest_of B = B.0.widest

-- the board
abbrev pub board_of : Base → SeenBoard
board_of B = B.1

-- the entries that were there when a watcher last stood even are this many, and those that were seen begin with them
abbrev pub IsSince : List Entry → List Entry → ℕ → Type 0
IsSince seen since count = ((more : List Entry) × (seen ≡ since ++ more)) × (length since ≡ count)
