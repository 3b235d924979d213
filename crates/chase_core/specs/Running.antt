-- A chase as contracts see it (this project's own).
use Rattle.std.specs.Prelude.{ℕ, length, min, ◌≡◌, ◌≤◌, ◌-◌}
use Rattle.class_book.specs.Classes.{Classes}
use Rattle.chase_laws.specs.Core.{Task, IsTask, State, name_count, IsSound}
use Rattle.chase_core.specs.Setup.{Preparation}
use Rattle.chase_core.specs.Table.{Standings, IsReadyList}

-- what it works on, the classes with the journal, and where the pairs stand with the Ready list
pub record Running : Type 0 where
  pub setup : Preparation
  pub book : Classes
  pub table : Standings

-- the state of the core that a book and a table make
abbrev pub state_of : Classes → Standings → State
state_of book table = record { journal = book.journal; labels = book.labels; pairs = table.states }

-- the state of the core that a chase is in
abbrev pub state_in : Running → State
state_in C = state_of C.book C.table

-- the chase that its parts make
abbrev pub running_with : Preparation → Classes → Standings → Running
running_with setup book table = record { setup = setup; book = book; table = table }

-- for how many identifications there is room: no journal can be longer
abbrev pub journal_room : Task → ℕ
journal_room T = min (length T.pairs) (name_count T - 1)

-- what holds of each chase: its state is sound, its Ready list has each pair that is Ready once, and no other, and its
-- journal is no longer than its room
pub record IsRunning (C : Running) : Type 0 where
  pub task : IsTask C.setup.task
  pub sound : IsSound C.setup.task (state_in C)
  pub ready : IsReadyList C.table.states C.table.ready
  pub room : C.book.room ≡ journal_room C.setup.task
  pub within : length C.book.journal ≤ C.book.room
