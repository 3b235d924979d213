-- The shelf in memory that never fails.
use Rattle.std.specs.Prelude.{List, ℕ, Option}

-- The shelf as contracts see it: its files, what is unread of the one found last, and the name looked for last
-- (this project's own).
pub record SureShelf : Type 0 where
  pub files : List (List ℕ × List ℕ)
  pub rest : List ℕ
  pub asked : Option (List ℕ)
