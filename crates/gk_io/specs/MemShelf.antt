-- The shelf in memory that fails when it is told to.
use Rattle.std.specs.Prelude.{List, ℕ, Bool, Option}

-- The shelf as contracts see it: its files, what is unread of the one found last, the name looked for last, whether
-- that failed, the most that one read gives, the numbers of the calls that fail, and how many calls and failures
-- there were (this project's own).
pub record MemShelf : Type 0 where
  pub files : List (List ℕ × List ℕ)
  pub rest : List ℕ
  pub asked : Option (List ℕ)
  pub bad : Bool
  pub most : ℕ
  pub fail : List ℕ
  pub calls : ℕ
  pub faults : ℕ
