-- A queue of groups as contracts see it (this project's own).
use Rattle.std.specs.Prelude.{List, ℕ}

-- the numbers of the groups that wait, in order, and how many groups there are
pub record Waiting : Type 0 where
  pub list : List ℕ
  pub count : ℕ
