-- The shelf over the system's files.
use Rattle.std.specs.Prelude.{List, ℕ, Bool, Option}

-- The shelf as contracts see it: whether a file was found, what is unread of it where the runtime tells that, the
-- name looked for last, whether the last find or a read after it failed, and how many failures there were
-- (this project's own).
pub record DirShelf : Type 0 where
  pub found : Bool
  pub rest : Option (List ℕ)
  pub asked : Option (List ℕ)
  pub bad : Bool
  pub faults : ℕ
