-- Bytes that are kept in memory.
use Rattle.std.specs.Prelude.{List, ℕ}

-- Bytes in memory as contracts see them, and the most that are kept (this project's own).
pub record HeldBytes : Type 0 where
  pub kept : List ℕ
  pub room : ℕ
