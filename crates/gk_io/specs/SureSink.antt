-- The sink in memory that never fails.
use Rattle.std.specs.Prelude.{List, ℕ, Bool}

-- The sink as contracts see it: what it kept, the most that it keeps, and whether it was handed more than that
-- (this project's own).
pub record SureSink : Type 0 where
  pub kept : List ℕ
  pub room : ℕ
  pub overflowed : Bool
