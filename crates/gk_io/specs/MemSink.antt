-- The sink in memory that fails when it is told to.
use Rattle.std.specs.Prelude.{List, ℕ}

-- The sink as contracts see it: what it took, the most that it takes in all and in one call, the numbers of the
-- calls that fail, and how many calls and failures there were (this project's own).
pub record MemSink : Type 0 where
  pub taken : List ℕ
  pub room : ℕ
  pub most : ℕ
  pub fail : List ℕ
  pub calls : ℕ
  pub faults : ℕ
