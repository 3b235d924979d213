-- The sink over a writer of std.
use Rattle.std.specs.Prelude.{List, ℕ, Option}

-- The sink as contracts see it: what its writer holds, where the writer tells it, and how many failures there were
-- (this project's own).
pub record OutSink : Type 0 where
  pub contents : Option (List ℕ)
  pub faults : ℕ
