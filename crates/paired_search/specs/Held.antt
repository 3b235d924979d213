-- What a view holds (this project's own).
use Rattle.std.specs.Prelude.{List, ℕ, AllPairs, ◌<◌}

-- names with their labels, and for how many there is room
pub record Held : Type 0 where
  pub pairs : List (ℕ × ℕ)
  pub room : ℕ

-- the names ascend
abbrev pub Ascends : List (ℕ × ℕ) → Type 0
Ascends pairs = AllPairs (λ p q. p.0 < q.0) pairs
