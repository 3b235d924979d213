-- What a list of woken pairs holds (this project's own).
use Rattle.std.specs.Prelude.{List, ℕ}

-- numbers of pairs, and for how many there is room
pub record Noted : Type 0 where
  pub list : List ℕ
  pub room : ℕ
