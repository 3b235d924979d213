-- What a sink took, where it tells it.
use Rattle.std.specs.Prelude.{List, ℕ, ◌≡◌, ◌++◌, ◌<◌, Option, IfSome, IsSomeAnd, length, take}

-- Where a sink tells its bytes afterwards, it told them before, and these came to their end
-- (this project's own). It goes from after to before, since a sink may stop telling.
abbrev pub Appends : Option (List ℕ) → Option (List ℕ) → List ℕ → Type 0
Appends before after bytes = IfSome after (λ now. IsSomeAnd before (λ then. now ≡ then ++ bytes))

-- The same of a front of these bytes that is not the whole (this project's own).
abbrev pub AppendsLess : Option (List ℕ) → Option (List ℕ) → List ℕ → Type 0
AppendsLess before after bytes = (n : ℕ) × (n < length bytes) × Appends before after (take n bytes)
