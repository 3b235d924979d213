-- Lists turned round: for each number the places of the lists that have it. All of this is this project's own.
use Rattle.std.specs.Prelude.{List, [], ◌∷◌, ◌++◌, ℕ, zero, suc, length, replicate}
use Rattle.list_pool.specs.Pool.{list_at}
use Rattle.list_pool.specs.Counts.{times}

-- each pair as a list of its two numbers
abbrev pub ends_of : ℕ × ℕ → List ℕ
ends_of p = p.0 ∷ p.1 ∷ []

-- the places, below a place, of the lists that have a number, ascending, each as often as its list has it
abbrev pub owners_below : List (List ℕ) → ℕ → ℕ → List ℕ
owners_below lists n zero = []
owners_below lists n (suc e) = owners_below lists n e ++ replicate (times (list_at lists e) n) e

-- the places of all lists that have a number
abbrev pub owners_of : List (List ℕ) → ℕ → List ℕ
owners_of lists n = owners_below lists n (length lists)
