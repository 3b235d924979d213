-- Numbers in threes: this project's own word.
use Rattle.std.specs.Prelude.{ℕ, List, [], ◌∷◌}

-- numbers in threes, each a row; one or two that are left over make none
abbrev pub in_threes : List ℕ → List (List ℕ)
in_threes (s ∷ p ∷ o ∷ rest) = (s ∷ p ∷ o ∷ []) ∷ in_threes rest
in_threes rest = []
