-- The rule of a deque of hints, and what each kind of step on it tells.
use Rattle.std.specs.Prelude.{◌≡◌, ℕ, ◌+◌, ◌<◌, ◌⊎◌, List, [], ◌∷◌, Some, None}
use mathlib.Core.Option.{some}
use lib.ListN.{get_elem?}
use Rattle.steal_pool.specs.declared.hint_rule.Bound.{Bound}

-- no bound is known
abbrev pub unbounded : Bound
unbounded = record { below = None }

-- each number is below n
abbrev pub bounded_by : ℕ → Bound
bounded_by n = record { below = Some n }

abbrev pub AllBelow : ℕ → List ℕ → Type 0
AllBelow n [] = Unit {0}
AllBelow n (x ∷ xs) = (x < n) × AllBelow n xs

-- the owner is alone and knows no bound, and the deque is empty; or every view has one bound, and each number is below it
abbrev pub IsHintDeque : List ℕ → List Bound → Type 0
IsHintDeque items views = ((views ≡ unbounded ∷ []) × (items ≡ [])) ⊎ ((n : ℕ) × AllBelow n items × ((j : ℕ) (v : Bound) → get_elem? views j ≡ some v → v ≡ bounded_by n))

-- one number was pushed, and is the greatest below the bound
abbrev pub LearnsBound : Bound → List ℕ → Bound → Type 0
LearnsBound v xs w = (x : ℕ) × (xs ≡ x ∷ []) × (w ≡ bounded_by (x + 1))

-- numbers moved that are below the bound, which stays
abbrev pub MovesWithin : Bound → List ℕ → Bound → Type 0
MovesWithin v xs w = (w ≡ v) × ((n : ℕ) → v ≡ bounded_by n → AllBelow n xs)

-- the bound is 0, whatever was known
abbrev pub bounded_by_zero : Bound → Bound
bounded_by_zero v = bounded_by 0
