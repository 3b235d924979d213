-- The plans of patterns.
use Rattle.std.specs.Prelude.{List, ℕ, Some, length, slice_get, ◌≡◌}
use Rattle.chase_laws.specs.Shape.{Shape}
use Rattle.key_plan.specs.Route.{Route, IsPlanOf}

-- as many plans as patterns, and the plan at each place is that of the pattern there
pub record ArePlans (patterns : List Shape) (plans : List Route) : Type 0 where
  pub as_many : length plans ≡ length patterns
  pub each : (k : ℕ) (Q : Shape) (P : Route) → slice_get patterns k ≡ Some Q → slice_get plans k ≡ Some P → IsPlanOf Q P
