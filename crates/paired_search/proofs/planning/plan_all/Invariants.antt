use Rattle.std.proofs.Common.{ℕ, Some, ◌≡◌, length, slice_get}
use Rattle.chase_laws.specs.Shape.{Shape}
use Rattle.key_plan.specs.Route.{Route, IsPlanOf}
use Rattle.paired_search.proofs.planning.plan_all.Given as goal

abbrev pub invariant-loop-pattern : goal.invariant-loop-pattern
invariant-loop-pattern l = record {
  as_many : length l.list.items ≡ l.pattern-index;
  each : (k : ℕ) (Q : Shape) (P : Route) → slice_get l.patterns k ≡ Some Q → slice_get l.list.items k ≡ Some P → IsPlanOf Q P;
}
