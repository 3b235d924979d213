use Rattle.std.proofs.Common.{◌<◌, ◌≤◌, ℕ, Some, slice_get, ◌≡◌}
use Rattle.chase_laws.specs.Shape.{Shape}
use Rattle.chase_laws.specs.Candidate.{IsCandidateUnder}
use Rattle.pair_seed.specs.Bounds.{AreAtMost}
use Rattle.pair_seed.proofs.bound.above_by_keys.Given as goal

abbrev pub invariant-loop-pattern : goal.invariant-loop-pattern
invariant-loop-pattern l = record {
  few : l.all ≤ l.room;
  most : AreAtMost (λ b. (key : ℕ) × (Q : Shape) × (key < l.pattern-index) × (slice_get l.patterns key ≡ Some Q) × (l.a < b) × IsCandidateUnder l.graph Q l.a b) l.all;
}
