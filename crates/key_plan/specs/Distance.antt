-- How far a slot of a pattern is from slot 0.
use Rattle.std.specs.Prelude.{List, ℕ, IsTrue, length, slice_index, ◌≡◌, ◌<◌, ◌≤◌}
use Rattle.chase_laws.specs.Shape.{Shape, reached}

-- the undirected distance of slot s from slot 0: the fewest edges of a walk ("Keys for Graphs", section 4.1)
pub record IsDistance (Q : Shape) (s d : ℕ) : Type 0 where
  pub within : IsTrue (reached Q d s)
  pub least : (n : ℕ) → IsTrue (reached Q n s) → d ≤ n

-- the distance of each slot
pub record AreDistances (Q : Shape) (distances : List ℕ) : Type 0 where
  pub one_each : length distances ≡ length Q.slots
  pub each : (s : ℕ) → s < length Q.slots → IsDistance Q s (slice_index distances s)
