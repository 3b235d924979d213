-- What a view keeps beside what contracts see, and a step of its look-up (this project's own).
use Rattle.std.specs.Prelude.{List, ℕ, Bool, All, IsTrue, length, slice_index_or, ◌≡◌, ◌<◌, ◌≤◌, ◌^◌}
use Rattle.paired_search.specs.Held.{Ascends}

-- what holds of a view's fields: the names ascend, there is room, and where it is said that labels are the names' own, they are
pub record IsView (pairs : List (ℕ × ℕ)) (room capacity : ℕ) (own : Bool) : Type 0 where
  pub ascends : Ascends pairs
  pub within : length pairs ≤ room
  pub reserved : room ≤ capacity
  pub few : room < 2 ^ 32
  pub labels : IsTrue own → All (λ p. p.1 ≡ p.0) pairs

-- the names below a number, of a list in which they ascend, are the first ones
pub record IsCountBelow (pairs : List (ℕ × ℕ)) (node count : ℕ) : Type 0 where
  pub within : count ≤ length pairs
  pub below : (k : ℕ) (d : ℕ × ℕ) → k < count → (slice_index_or pairs k d).0 < node
  pub above : (k : ℕ) (d : ℕ × ℕ) → count ≤ k → k < length pairs → node ≤ (slice_index_or pairs k d).0
