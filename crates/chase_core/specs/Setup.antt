-- What a chase works on, prepared (this project's own).
use Rattle.std.specs.Prelude.{List, ℕ, Some, All, Any, length, min, slice_get, ◌≡◌, ◌≤◌, ◌+◌, ◌⊎◌}
use Rattle.chase_laws.specs.Shape.{Shape}
use Rattle.chase_laws.specs.Graph.{NumberedGraph}
use Rattle.chase_laws.specs.Core.{Task, name_count}
use Rattle.key_plan.specs.Route.{Route}
use Rattle.list_pool.specs.Pool.{list_at}
use Rattle.near_lists.specs.Neighbourhoods.{Neighbourhoods}
use Rattle.paired_search.specs.declared.key_range.KeyRange.{KeyRange}
use Rattle.paired_search.specs.KeyRange.{AreIdleOutside}

-- a task, the plan of each key, what is near to each name, and a room that suffices for the view of any pair
pub record Preparation : Type 0 where
  pub task : Task
  pub plans : List Route
  pub near : Neighbourhoods
  pub widest : ℕ

-- how many names are near to the ends of a pair, those near to both counted twice
abbrev pub near_count : List (List ℕ) → ℕ × ℕ → ℕ
near_count near p = length (list_at near p.0) + length (list_at near p.1)

-- the greatest of the counts of these pairs, and 0 without pairs
pub record IsMost (near : List (List ℕ)) (pairs : List (ℕ × ℕ)) (most : ℕ) : Type 0 where
  pub bounds : All (λ p. near_count near p ≤ most) pairs
  pub reached : (most ≡ 0) ⊎ Any (λ p. near_count near p ≡ most) pairs

-- that greatest count, or the number of names where that is less
pub record IsWidest (S : Preparation) : Type 0 where
  pub most : ℕ
  pub is_most : IsMost S.near.near S.task.pairs most
  pub least : S.widest ≡ min most (name_count S.task)

-- Ranges of keys for pairs, by the pairs' places: each key outside of a pair's range is idle at it. A pair without a range may
-- be identified by any key.
abbrev pub AreRangesFor : NumberedGraph → List Shape → List (ℕ × ℕ) → List KeyRange → Type 0
AreRangesFor G K pairs ranges =
    (p : ℕ) (pair : ℕ × ℕ) (range : KeyRange) → slice_get pairs p ≡ Some pair → slice_get ranges p ≡ Some range →
    AreIdleOutside G K range pair.0 pair.1
