-- What the types keep of their fields, and words of the proofs (this project's own).
use Rattle.std.specs.Prelude.{List, ℕ, Contains, length, ◌≡◌, ◌<◌, ◌≤◌, ◌^◌, ◌↔◌}
use Rattle.std.specs.List.Sorted.{IsStrictlyIncreasing}
use Rattle.chase_laws.specs.declared.pair_state.PairState.{PairState}
use Rattle.chase_laws.specs.Candidate.{AreAscending}
use Rattle.chase_laws.specs.Core.{Task, IsTask, IsSound, name_count}
use Rattle.list_pool.specs.Pool.{list_at}
use Rattle.near_lists.specs.Turning.{HasEnd}
use Rattle.paired_search.specs.declared.key_range.KeyRange.{KeyRange}
use Rattle.paired_search.specs.Plans.{ArePlans}
use Rattle.chase_core.specs.Table.{IsReadyList}
use Rattle.near_lists.specs.Neighbourhoods.{AreNearNames}
use Rattle.chase_core.specs.Setup.{Preparation, AreRangesFor, IsWidest}
use Rattle.chase_core.specs.Running.{Running, state_in, journal_room}

-- what a table keeps: a pool with one list, which is the Ready list, and with a cell for each pair
pub record AreStandings (states : List PairState) (lists : List (List ℕ)) (cells : ℕ) : Type 0 where
  pub one_list : length lists ≡ 1
  pub one_cell_each : cells ≡ length states
  pub ready : IsReadyList states (list_at lists 0)

-- what holds of the fields: there is room
pub record IsNoted (list : List ℕ) (room capacity : ℕ) : Type 0 where
  pub within : length list ≤ room
  pub reserved : room ≤ capacity
  pub few : room < 2 ^ 32

-- the lists are the pairs of each name, by their numbers, ascending
pub record AreEnds (T : Task) (lists : List (List ℕ)) : Type 0 where
  pub one_each : length lists ≡ name_count T
  pub ascending : (e : ℕ) → e < name_count T → IsStrictlyIncreasing (list_at lists e)
  pub exact : (e p : ℕ) → e < name_count T → Contains (list_at lists e) p ↔ HasEnd T.pairs p e

-- what each setup keeps
pub record IsPreparation (S : Preparation) (keys : List KeyRange) (ends : List (List ℕ)) : Type 0 where
  pub task : IsTask S.task
  pub ascend : AreAscending S.task.pairs
  pub few_patterns : length S.task.patterns < 2 ^ 32
  pub few_pairs : length S.task.pairs < 2 ^ 32
  pub plans : ArePlans S.task.patterns S.plans
  pub near : AreNearNames S.task.graph S.task.patterns S.near.near
  pub widest : IsWidest S
  pub ranges : AreRangesFor S.task.graph S.task.patterns S.task.pairs keys
  pub by_end : AreEnds S.task ends

-- what a chase keeps besides the Ready list, which its table keeps: this, and room to set all pairs aside
pub record IsKept (C : Running) (capacity : ℕ) : Type 0 where
  pub task : IsTask C.setup.task
  pub sound : IsSound C.setup.task (state_in C)
  pub room : C.book.room ≡ journal_room C.setup.task
  pub within : length C.book.journal ≤ C.book.room
  pub aside : length C.setup.task.pairs ≤ capacity
