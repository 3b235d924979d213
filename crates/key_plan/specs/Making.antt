-- Steps of making a plan (this project's own).
use Rattle.std.specs.Prelude.{List, ℕ, Bool, true, false, Option, Some, None, AllPairs, Contains, length, filter, slice_index, slice_index_or, ◌≡◌, ◌≢◌, ◌<◌, ◌≤◌, ◌↔◌, ◌==◌, ◌&&◌, ◌||◌, ◌++◌, nat_lt}
use Rattle.std.specs.List.{list_any}
use Rattle.chase_laws.specs.declared.pattern.Edge.{Edge}
use Rattle.chase_laws.specs.Shape.{Shape, touches}
use Rattle.key_plan.specs.Order.{ComesFirst, IsBesideFirst, IsNoneOfFirst}

-- a list of distances in which each slot without a mark has got this one
pub record AreRaised (marks : List Bool) (distance : ℕ) (old new : List ℕ) : Type 0 where
  pub one_each : length new ≡ length old
  pub marked : (s : ℕ) → slice_index_or marks s false ≡ true → slice_index new s ≡ slice_index old s
  pub others : (s : ℕ) → s < length marks → slice_index_or marks s false ≡ false → slice_index new s ≡ distance

-- the least number that none of the distances is above
pub record IsGreatest (distances : List ℕ) (most : ℕ) : Type 0 where
  pub within : (s : ℕ) → s < length distances → slice_index distances s ≤ most
  pub least : (n : ℕ) → ((s : ℕ) → s < length distances → slice_index distances s ≤ n) → most ≤ n

-- a slot that no mark is at and that an edge joins with a marked one
pub record IsOpen (Q : Shape) (marks : List Bool) (s : ℕ) : Type 0 where
  pub within : s < length Q.slots
  pub unmarked : slice_index_or marks s false ≡ false
  pub joined : list_any (touches marks s) Q.edges ≡ true

-- of the slots below n that are open, the one that comes first, or none where there is none
abbrev pub IsFirstBelow : Shape → List Bool → ℕ → Option ℕ → Type 0
IsFirstBelow Q marks n (Some s) = IsOpen Q marks s × (s < n) × ((t : ℕ) → t < n → IsOpen Q marks t → ComesFirst Q s t)
IsFirstBelow Q marks n None = (t : ℕ) → t < n → ¬ (IsOpen Q marks t)

-- slots in the order of a search, up to where it has come, with a mark at each
pub record IsBegun (Q : Shape) (marks : List Bool) (order : List ℕ) : Type 0 where
  pub one_each : length marks ≡ length Q.slots
  pub marked : (s : ℕ) → Contains order s ↔ (slice_index_or marks s false ≡ true)
  pub different : AllPairs (λ s t. s ≢ t) order
  pub some : 0 < length order
  pub first : slice_index order 0 ≡ 0
  pub joined : (k : ℕ) → k < length order → k ≢ 0 → IsBesideFirst Q order k (slice_index order k)
  pub least : (k : ℕ) → k < length order → k ≢ 0 → (s : ℕ) → s < length Q.slots → IsNoneOfFirst order k s → IsBesideFirst Q order k s → ComesFirst Q (slice_index order k) s

-- at most 16 numbers: each one below their count, once
pub record IsListing (order : List ℕ) : Type 0 where
  pub few : length order ≤ 16
  pub every : (s : ℕ) → Contains order s ↔ (s < length order)
  pub different : AllPairs (λ s t. s ≢ t) order

-- an edge from this place to an earlier one, or the other way round
abbrev pub is_proper : ℕ → Edge → Bool
is_proper s e = (e.from == s && nat_lt e.to s) || (nat_lt e.from s && e.to == s)

-- an edge from this place to itself
abbrev pub is_loop : ℕ → Edge → Bool
is_loop s e = e.from == s && e.to == s

-- the edges that a place adds: those to and from earlier places, and then the loops
abbrev pub block_of : List Edge → ℕ → List Edge
block_of edges s = filter (is_proper s) edges ++ filter (is_loop s) edges
