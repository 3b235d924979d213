-- Where the pairs of a chase stand, and which of them wait for a search, in order (this project's own).
use Rattle.std.specs.Prelude.{List, ℕ, AllPairs, Contains, Some, slice_get, ◌≡◌, ◌≢◌, ◌↔◌}
use Rattle.chase_laws.specs.declared.pair_state.PairState.{PairState}
use Rattle.chase_laws.specs.declared.pair_state.PairState.TheVariants as state

-- where each pair stands, and the Ready list, from whose front pairs are taken
pub record Standings : Type 0 where
  pub states : List PairState
  pub ready : List ℕ

-- a list of each pair that is Ready, once, and no other
pub record IsReadyList (states : List PairState) (ready : List ℕ) : Type 0 where
  pub exact : (p : ℕ) → Contains ready p ↔ (slice_get states p ≡ Some state.Ready)
  pub once : AllPairs (λ m n. m ≢ n) ready
