-- Pairs that are set aside, one after another, until all that an entry wakes are together (this project's own).
use Rattle.std.specs.Prelude.{List, ◌++◌, ℕ, Some, All, AllPairs, Contains, length, slice_get, slice_index, ◌≡◌, ◌≢◌, ◌<◌, ◌≤◌, ◌↔◌, ◌⊎◌}
use Rattle.chase_laws.specs.declared.pair_state.PairState.{PairState}
use Rattle.chase_laws.specs.declared.pair_state.PairState.TheVariants as state
use Rattle.chase_laws.specs.Core.{name_count, set_each}
use Rattle.list_pool.specs.Pool.{list_at}
use Rattle.chase_core.specs.Setup.{Preparation}
use Rattle.chase_core.specs.Table.{Standings}

-- the two ends of a pair, in either order
abbrev pub HasEnds : List (ℕ × ℕ) → ℕ → ℕ → ℕ → Type 0
HasEnds pairs q e o = (slice_get pairs q ≡ Some (e, o)) ⊎ (slice_get pairs q ≡ Some (o, e))

-- an end looks at a label: a name near to the end has it
abbrev pub LooksAt : Preparation → List ℕ → ℕ → ℕ → Type 0
LooksAt S labels e l = (n : ℕ) × Contains (list_at S.near.near e) n × (slice_index labels n ≡ l)

-- one end of a pair is e, and the other looks at a label
abbrev pub LooksFrom : Preparation → List ℕ → ℕ → ℕ → ℕ → Type 0
LooksFrom S labels l q e = (o : ℕ) × HasEnds S.task.pairs q e o × LooksAt S labels o l

-- a name is near to one end of a pair, and the other end looks at a label
abbrev pub LooksPast : Preparation → List ℕ → ℕ → ℕ → ℕ → Type 0
LooksPast S labels l q n = (e : ℕ) × (e < name_count S.task) × Contains (list_at S.near.near e) n × LooksFrom S labels l q e

-- one end of a pair looks at the one label, and the other end at the other
abbrev pub LooksAcross : Preparation → List ℕ → ℕ → ℕ → ℕ → Type 0
LooksAcross S labels k l q = (e o : ℕ) × HasEnds S.task.pairs q e o × LooksAt S labels e k × LooksAt S labels o l

-- the Missed pairs with a property were set aside as Flying, each once, at the end of a list
pub record SetsAside (P : ℕ → Type 0) (old new : Standings) (before after : List ℕ) : Type 0 where
  pub more : List ℕ
  pub list : after ≡ before ++ more
  pub states : new.states ≡ set_each old.states more state.Flying
  pub ready : new.ready ≡ old.ready
  pub exact : (q : ℕ) → Contains more q ↔ ((slice_get old.states q ≡ Some state.Missed) × P q)
  pub once : AllPairs (λ m n. m ≢ n) more

-- pairs that were set aside so far, and room for all that may follow
pub record AreAside (states : List PairState) (aside : List ℕ) (capacity : ℕ) : Type 0 where
  pub once : AllPairs (λ m n. m ≢ n) aside
  pub flying : All (λ q. slice_get states q ≡ Some state.Flying) aside
  pub room : length states ≤ capacity
