-- Where pairs stand while a journal is entered again (this project's own).
use Rattle.std.specs.Prelude.{List, All, ◌≡◌, ◌⊎◌}
use Rattle.chase_laws.specs.declared.pair_state.PairState.{PairState}
use Rattle.chase_laws.specs.declared.pair_state.PairState.TheVariants as state

-- No pair was searched or is handed out: each is to be searched, or its ends are joined.
abbrev pub AreUnsearched : List PairState → Type 0
AreUnsearched states = All (λ s. (s ≡ state.Ready) ⊎ (s ≡ state.Joined)) states
