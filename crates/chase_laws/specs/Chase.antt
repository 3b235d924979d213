-- Chase steps, derivations, and what the keys make the same ("Keys for Graphs", section 2.2).
use Rattle.std.specs.Prelude.{List, ℕ, Some, slice_get, take, ◌≡◌, ◌<◌}
use Rattle.chase_laws.specs.declared.entry.Entry.{Entry}
use Rattle.chase_laws.specs.Shape.{Shape}
use Rattle.chase_laws.specs.Graph.{NumberedGraph}
use Rattle.chase_laws.specs.Valuation.{IsMatch, Matches}
use Rattle.chase_laws.specs.Joined.{joined, joined_by, Joined}

-- a chase step from what entries join: the entry's key has its two valuations, and they coincide up to that
pub record IsStep (G : NumberedGraph) (K : List Shape) (H : List Entry) (e : Entry) : Type 0 where
  pub pattern : Shape
  pub key : slice_get K e.key ≡ Some pattern
  pub witness : IsMatch G pattern (joined_by H) e.a e.b e.left e.right

-- a derivation: each entry is a step from the entries before it
abbrev pub IsDerivation : NumberedGraph → List Shape → List Entry → Type 0
IsDerivation G K H = (i : ℕ) (e : Entry) → slice_get H i ≡ Some e → IsStep G K (take i H) e

-- a lean list of entries: none joins what the entries before it join
abbrev pub IsLean : List Entry → Type 0
IsLean H = (i : ℕ) (e : Entry) → slice_get H i ≡ Some e → ¬ (Joined (take i H) e.a e.b)

-- two names are the same: some derivation joins them (the result of the chase)
abbrev pub AreSame : NumberedGraph → List Shape → ℕ → ℕ → Type 0
AreSame G K a b = (H : List Entry) × IsDerivation G K H × Joined H a b

-- no step goes further: what coincides up to what the entries join is joined
abbrev pub IsClosed : NumberedGraph → List Shape → List Entry → Type 0
IsClosed G K H = (a b : ℕ) → Matches G K (joined_by H) a b → Joined H a b

-- an able pair: some list of pairs, whatever it is, lets a key identify the two (this project's own)
abbrev pub IsAble : NumberedGraph → List Shape → ℕ → ℕ → Type 0
IsAble G K a b = (a < b) × ((pairs : List (ℕ × ℕ)) × Matches G K (joined pairs) a b)
