-- A group that is made of rows: this project's own.
use Rattle.std.specs.Prelude.{List, ◌∷◌, ℕ, map, slice_range}
use Rattle.chase_laws.specs.Signature.{SignatureParts}
use Rattle.valuation_groups.specs.Rows.{KeyRows, part_at}
use Rattle.valuation_groups.specs.Groups.{GroupShape}

-- the names with their images, from one row up to another
abbrev pub rows_between : List SignatureParts → ℕ → ℕ → List (List ℕ)
rows_between parts from end = map (λ p. p.name ∷ p.images) (slice_range parts from end)

-- the group of the rows from one up to another
abbrev pub group_between : KeyRows → ℕ → ℕ → GroupShape
group_between rows from end = record { key = rows.key; values = (part_at rows.parts from).values; rows = rows_between rows.parts from end }
