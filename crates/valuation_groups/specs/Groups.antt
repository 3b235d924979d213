-- Groups of rows as contracts see them: this project's own.
use Rattle.std.specs.Prelude.{List, [], ℕ, All, map, length, drop, slice_index, slice_index_or, ◌≡◌, ◌<◌}
use Rattle.std.specs.List.{flat_map}
use Rattle.chase_laws.specs.Signature.{SignatureParts}

-- the rows of one key that have the same values; a row is a name and, behind it, its images
pub record GroupShape : Type 0 where
  pub key : ℕ
  pub values : List ℕ
  pub rows : List (List ℕ)

-- the group at a place
abbrev pub group_at : List GroupShape → ℕ → GroupShape
group_at groups place = slice_index_or groups place (record { key = 0; values = []; rows = [] })

-- a row of a group
abbrev pub row_in : GroupShape → ℕ → List ℕ
row_in group row = slice_index_or group.rows row []

-- the parts that a row of a group stands for
abbrev pub parts_in : GroupShape → List ℕ → SignatureParts
parts_in group row = record { key = group.key; name = slice_index row 0; values = group.values; images = drop 1 row }

-- the parts of all rows of a group
abbrev pub parts_of_group : GroupShape → List SignatureParts
parts_of_group group = map (parts_in group) group.rows

-- the parts of all rows of all groups
abbrev pub listed_of : List GroupShape → List SignatureParts
listed_of groups = flat_map parts_of_group groups

-- no two groups have the same key and the same values, and each has a row
pub record AreApart (groups : List GroupShape) : Type 0 where
  pub apart : (i j : ℕ) → i < length groups → j < length groups → (group_at groups i).key ≡ (group_at groups j).key →
      (group_at groups i).values ≡ (group_at groups j).values → i ≡ j
  pub some : All (λ group. 0 < length group.rows) groups
