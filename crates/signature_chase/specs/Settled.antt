-- When nothing is left to enter in a group (this project's own).
use Rattle.std.specs.Prelude.{List, ℕ, Contains, length, drop, slice_index, ◌≡◌, ◌<◌}
use Rattle.chase_laws.specs.Signature.{labels_of}
use Rattle.valuation_groups.specs.Groups.{GroupShape, group_at, row_in}

-- the labels of a row's images
abbrev pub image_labels : List ℕ → List ℕ → List ℕ
image_labels labels row = labels_of labels (drop 1 row)

-- the label of a row's name
abbrev pub name_label : List ℕ → List ℕ → ℕ
name_label labels row = slice_index labels (slice_index row 0)

-- any two rows whose images have the same labels are at names of one label
abbrev pub IsSettled : List ℕ → GroupShape → Type 0
IsSettled labels group = (i j : ℕ) → i < length group.rows → j < length group.rows →
    image_labels labels (row_in group i) ≡ image_labels labels (row_in group j) → name_label labels (row_in group i) ≡ name_label labels (row_in group j)

-- each group that does not wait is settled
abbrev pub AreSettledBut : List GroupShape → List ℕ → List ℕ → Type 0
AreSettledBut groups waiting labels = (g : ℕ) → g < length groups → ¬ (Contains waiting g) → IsSettled labels (group_at groups g)
