-- The faces of the labels, as the code keeps and finds them (this project's own).
use Rattle.std.specs.Prelude.{◌≡◌, ℕ, ◌<◌, true, nat_eq, nat_lt, List, length, slice_index, slice_index_or, Option, Some, None, if◌then◌else◌}
use Rattle.std.specs.HashMap.{get}
use Rattle.chase_laws.specs.Report.{not_above}
use Rattle.merge_graph.specs.declared.face_table.FaceTable.{FaceTable}

-- the face that is kept for a label
abbrev pub kept_face : FaceTable → ℕ → Option ℕ
kept_face table label = if nat_lt label (length table.low.items) then slice_index_or table.low.items label None else get nat_eq table.high label

-- of two names the one whose text is not above that of the other; of equal texts the first
abbrev pub lesser : List (List ℕ) → ℕ → ℕ → ℕ
lesser texts m n = if not_above texts m n then m else n

-- the face once a name is seen
abbrev pub next_face : List (List ℕ) → Option ℕ → ℕ → ℕ
next_face texts None n = n
next_face texts (Some m) n = lesser texts m n

-- of the names below k with this label, m has the first text
pub record IsFirstBelow (texts : List (List ℕ)) (labels : List ℕ) (k label m : ℕ) : Type 0 where
  pub below : m < k
  pub has : slice_index labels m ≡ label
  pub first : (n : ℕ) → n < k → slice_index labels n ≡ label → not_above texts m n ≡ true

-- what is to be kept for a label once the names below k are seen
abbrev pub IsEntry : List (List ℕ) → List ℕ → ℕ → ℕ → Option ℕ → Type 0
IsEntry texts labels k label None = (n : ℕ) → n < k → slice_index labels n ≡ label → ⊥
IsEntry texts labels k label (Some m) = IsFirstBelow texts labels k label m

-- the table keeps the faces of the names below k
pub record KeepsFaces (texts : List (List ℕ)) (labels : List ℕ) (k : ℕ) (table : FaceTable) : Type 0 where
  pub entry : (label : ℕ) → IsEntry texts labels k label (kept_face table label)
