-- How often a label occurs, as the code counts it, and what place it has (this project's own).
use Rattle.std.specs.Prelude.{◌≡◌, ℕ, ◌+◌, List, Bool, ◌==◌, nat_eq, nat_lt, min, length, unwrap_or, slice_index, slice_index_or, count_by, Option, None, if◌then◌else◌}
use Rattle.std.specs.HashMap.{get}
use Rattle.term_text.specs.declared.label_counts.LabelCounts.{LabelCounts}
use Rattle.term_text.specs.declared.label_places.LabelPlaces.{LabelPlaces}

-- how often a label is counted
abbrev pub label_count : LabelCounts → ℕ → ℕ
label_count counts label = if nat_lt label (length counts.low.items) then slice_index counts.low.items label else unwrap_or (get nat_eq counts.high label) 0

-- whether a label is counted twice or more often
abbrev pub is_shared_in : LabelCounts → ℕ → Bool
is_shared_in counts label = nat_lt 1 (label_count counts label)

-- one more, but no more than two
abbrev pub one_more : ℕ → ℕ
one_more n = if nat_lt 1 n then n else n + 1

-- each label is counted as often as it stands in the list, where two stands for any greater number
pub record CountsLabels (counts : LabelCounts) (labels : List ℕ) : Type 0 where
  pub count : (label : ℕ) → label_count counts label ≡ min 2 (count_by (λ l. label == l) labels)

-- the place of a label
abbrev pub place_at : LabelPlaces → ℕ → Option ℕ
place_at places label = if nat_lt label (length places.low.items) then slice_index_or places.low.items label None else get nat_eq places.high label
