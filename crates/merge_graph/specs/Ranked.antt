-- The images of the rows in the order of their names' texts, as the code keeps and joins them (this project's own).
use Rattle.std.specs.Prelude.{◌≡◌, ◌⊎◌, ◌↔◌, ◌<◌, ◌≤◌, ◌+◌, ℕ, Bool, true, false, List, [], ◌∷◌, ◌++◌, length, slice_index, slice_index_or, slice_range, Contains}
use Rattle.std.specs.List.{flat_map}
use Rattle.std.specs.List.Sorted.{IsStrictlySortedBy}
use Rattle.std.specs.Ordering.{nat_cmp}
use Rattle.std.specs.Cmp.Lexicographic.{slice_cmp}
use Rattle.chase_laws.specs.Report.{text_at}
use Rattle.merge_graph.specs.declared.name_texts.NameTexts.{NameTexts}

-- the lines one after another
abbrev pub joined_text : List (List ℕ) → List ℕ
joined_text lines = flat_map (λ line. line) lines

-- the text is these lines one after another, each once, ascending by bytes
pub record IsJoinedOnce (all : List (List ℕ)) (text : List ℕ) : Type 0 where
  pub lines : List (List ℕ)
  pub ascends : IsStrictlySortedBy (slice_cmp nat_cmp) lines
  pub same : (line : List ℕ) → Contains lines line ↔ Contains all line
  pub whole : text ≡ joined_text lines

-- the last of the lines begins at this place of their text
pub record LastBegins (lines : List (List ℕ)) (last : ℕ) : Type 0 where
  pub earlier : List (List ℕ)
  pub line : List ℕ
  pub are : lines ≡ earlier ++ line ∷ []
  pub begins : last ≡ length (joined_text earlier)

-- the text is these lines, and the last of them begins at this place; where there is none, the place is 0
pub record HoldsLines (all : List (List ℕ)) (text : List ℕ) (last : ℕ) : Type 0 where
  pub joined : IsJoinedOnce all text
  pub end : ((joined.lines ≡ []) × (last ≡ 0)) ⊎ LastBegins joined.lines last

-- the text that is kept for a name
abbrev pub kept_text : NameTexts → ℕ → List ℕ
kept_text texts n = slice_range texts.bytes.items (slice_index texts.starts.items n) (slice_index texts.starts.items (n + 1))

-- whether a name is marked
abbrev pub IsMarked : List Bool → ℕ → Type 0
IsMarked marks n = slice_index_or marks n false ≡ true

-- the names of a row's image are marked
pub record HasMarks (marks : List Bool) (faces row : List ℕ) : Type 0 where
  pub subject : IsMarked marks (slice_index faces (slice_index row 0))
  pub predicate : IsMarked marks (slice_index row 1)
  pub object : IsMarked marks (slice_index faces (slice_index row 2))

-- for each marked name its text is kept
pub record KeepsTexts (names : List (List ℕ)) (marks : List Bool) (texts : NameTexts) : Type 0 where
  pub each : (n : ℕ) → n < length names → IsMarked marks n → kept_text texts n ≡ text_at names n

-- exactly the marked names are listed
pub record ListsMarked (marks : List Bool) (listed : List ℕ) : Type 0 where
  pub only : (n : ℕ) → Contains listed n → n < length marks
  pub every : (n : ℕ) → n < length marks → IsMarked marks n → Contains listed n
  pub few : length listed ≤ length marks

-- a name stands in the order where its rank says
pub record HasRank (order ranks : List ℕ) (n : ℕ) : Type 0 where
  pub below : slice_index ranks n < length order
  pub name : slice_index order (slice_index ranks n) ≡ n

-- the ranks of the names of a row's image
abbrev pub ranked_row : List ℕ → List ℕ → List ℕ → List ℕ
ranked_row ranks faces row = slice_index ranks (slice_index faces (slice_index row 0)) ∷ slice_index ranks (slice_index row 1) ∷ slice_index ranks (slice_index faces (slice_index row 2)) ∷ []

-- the line of three texts
abbrev pub line_of_texts : List ℕ → List ℕ → List ℕ → List ℕ
line_of_texts subject predicate object = subject ++ 0x20 ∷ (predicate ++ 0x20 ∷ (object ++ 0x20 ∷ 0x2E ∷ 0x0A ∷ []))

-- the text that is kept for the name with a rank
abbrev pub ranked_text : NameTexts → List ℕ → ℕ → List ℕ
ranked_text texts order rank = kept_text texts (slice_index order rank)

-- the line of three ranks
abbrev pub ranked_line : NameTexts → List ℕ → List ℕ → List ℕ
ranked_line texts order row = line_of_texts (ranked_text texts order (slice_index row 0)) (ranked_text texts order (slice_index row 1)) (ranked_text texts order (slice_index row 2))
