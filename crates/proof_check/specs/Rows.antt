-- Rows of a graph by the numbers of terms, and numbers of a step (this project's own).
use Rattle.std.specs.Prelude.{List, [], ℕ, ◌<◌, ◌≤◌, All, Bool, ◌==◌, ◌||◌, map, length, slice_index, slice_index_or, ◌≡◌}
use Rattle.std.specs.List.{list_any}
use Rattle.gk_base.specs.declared.term.Term.{Term}
use Rattle.gk_base.specs.declared.term.Triple.{Triple}
use Rattle.term_list.specs.Triples.{terms_of}
use Rattle.term_table.specs.Numbering.{names_of}
use Rattle.key_file.specs.Numbered.{row_of}
use Rattle.chase_laws.specs.Shape.{Shape}
use Rattle.proof_file.specs.Steps.{StepNumbers}

-- These names and rows are the triples in numbers: the names are the distinct terms of the triples, in their order, and there
-- is a row for each triple, of the places of its terms among the names.
pub record IsGraphInNumbers (names : List Term) (rows : List (List ℕ)) (triples : List Triple) : Type 0 where
  pub names_are : names ≡ names_of (terms_of triples)
  pub rows_are : rows ≡ map (row_of names) triples

-- whether a number is the subject or the object of a row
abbrev pub is_end_of : ℕ → List ℕ → Bool
is_end_of n row = n == slice_index row 0 || n == slice_index row 2

-- whether it is one of some row
abbrev pub has_end : List (List ℕ) → ℕ → Bool
has_end rows n = list_any (is_end_of n) rows

-- a step's numbers have places for each slot of its pattern, each edge and each support
pub record HasPlaces (Q : Shape) (step : StepNumbers) : Type 0 where
  pub left : length step.left ≡ length Q.slots
  pub right : length step.right ≡ length Q.slots
  pub some : 0 < length Q.slots
  pub ends : All (λ e. (e.from < length Q.slots) × (e.to < length Q.slots)) Q.edges
  pub supports : All (λ s. s.slot < length Q.slots) step.supports

-- supports name earlier steps, of which there are so many
abbrev pub AreEarlier : ℕ → StepNumbers → Type 0
AreEarlier count step = All (λ s. All (λ n. (1 ≤ n) × (n ≤ count)) s.steps) step.supports

-- the rows before a place have first numbers below this one
pub record HasLowerBefore (rows : List (List ℕ)) (place s : ℕ) : Type 0 where
  pub within : place ≤ length rows
  pub lower : (k : ℕ) → k < place → slice_index (slice_index_or rows k []) 0 < s
