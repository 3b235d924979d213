-- The numbers that terms have in a proof (this project's own).
use Rattle.std.specs.Prelude.{List, ℕ, ◌+◌, ◌<◌, false, Some, length, map, slice_get, slice_index, ◌≡◌}
use Rattle.gk_base.specs.declared.term.Term.{Term}
use Rattle.term_table.specs.Numbering.{is_named, AreDistinct}
use Rattle.proof_file.specs.Steps.{StepNumbers, term_at}

-- for each name the place of its term among those that have come, and one more; or 0 where it has not come
pub record NotesPlaces (names terms : List Term) (places : List ℕ) : Type 0 where
  pub distinct : AreDistinct terms
  pub count : length places ≡ length names
  pub known : (n k : ℕ) → n < length names → slice_index places n ≡ k + 1 → slice_get terms k ≡ Some (term_at names n)
  pub fresh : (n : ℕ) → n < length names → slice_index places n ≡ 0 → is_named terms (term_at names n) ≡ false

-- the step with other numbers for those of its terms
abbrev pub by_numbers : List ℕ → StepNumbers → StepNumbers
by_numbers numbers step = record { key = step.key; left = map (slice_index numbers) step.left; right = map (slice_index numbers) step.right; supports = step.supports }
