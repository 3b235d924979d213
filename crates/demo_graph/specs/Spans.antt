-- Where labels stand first and last, as the code notes it: this project's own.
use Rattle.std.specs.Prelude.{List, ℕ, Option, Some, None, slice_index, ◌≡◌, ◌≢◌, ◌<◌, ◌≤◌}
use Rattle.demo_graph.specs.declared.class_counts.Span.{Span}

-- the first and the last of the places below a bound that have a label
pub record IsSpan (labels : List ℕ) (bound label : ℕ) (span : Span) : Type 0 where
  pub in_bound : (span.first ≤ span.last) × (span.last < bound)
  pub at_first : slice_index labels span.first ≡ label
  pub at_last : slice_index labels span.last ≡ label
  pub none_outside : (place : ℕ) → place < bound → slice_index labels place ≡ label → (span.first ≤ place) × (place ≤ span.last)

-- what is noted of a label: its first and its last place below a bound, or that it has none there
abbrev pub IsNoted : List ℕ → ℕ → ℕ → Option Span → Type 0
IsNoted labels bound label (Some span) = IsSpan labels bound label span
IsNoted labels bound label None = (place : ℕ) → place < bound → slice_index labels place ≢ label
