-- The steps that a journal makes, one for each entry (this project's own).
use Rattle.std.specs.Prelude.{List, [], ℕ, ◌+◌, ◌<◌, true, Some, All, map, length, slice_get, slice_index, slice_index_or, ◌≡◌, ◌≢◌}
use Rattle.gk_base.specs.declared.term.Term.{Term}
use Rattle.chase_laws.specs.declared.entry.Entry.{Entry}
use Rattle.chase_laws.specs.declared.pattern.Slot.{Slot}
use Rattle.chase_laws.specs.declared.pattern.Slot.TheVariants.{Entity}
use Rattle.chase_laws.specs.Shape.{Shape}
use Rattle.chase_laws.specs.Joined.{joined_by, links}
use Rattle.proof_graph.specs.Way.{way}
use Rattle.proof_file.specs.Steps.{SupportShape, StepShape, term_at}
use Rattle.proof_file.specs.Tells.{supported_slots}

-- what joins the images of an entry at a slot: the way between them along the journal, in numbers of steps
abbrev pub built_support : List Entry → Entry → ℕ → SupportShape
built_support H e s = record { slot = s; steps = map (λ p. p + 1) (way (links H) (length H) (slice_index e.left s) (slice_index e.right s)) }

-- the step of an entry whose key has this pattern and this name
abbrev pub built_step : List Term → List Entry → Shape → List ℕ → Entry → StepShape
built_step names H Q key e = record {
  key = key;
  left = map (term_at names) e.left;
  right = map (term_at names) e.right;
  supports = map (built_support H e) (supported_slots Q.slots);
}

-- the pattern with this place; where there is none, one without slots
abbrev pub pattern_at : List Shape → ℕ → Shape
pattern_at K key = slice_index_or K key (record { slots = []; edges = [] })

-- the step of an entry
abbrev pub built_entry : List Term → List Shape → List (List ℕ) → List Entry → Entry → StepShape
built_entry names K key_names H e = built_step names H (pattern_at K e.key) (slice_index_or key_names e.key []) e

-- the journal joins the images of an entry at each entity variable but the first
abbrev pub IsJoinedAt : List Entry → List Slot → Entry → Type 0
IsJoinedAt H slots e = (s t : ℕ) → slice_get slots s ≡ Some (Entity t) → s ≢ 0 → joined_by H (slice_index e.left s) (slice_index e.right s) ≡ true

-- an entry fits a pattern: it has a name for each slot on either side, and the journal joins its images
pub record FitsPattern (names : ℕ) (H : List Entry) (Q : Shape) (e : Entry) : Type 0 where
  pub left_count : length e.left ≡ length Q.slots
  pub right_count : length e.right ≡ length Q.slots
  pub left_named : All (λ n. n < names) e.left
  pub right_named : All (λ n. n < names) e.right
  pub joined : IsJoinedAt H Q.slots e
