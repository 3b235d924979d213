-- Steps whose supports are the ways of a whole journal, in the numbers of what is kept of it (this project's own).
use Rattle.std.specs.Prelude.{List, [], ◌∷◌, ℕ, ◌+◌, ◌<◌, ◌^◌, ◌-◌, Bool, true, false, All, map, length, slice_index, ◌≡◌}
use Rattle.chase_laws.specs.declared.entry.Entry.{Entry}
use Rattle.chase_laws.specs.Joined.{joined_by}
use Rattle.proof_file.specs.Steps.{SupportShape, StepShape, StepNumbers}
use Rattle.why_pair.specs.Needed.{way_at}

-- for each mark the place that is next to be kept, of which the first is this one
abbrev pub places_from : ℕ → List Bool → List ℕ
places_from n [] = []
places_from n (true ∷ marks) = n ∷ places_from (n + 1) marks
places_from n (false ∷ marks) = n ∷ places_from n marks

-- the number of the step of the entry at a place, where the entries have these places among those that are kept
abbrev pub step_number : List ℕ → ℕ → ℕ
step_number places p = slice_index places p + 1

-- as many places as there are entries, each with a number after it
pub record HasPlaces (count : ℕ) (places : List ℕ) : Type 0 where
  pub one_each : length places ≡ count
  pub small : All (λ n. n < 2 ^ 32 - 1) places

-- the journal joins the images of an entry at the slot of a support
abbrev pub IsLinked : List Entry → Entry → SupportShape → Type 0
IsLinked H e support = (support.slot < length e.left) × (support.slot < length e.right) × (joined_by H (slice_index e.left support.slot) (slice_index e.right support.slot) ≡ true)

-- the support that has the way between them
abbrev pub relinked : List Entry → List ℕ → Entry → SupportShape → SupportShape
relinked H places e support = record { slot = support.slot; steps = map (step_number places) (way_at H e support.slot) }

-- a step with such supports, in numbers and with its terms
abbrev pub relinked_numbers : List Entry → List ℕ → Entry → StepNumbers → StepNumbers
relinked_numbers H places e step = record { key = step.key; left = step.left; right = step.right; supports = map (relinked H places e) step.supports }

abbrev pub relinked_step : List Entry → List ℕ → Entry → StepShape → StepShape
relinked_step H places e step = record { key = step.key; left = step.left; right = step.right; supports = map (relinked H places e) step.supports }

-- what is made of each entry with the step at its place
abbrev pub with_each : {S : Type 0} → (Entry → S → S) → List Entry → List S → List S
with_each make entries [] = []
with_each make [] (step ∷ steps) = []
with_each make (e ∷ entries) (step ∷ steps) = make e step ∷ with_each make entries steps
