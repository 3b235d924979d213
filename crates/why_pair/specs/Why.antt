-- What a proof for one pair is, with the steps that lead from the one name to the other (this project's own).
use Rattle.std.specs.Prelude.{List, ℕ, ◌+◌, ◌<◌, Bool, IsTrue, Some, Contains, map, length, slice_get, ◌≡◌}
use Rattle.std.specs.List.{list_all}
use Rattle.gk_base.specs.declared.term.Term.{Term}
use Rattle.chase_laws.specs.declared.entry.Entry.{Entry}
use Rattle.chase_laws.specs.Shape.{Shape}
use Rattle.chase_laws.specs.Graph.{NumberedGraph}
use Rattle.chase_laws.specs.Chase.{IsDerivation, IsLean}
use Rattle.term_table.specs.Numbering.{same_term}
use Rattle.proof_file.specs.Leads.{links_lead}
use Rattle.proof_file.specs.Steps.{SupportShape, StepShape, step_ends}
use Rattle.proof_file.specs.Tells.{is_earlier, places_of, TellsAll}
use Rattle.why_pair.specs.Kept.{kept_by}

-- The steps with these numbers, counted from 1, are there, and lead from the one term to the other, as those of a support do:
-- each is passed from one of its ends to the other.
abbrev pub StepsLead : List StepShape → List ℕ → Term → Term → Type 0
StepsLead steps goal from to = IsTrue (list_all (is_earlier (length steps)) goal) × IsTrue (links_lead same_term (map step_ends steps) (places_of goal) from to)

-- the number of a step is reached: it is one of the goal's, or stands in a support of a step that is reached
pub data IsStepReached (steps : List StepShape) (goal : List ℕ) : ℕ → Type 0 where
  of_goal : {n : ℕ} → Contains goal n → IsStepReached steps goal n
  of_step : (k : ℕ) {n : ℕ} (step : StepShape) (support : SupportShape) → IsStepReached steps goal (k + 1) → slice_get steps k ≡ Some step →
      Contains step.supports support → Contains support.steps n → IsStepReached steps goal n

-- each step is reached
abbrev pub AllReached : List StepShape → List ℕ → Type 0
AllReached steps goal = (k : ℕ) → k < length steps → IsStepReached steps goal (k + 1)

-- The steps are those of some entries of a journal, in their order, each with supports that lead along the kept ones before it.
-- Where the journal is a derivation, so are these entries, and where it is lean, so are they.
pub record TellsPart (names : List Term) (K : List Shape) (key_names : List (List ℕ)) (H : List Entry) (steps : List StepShape) : Type 0 where
  pub marks : List Bool
  pub tells : TellsAll names K key_names (kept_by marks H) steps
  pub derivation : (G : NumberedGraph) → IsDerivation G K H → IsDerivation G K (kept_by marks H)
  pub lean : IsLean H → IsLean (kept_by marks H)
