-- What a proof tells of a journal (this project's own).
use Rattle.std.specs.Prelude.{List, [], ◌∷◌, ℕ, ◌+◌, ◌-◌, ◌<◌, Bool, IsTrue, Some, nat_le, ◌&&◌, map, length, take, slice_get, slice_index, All, ◌≡◌, ◌≢◌}
use Rattle.std.specs.List.{list_all}
use Rattle.gk_base.specs.declared.term.Term.{Term}
use Rattle.chase_laws.specs.declared.entry.Entry.{Entry}
use Rattle.chase_laws.specs.declared.pattern.Slot.{Slot}
use Rattle.chase_laws.specs.declared.pattern.Slot.TheVariants.{Entity, Any, Value, Folded, Fixed}
use Rattle.chase_laws.specs.Shape.{Shape}
use Rattle.chase_laws.specs.Joined.{Joined}
use Rattle.term_table.specs.Numbering.{same_term}
use Rattle.proof_file.specs.Leads.{links_lead}
use Rattle.proof_file.specs.Steps.{SupportShape, StepShape, term_at, step_ends}

-- the numbers of the entity variables among slots, of which the first has this number
abbrev pub entities_from : ℕ → List Slot → List ℕ
entities_from n [] = []
entities_from n (Entity t ∷ slots) = n ∷ entities_from (n + 1) slots
entities_from n (Any t ∷ slots) = entities_from (n + 1) slots
entities_from n (Value ∷ slots) = entities_from (n + 1) slots
entities_from n (Folded ∷ slots) = entities_from (n + 1) slots
entities_from n (Fixed c ∷ slots) = entities_from (n + 1) slots

-- the slots that a step has supports for: the entity variables but slot 0, ascending
abbrev pub supported_slots : List Slot → List ℕ
supported_slots [] = []
supported_slots (first ∷ slots) = entities_from 1 slots

-- An entry that a step can be made of: its key and its names are there, slot 0 has its ends, and the entries before it
-- join its images at each entity variable but the first.
pub record IsSupported (names : ℕ) (K : List Shape) (before : List Entry) (e : Entry) : Type 0 where
  pub pattern : Shape
  pub key : slice_get K e.key ≡ Some pattern
  pub left_count : length e.left ≡ length pattern.slots
  pub right_count : length e.right ≡ length pattern.slots
  pub left_named : All (λ n. n < names) e.left
  pub right_named : All (λ n. n < names) e.right
  pub at_a : slice_index e.left 0 ≡ e.a
  pub at_b : slice_index e.right 0 ≡ e.b
  pub joined : (s t : ℕ) → slice_get pattern.slots s ≡ Some (Entity t) → s ≢ 0 → Joined before (slice_index e.left s) (slice_index e.right s)

-- a journal that a proof can be made of: each of its entries is supported by those before it
abbrev pub AreSupported : ℕ → List Shape → List Entry → Type 0
AreSupported names K H = (i : ℕ) (e : Entry) → slice_get H i ≡ Some e → IsSupported names K (take i H) e

-- whether this is the number of one of the first so many steps
abbrev pub is_earlier : ℕ → ℕ → Bool
is_earlier count n = nat_le 1 n && nat_le n count

-- whether a support names only those
abbrev pub are_earlier : ℕ → SupportShape → Bool
are_earlier count support = list_all (is_earlier count) support.steps

-- the places of steps with these numbers: steps are numbered from 1
abbrev pub places_of : List ℕ → List ℕ
places_of steps = map (λ n. n - 1) steps

-- whether a support leads from the left term at its slot to the right one, where the earlier steps have these ends
abbrev pub leads_there : List (Term × Term) → StepShape → SupportShape → Bool
leads_there earlier step support = links_lead same_term earlier (places_of support.steps) (term_at step.left support.slot) (term_at step.right support.slot)

-- A step tells an entry, after these steps: it has the name of the entry's key and its terms, and exactly one support for
-- each entity variable but the first, ascending, each of which names earlier steps only and leads.
pub record Tells (names : List Term) (K : List Shape) (key_names : List (List ℕ)) (before : List StepShape) (e : Entry) (step : StepShape) : Type 0 where
  pub pattern : Shape
  pub found : slice_get K e.key ≡ Some pattern
  pub key : slice_get key_names e.key ≡ Some step.key
  pub left : step.left ≡ map (term_at names) e.left
  pub right : step.right ≡ map (term_at names) e.right
  pub slots : map (λ (s : SupportShape). s.slot) step.supports ≡ supported_slots pattern.slots
  pub earlier : IsTrue (list_all (are_earlier (length before)) step.supports)
  pub leads_to : IsTrue (list_all (leads_there (map step_ends before) step) step.supports)

-- the steps of a proof tell the entries of a journal, one each, in order
pub record TellsAll (names : List Term) (K : List Shape) (key_names : List (List ℕ)) (H : List Entry) (steps : List StepShape) : Type 0 where
  pub one_each : length steps ≡ length H
  pub each : (i : ℕ) (e : Entry) (step : StepShape) → slice_get H i ≡ Some e → slice_get steps i ≡ Some step → Tells names K key_names (take i steps) e step
