-- The reasons against a step, over numbers of terms, and what is looked up by them (this project's own).
use Rattle.std.specs.Prelude.{List, [], ◌∷◌, ℕ, ◌<◌, Bool, true, false, not, nat_eq, ◌==◌, ◌&&◌, Option, None, bytes_eq, map, length, slice_index, slice_index_or, ◌≡◌}
use Rattle.std.specs.List.{list_any, list_all}
use Rattle.gk_base.specs.Term.{is_literal}
use Rattle.gk_base.specs.declared.term.Term.{Term}
use Rattle.gk_base.specs.declared.term.Triple.{Triple}
use Rattle.chase_laws.specs.declared.pattern.Slot.{Slot}
use Rattle.chase_laws.specs.declared.pattern.Slot.TheVariants.{Entity, Any, Value, Folded, Fixed}
use Rattle.chase_laws.specs.declared.pattern.Edge.{Edge}
use Rattle.chase_laws.specs.Shape.{Shape}
use Rattle.term_table.specs.Numbering.{same_term, is_named, place_of, AreDistinct}
use Rattle.term_table.specs.Folding.{folded_term}
use Rattle.key_file.specs.Key.{all_differ}
use Rattle.proof_file.specs.Leads.{links_lead}
use Rattle.proof_file.specs.Steps.{SupportShape, StepNumbers, term_at}
use Rattle.key_file.specs.Numbered.{rdf_type}
use Rattle.proof_file.specs.Tells.{supported_slots, are_earlier, places_of}
use Rattle.proof_check.specs.Verdict.{each_slot, has_triple, is_known, reason_unless}
use Rattle.proof_check.specs.declared.reason.Reason.{Reason}
use Rattle.proof_check.specs.declared.reason.Reason.TheVariants.{WrongShape, TermNotInTheGraph, TermTwice, WrongKindOrType, TripleMissing, ConstantDiffers, ValueDiffers, SupportNotEarlier, SupportDoesNotLeadThere}

-- whether there is the row of these three numbers
abbrev pub has_row : List (List ℕ) → ℕ → ℕ → ℕ → Bool
has_row rows s p o = list_any (bytes_eq (s ∷ p ∷ o ∷ [])) rows

-- what is looked up says what the triples say: there is a row of three numbers where there is the triple of their terms; each
-- number has a flag, whether its term is an end of a triple; and `kind` is the number of rdf:type
pub record IsLookup (triples : List Triple) (names : List Term) (rows : List (List ℕ)) (known : List Bool) (kind : ℕ) : Type 0 where
  pub distinct : AreDistinct names
  pub has : (s p o : ℕ) → s < length names → p < length names → o < length names → has_row rows s p o ≡ has_triple triples (term_at names s) (term_at names p) (term_at names o)
  pub knows : (n : ℕ) → n < length names → slice_index_or known n false ≡ is_known triples (term_at names n)
  pub kind_is : (is_named names rdf_type ≡ true) × (place_of names rdf_type ≡ kind)

-- The tests of a step follow, in the order of the reasons.

-- there is one number for each slot on either side, and the supports of the entity variables but the first, ascending
abbrev pub numbers_have_shape : Shape → StepNumbers → Bool
numbers_have_shape Q step =
    length step.left == length Q.slots && length step.right == length Q.slots
    && bytes_eq (map (λ (s : SupportShape). s.slot) step.supports) (supported_slots Q.slots)

-- each number is that of an end of a triple
abbrev pub numbers_are_known : List Bool → List ℕ → Bool
numbers_are_known known side = list_all (λ n. slice_index_or known n false) side

-- a number is that of an entity with this type
abbrev pub number_is_typed : List (List ℕ) → List Term → ℕ → ℕ → ℕ → Bool
number_is_typed rows names kind type n = not (is_literal (term_at names n)) && has_row rows n kind type

-- a number has the kind and the type of a slot
abbrev pub number_has_kind : List (List ℕ) → List Term → ℕ → Slot → ℕ → Bool
number_has_kind rows names kind (Entity t) n = number_is_typed rows names kind t n
number_has_kind rows names kind (Any t) n = number_is_typed rows names kind t n
number_has_kind rows names kind Value n = is_literal (term_at names n)
number_has_kind rows names kind Folded n = is_literal (term_at names n)
number_has_kind rows names kind (Fixed c) n = true

-- each number has the kind and the type of its slot
abbrev pub numbers_have_kinds : List (List ℕ) → List Term → ℕ → List Slot → List ℕ → Bool
numbers_have_kinds rows names kind slots side = each_slot (λ at slot. number_has_kind rows names kind slot (slice_index side at)) 0 slots

-- the image of each edge is a row
abbrev pub numbers_have_images : List (List ℕ) → List Edge → List ℕ → Bool
numbers_have_images rows edges side = list_all (λ (e : Edge). has_row rows (slice_index side e.from) e.pred (slice_index side e.to)) edges

-- a number is that of the constant, where the slot is one
abbrev pub number_is_constant : Slot → ℕ → Bool
number_is_constant (Entity t) n = true
number_is_constant (Any t) n = true
number_is_constant Value n = true
number_is_constant Folded n = true
number_is_constant (Fixed c) n = n == c

-- each constant has its own number
abbrev pub numbers_are_constants : List Slot → List ℕ → Bool
numbers_are_constants slots side = each_slot (λ at slot. number_is_constant slot (slice_index side at)) 0 slots

-- two numbers agree at a slot: they are equal at a value variable, and their terms alike at a folded one
abbrev pub numbers_agree_at : List Term → Slot → ℕ → ℕ → Bool
numbers_agree_at names (Entity t) m n = true
numbers_agree_at names (Any t) m n = true
numbers_agree_at names Value m n = m == n
numbers_agree_at names Folded m n = same_term (folded_term (term_at names m)) (folded_term (term_at names n))
numbers_agree_at names (Fixed c) m n = true

-- the numbers agree at each slot
abbrev pub numbers_agree : List Term → List Slot → List ℕ → List ℕ → Bool
numbers_agree names slots left right = each_slot (λ at slot. numbers_agree_at names slot (slice_index left at) (slice_index right at)) 0 slots

-- a support leads from the left number at its slot to the right one, where the earlier steps have these ends
abbrev pub numbers_lead_there : List (ℕ × ℕ) → StepNumbers → SupportShape → Bool
numbers_lead_there ends step support = links_lead nat_eq ends (places_of support.steps) (slice_index step.left support.slot) (slice_index step.right support.slot)

-- The least reasons against a step with this pattern follow, where the earlier steps have these ends: from the last tests on.

-- from the tests of its supports on
abbrev pub reason_from_supports : List (ℕ × ℕ) → StepNumbers → Option Reason
reason_from_supports ends step =
    reason_unless (list_all (are_earlier (length ends)) step.supports) SupportNotEarlier
    (reason_unless (list_all (numbers_lead_there ends step) step.supports) SupportDoesNotLeadThere
    None)

-- from the test of its values on
abbrev pub reason_from_values : List Term → List (ℕ × ℕ) → StepNumbers → Shape → Option Reason
reason_from_values names ends step Q =
    reason_unless (numbers_agree names Q.slots step.left step.right) ValueDiffers
    (reason_from_supports ends step)

-- from the test of kinds on
abbrev pub reason_from_kinds : List (List ℕ) → List Term → ℕ → List (ℕ × ℕ) → StepNumbers → Shape → Option Reason
reason_from_kinds rows names kind ends step Q =
    reason_unless (numbers_have_kinds rows names kind Q.slots step.left && numbers_have_kinds rows names kind Q.slots step.right) WrongKindOrType
    (reason_unless (numbers_have_images rows Q.edges step.left && numbers_have_images rows Q.edges step.right) TripleMissing
    (reason_unless (numbers_are_constants Q.slots step.left && numbers_are_constants Q.slots step.right) ConstantDiffers
    (reason_from_values names ends step Q)))

-- from the first test on
abbrev pub number_reason : List (List ℕ) → List Bool → List Term → ℕ → List (ℕ × ℕ) → StepNumbers → Shape → Option Reason
number_reason rows known names kind ends step Q =
    reason_unless (numbers_have_shape Q step) WrongShape
    (reason_unless (numbers_are_known known step.left && numbers_are_known known step.right) TermNotInTheGraph
    (reason_unless (all_differ nat_eq step.left && all_differ nat_eq step.right) TermTwice
    (reason_from_kinds rows names kind ends step Q)))
