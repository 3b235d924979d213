-- What the checker is to say of a proof: of terms and of the list of triples, without numbers or search (this project's
-- own).
use Rattle.std.specs.Prelude.{List, [], ◌∷◌, ◌++◌, ℕ, ◌+◌, Bool, true, not, ◌==◌, ◌&&◌, ◌||◌, Option, Some, None, bytes_eq, map, length, slice_get, if◌then◌else◌}
use Rattle.std.specs.List.{list_any, list_all, position_or_len}
use Rattle.gk_base.specs.Term.{is_literal}
use Rattle.gk_base.specs.declared.term.Term.{Term}
use Rattle.gk_base.specs.declared.term.Triple.{Triple}
use Rattle.term_table.specs.Numbering.{same_term}
use Rattle.term_table.specs.Folding.{folded_term}
use Rattle.key_file.specs.declared.slot.KeySlot.{KeySlot}
use Rattle.key_file.specs.declared.slot.KeySlot.TheVariants.{Entity, Any, Value, Folded, Fixed}
use Rattle.key_file.specs.declared.edge.KeyEdge.{KeyEdge}
use Rattle.key_file.specs.KeyShape.{KeyShape}
use Rattle.key_file.specs.Key.{all_differ}
use Rattle.proof_file.specs.Tells.{are_earlier, leads_there}
use Rattle.proof_file.specs.Steps.{SupportShape, StepShape, term_at, step_ends}
use Rattle.key_file.specs.Numbered.{rdf_type}
use Rattle.proof_check.specs.declared.reason.Reason.{Reason}
use Rattle.proof_check.specs.declared.reason.Reason.TheVariants.{UnknownKey, WrongShape, TermNotInTheGraph, TermTwice, WrongKindOrType, TripleMissing, ConstantDiffers, ValueDiffers, SupportNotEarlier, SupportDoesNotLeadThere}
use Rattle.proof_check.specs.declared.verdict.Verdict.{Verdict}
use Rattle.proof_check.specs.declared.verdict.Verdict.TheVariants.{Accepted, Rejected}

-- the place of the first key with this name, or how many keys there are
abbrev pub key_place : List KeyShape → List ℕ → ℕ
key_place keys name = position_or_len (λ k. bytes_eq k.name name) keys

-- whether a test holds of each slot with its number
abbrev pub each_slot : {S : Type 0} → (ℕ → S → Bool) → ℕ → List S → Bool
each_slot test n [] = true
each_slot test n (slot ∷ slots) = test n slot && each_slot test (n + 1) slots

-- the numbers of the entity variables among slots, of which the first has this number
abbrev pub variables_from : ℕ → List KeySlot → List ℕ
variables_from n [] = []
variables_from n (Entity name type ∷ slots) = n ∷ variables_from (n + 1) slots
variables_from n (Any name type ∷ slots) = variables_from (n + 1) slots
variables_from n (Value name ∷ slots) = variables_from (n + 1) slots
variables_from n (Folded name ∷ slots) = variables_from (n + 1) slots
variables_from n (Fixed constant ∷ slots) = variables_from (n + 1) slots

-- the slots that a step has supports for: the entity variables but the first slot, ascending
abbrev pub supported_variables : List KeySlot → List ℕ
supported_variables [] = []
supported_variables (first ∷ slots) = variables_from 1 slots

-- whether this is the triple of these terms
abbrev pub is_triple : Term → Term → Term → Triple → Bool
is_triple s p o triple = same_term s triple.subject && same_term p triple.predicate && same_term o triple.object

-- whether it is one of the triples
abbrev pub has_triple : List Triple → Term → Term → Term → Bool
has_triple triples s p o = list_any (is_triple s p o) triples

-- whether the term is an end of a triple: its subject or its object
abbrev pub is_end : Term → Triple → Bool
is_end term triple = same_term term triple.subject || same_term term triple.object

-- whether the term is an end of one of the triples
abbrev pub is_known : List Triple → Term → Bool
is_known triples term = list_any (is_end term) triples

-- one term for each slot on either side, and the supports of the entity variables but the first, ascending
abbrev pub has_shape : KeyShape → StepShape → Bool
has_shape key step =
    length step.left == length key.slots && length step.right == length key.slots
    && bytes_eq (map (λ (s : SupportShape). s.slot) step.supports) (supported_variables key.slots)

-- each term is an end of a triple
abbrev pub are_known : List Triple → List Term → Bool
are_known triples terms = list_all (is_known triples) terms

-- the term is no literal and has this type in the graph
abbrev pub is_typed : List Triple → Term → Term → Bool
is_typed triples type term = not (is_literal term) && has_triple triples term rdf_type type

-- the term has the kind and the type of a slot: at an entity variable or a wildcard it is an entity of its type, at a value
-- variable a literal
abbrev pub has_kind : List Triple → KeySlot → Term → Bool
has_kind triples (Entity name type) term = is_typed triples type term
has_kind triples (Any name type) term = is_typed triples type term
has_kind triples (Value name) term = is_literal term
has_kind triples (Folded name) term = is_literal term
has_kind triples (Fixed constant) term = true

-- each term has the kind and the type of its slot
abbrev pub have_kinds : List Triple → KeyShape → List Term → Bool
have_kinds triples key terms = each_slot (λ n slot. has_kind triples slot (term_at terms n)) 0 key.slots

-- the image of an edge is in the graph
abbrev pub has_image : List Triple → List Term → KeyEdge → Bool
has_image triples terms edge = has_triple triples (term_at terms edge.from) edge.pred (term_at terms edge.to)

-- the image of each edge is
abbrev pub have_images : List Triple → KeyShape → List Term → Bool
have_images triples key terms = list_all (has_image triples terms) key.edges

-- at a constant the term is that very one
abbrev pub is_constant : KeySlot → Term → Bool
is_constant (Entity name type) term = true
is_constant (Any name type) term = true
is_constant (Value name) term = true
is_constant (Folded name) term = true
is_constant (Fixed constant) term = same_term term constant

-- the terms at all constants are
abbrev pub are_constants : KeyShape → List Term → Bool
are_constants key terms = each_slot (λ n slot. is_constant slot (term_at terms n)) 0 key.slots

-- two terms agree at a slot: at a value variable they are equal, at a folded one equal once case is folded
abbrev pub terms_agree : KeySlot → Term → Term → Bool
terms_agree (Entity name type) t u = true
terms_agree (Any name type) t u = true
terms_agree (Value name) t u = same_term t u
terms_agree (Folded name) t u = same_term (folded_term t) (folded_term u)
terms_agree (Fixed constant) t u = true

-- the left and the right term agree at each slot
abbrev pub all_agree : KeyShape → StepShape → Bool
all_agree key step = each_slot (λ n slot. terms_agree slot (term_at step.left n) (term_at step.right n)) 0 key.slots

-- a test, and the reason where it fails; the later reasons count only where it holds
abbrev pub reason_unless : Bool → Reason → Option Reason → Option Reason
reason_unless test reason later = if test then later else Some reason

-- the least reason against a step with this key, or with an unknown one, where the earlier steps have these ends
abbrev pub reason_at : List Triple → List (Term × Term) → StepShape → Option KeyShape → Option Reason
reason_at triples earlier step None = Some UnknownKey
reason_at triples earlier step (Some key) =
    reason_unless (has_shape key step) WrongShape
    (reason_unless (are_known triples step.left && are_known triples step.right) TermNotInTheGraph
    (reason_unless (all_differ same_term step.left && all_differ same_term step.right) TermTwice
    (reason_unless (have_kinds triples key step.left && have_kinds triples key step.right) WrongKindOrType
    (reason_unless (have_images triples key step.left && have_images triples key step.right) TripleMissing
    (reason_unless (are_constants key step.left && are_constants key step.right) ConstantDiffers
    (reason_unless (all_agree key step) ValueDiffers
    (reason_unless (list_all (are_earlier (length earlier)) step.supports) SupportNotEarlier
    (reason_unless (list_all (leads_there earlier step) step.supports) SupportDoesNotLeadThere
    None))))))))

-- the least reason against a step, whose key is found by its name
abbrev pub reason_of : List Triple → List KeyShape → List (Term × Term) → StepShape → Option Reason
reason_of triples keys earlier step = reason_at triples earlier step (slice_get keys (key_place keys step.key))

-- rejected at the step with this number, where there is a reason against it, or else this verdict
abbrev pub rejected_or : Option Reason → ℕ → Verdict → Verdict
rejected_or None number later = later
rejected_or (Some reason) number later = Rejected number reason

-- the verdict on steps, where the earlier ones have these ends
abbrev pub verdict_after : List Triple → List KeyShape → List (Term × Term) → List StepShape → Verdict
verdict_after triples keys earlier [] = Accepted (length earlier)
verdict_after triples keys earlier (step ∷ steps) =
    rejected_or (reason_of triples keys earlier step) (length earlier + 1) (verdict_after triples keys (earlier ++ step_ends step ∷ []) steps)

-- The verdict on a proof: Accepted with the number of its steps, or the first step against which there is a reason, and the
-- least one.
abbrev pub verdict : List Triple → List KeyShape → List StepShape → Verdict
verdict triples keys steps = verdict_after triples keys [] steps
