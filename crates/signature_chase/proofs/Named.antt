-- What stands in a valuation's parts are names.
use Rattle.std.proofs.Common.{List, [], ◌∷◌, ◌++◌, ℕ, zero, suc, Option, Some, None, All, Contains, IsSomeAnd, map, slice_get, slice_index, length, drop, get_or, ◌≡◌, ◌<◌, ◌+◌, refl, sym, ◌∙◌, ap, ap₂, subst, arith, length-append}
use Rattle.std.specs.List.{flat_map, range_with_len}
use Rattle.std.proofs.lemmas.List.Elements.{All-nil, All-cons, All-append, All-contains}
use Rattle.std.proofs.lemmas.Option.{same_Some}
use Rattle.chase_laws.specs.declared.entry.Entry.{Entry}
use Rattle.chase_laws.specs.declared.pattern.Slot.{Slot}
use Rattle.chase_laws.specs.declared.pattern.Slot.TheVariants.{Entity, Any as AnyOf, Value, Folded, Fixed}
use Rattle.chase_laws.specs.Shape.{Shape, PatternFacts, slot_numbers}
use Rattle.chase_laws.specs.Graph.{NumberedGraph, HasRow, IsGraph}
use Rattle.chase_laws.specs.Valuation.{FitsSlot, IsValuation}
use Rattle.chase_laws.specs.Chase.{IsStep}
use Rattle.chase_laws.specs.Signature.{image_at, images_of}

-- what fits an entity slot is a name
fit_named : (G : NumberedGraph) → IsGraph G → (t n : ℕ) → FitsSlot G (Entity t) n → n < length G.literal
fit_named G graph t n h = by G.rdf_type h.1
  where
    by : (o : Option ℕ) → IsSomeAnd o (λ p. HasRow G n p t) → n < length G.literal
    by (Some p) row = All-contains (λ r. All (λ m. m < length G.literal) r) G.rows (n ∷ p ∷ t ∷ []) graph row 0 0 (omega arith)
    by None none = absurd none

pub first_named : (G : NumberedGraph) → IsGraph G → (Q : Shape) → PatternFacts Q → (v : List ℕ) → IsValuation G Q v → slice_index v 0 < length G.literal
first_named G graph Q facts v fits = fit_named G graph facts.first.0 (slice_index v 0) (fits.kinds 0 (Entity facts.first.0) facts.first.1)

-- both names of a step
pub step_named : (G : NumberedGraph) (K : List Shape) → IsGraph G → ((key : ℕ) (Q : Shape) → slice_get K key ≡ Some Q → PatternFacts Q) →
    (H : List Entry) (e : Entry) → IsStep G K H e → (e.a < length G.literal) × (e.b < length G.literal)
step_named G K graph facts H e step =
    let Q = step.pattern in
    let known = facts e.key Q step.key in
    let w = step.witness in (
      subst (λ n. n < length G.literal) w.at_a (first_named G graph Q known e.left w.left),
      subst (λ n. n < length G.literal) w.at_b (first_named G graph Q known e.right w.right),
    )

-- ---- images

image_named : (G : NumberedGraph) → IsGraph G → (s : ℕ) (o : Option Slot) (n : ℕ) → ((slot : Slot) → o ≡ Some slot → FitsSlot G slot n) → All (λ m. m < length G.literal) (image_at s o n)
image_named G graph zero (Some (Entity t)) n fits = All-nil (λ m. m < length G.literal)
image_named G graph (suc s) (Some (Entity t)) n fits = All-cons (λ m. m < length G.literal) n [] (fit_named G graph t n (fits (Entity t) refl)) (All-nil (λ m. m < length G.literal))
image_named G graph s (Some (AnyOf t)) n fits = All-nil (λ m. m < length G.literal)
image_named G graph s (Some Value) n fits = All-nil (λ m. m < length G.literal)
image_named G graph s (Some Folded) n fits = All-nil (λ m. m < length G.literal)
image_named G graph s (Some (Fixed k)) n fits = All-nil (λ m. m < length G.literal)
image_named G graph s None n fits = All-nil (λ m. m < length G.literal)

all_pieces : (P : ℕ → Type 0) (f : ℕ → List ℕ) (xs : List ℕ) → ((s : ℕ) → All P (f s)) → All P (flat_map f xs)
all_pieces P f [] each = All-nil P
all_pieces P f (x ∷ xs) each = All-append P (f x) (flat_map f xs) (each x) (all_pieces P f xs each)

pub images_named : (G : NumberedGraph) → IsGraph G → (Q : Shape) (v : List ℕ) → IsValuation G Q v → All (λ m. m < length G.literal) (images_of Q v)
images_named G graph Q v fits = all_pieces (λ m. m < length G.literal) (λ s. image_at s (slice_get Q.slots s) (slice_index v s)) (slot_numbers Q)
    (λ s. image_named G graph s (slice_get Q.slots s) (slice_index v s) (λ slot at. fits.kinds s slot at))

-- how many images a slot gives depends on the slot alone
image_count : (s : ℕ) (o : Option Slot) (m n : ℕ) → length (image_at s o m) ≡ length (image_at s o n)
image_count zero (Some (Entity t)) m n = refl
image_count (suc s) (Some (Entity t)) m n = refl
image_count s (Some (AnyOf t)) m n = refl
image_count s (Some Value) m n = refl
image_count s (Some Folded) m n = refl
image_count s (Some (Fixed k)) m n = refl
image_count s None m n = refl

as_many : (f g : ℕ → List ℕ) (xs : List ℕ) → ((s : ℕ) → length (f s) ≡ length (g s)) → length (flat_map f xs) ≡ length (flat_map g xs)
as_many f g [] each = refl
as_many f g (x ∷ xs) each =
    length-append (f x) (flat_map f xs) ∙ ap₂ (λ a b. a + b) (each x) (as_many f g xs each) ∙ sym (length-append (g x) (flat_map g xs))

pub length-images : (Q : Shape) (v w : List ℕ) → length (images_of Q v) ≡ length (images_of Q w)
length-images Q v w = as_many (λ s. image_at s (slice_get Q.slots s) (slice_index v s)) (λ s. image_at s (slice_get Q.slots s) (slice_index w s)) (slot_numbers Q)
    (λ s. image_count s (slice_get Q.slots s) (slice_index v s) (slice_index w s))
