-- Slots that a step has supports for.
use Rattle.std.proofs.Common.{List, [], ◌∷◌, ℕ, zero, suc, ◌+◌, Some, slice_get, ◌≡◌, ◌≢◌, refl, ap, ◌∙◌, arith}
use Rattle.chase_laws.specs.declared.pattern.Slot.{Slot}
use Rattle.chase_laws.specs.declared.pattern.Slot.TheVariants.{Entity, Any, Value, Folded, Fixed}
use Rattle.proof_file.specs.Tells.{entities_from, supported_slots}

-- where a number among those of entity variables stands
pub record EntityAt (slots : List Slot) (first s : ℕ) : Type 0 where
  pub at : ℕ
  pub is : s ≡ first + at
  pub type : ℕ
  pub there : slice_get slots at ≡ Some (Entity type)

later : (slot : Slot) (slots : List Slot) (first s : ℕ) → EntityAt slots (first + 1) s → EntityAt (slot ∷ slots) first s
later slot slots first s e = let m = e.is in record { at = suc e.at; is = omega arith; type = e.type; there = e.there }

entity_at : (first : ℕ) (slots : List Slot) (k s : ℕ) → slice_get (entities_from first slots) k ≡ Some s → EntityAt slots first s
entity_at first [] k s e = absurd cc
entity_at first (Entity t ∷ slots) zero s e = let same : first ≡ s = cc in record { at = 0; is = omega arith; type = t; there = refl }
entity_at first (Entity t ∷ slots) (suc k) s e = later (Entity t) slots first s (entity_at (first + 1) slots k s e)
entity_at first (Any t ∷ slots) k s e = later (Any t) slots first s (entity_at (first + 1) slots k s e)
entity_at first (Value ∷ slots) k s e = later Value slots first s (entity_at (first + 1) slots k s e)
entity_at first (Folded ∷ slots) k s e = later Folded slots first s (entity_at (first + 1) slots k s e)
entity_at first (Fixed c ∷ slots) k s e = later (Fixed c) slots first s (entity_at (first + 1) slots k s e)

-- a slot that has a support is an entity variable, and not the first
pub supported_at : (slots : List Slot) (k s : ℕ) → slice_get (supported_slots slots) k ≡ Some s → (s ≢ 0) × (t : ℕ) × (slice_get slots s ≡ Some (Entity t))
supported_at [] k s e = absurd cc
supported_at (slot ∷ slots) k s e =
    let r = entity_at 1 slots k s e in
    let m = r.is in
    let n : s ≡ suc r.at = omega arith in
    ((λ z. absurd (omega arith)), r.type, ap (slice_get (slot ∷ slots)) n ∙ r.there)
