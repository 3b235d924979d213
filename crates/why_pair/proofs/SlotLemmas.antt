-- Each entity variable but the first has a support.
use Rattle.std.proofs.Common.{List, [], ◌∷◌, ℕ, zero, suc, ◌+◌, Some, slice_get, ◌≡◌, ◌≢◌, refl, ap, ◌∙◌, arith}
use Rattle.chase_laws.specs.declared.pattern.Slot.{Slot}
use Rattle.chase_laws.specs.declared.pattern.Slot.TheVariants.{Entity, Any, Value, Folded, Fixed}
use Rattle.proof_file.specs.Tells.{entities_from, supported_slots}

-- an entity variable stands among those that are counted from a slot on
entity_has : (first : ℕ) (slots : List Slot) (s t : ℕ) → slice_get slots s ≡ Some (Entity t) → (k : ℕ) × (slice_get (entities_from first slots) k ≡ Some (first + s))
entity_has first [] s t at = absurd cc
entity_has first (Entity u ∷ slots) zero t at = (0, (let e : first ≡ first + 0 = omega arith in ap Some e))
entity_has first (Any u ∷ slots) zero t at = absurd cc
entity_has first (Value ∷ slots) zero t at = absurd cc
entity_has first (Folded ∷ slots) zero t at = absurd cc
entity_has first (Fixed c ∷ slots) zero t at = absurd cc
entity_has first (Entity u ∷ slots) (suc s) t at = let r = entity_has (first + 1) slots s t at in let e : first + 1 + s ≡ first + suc s = omega arith in (suc r.0, r.1 ∙ ap Some e)
entity_has first (Any u ∷ slots) (suc s) t at = let r = entity_has (first + 1) slots s t at in let e : first + 1 + s ≡ first + suc s = omega arith in (r.0, r.1 ∙ ap Some e)
entity_has first (Value ∷ slots) (suc s) t at = let r = entity_has (first + 1) slots s t at in let e : first + 1 + s ≡ first + suc s = omega arith in (r.0, r.1 ∙ ap Some e)
entity_has first (Folded ∷ slots) (suc s) t at = let r = entity_has (first + 1) slots s t at in let e : first + 1 + s ≡ first + suc s = omega arith in (r.0, r.1 ∙ ap Some e)
entity_has first (Fixed c ∷ slots) (suc s) t at = let r = entity_has (first + 1) slots s t at in let e : first + 1 + s ≡ first + suc s = omega arith in (r.0, r.1 ∙ ap Some e)

pub supported_has : (slots : List Slot) (s t : ℕ) → slice_get slots s ≡ Some (Entity t) → s ≢ 0 → (k : ℕ) × (slice_get (supported_slots slots) k ≡ Some s)
supported_has [] s t at nonzero = absurd cc
supported_has (slot ∷ slots) zero t at nonzero = absurd (nonzero refl)
supported_has (slot ∷ slots) (suc s) t at nonzero = let r = entity_has 1 slots s t at in let e : 1 + s ≡ suc s = omega arith in (r.0, r.1 ∙ ap Some e)
