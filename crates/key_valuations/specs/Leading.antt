-- Leading values: those at slots next to slot 0 (this project's own).
use Rattle.std.specs.Prelude.{List, [], ℕ, false, cond, Some, Contains, map, take, length, slice_get, slice_index, ◌≡◌}
use Rattle.chase_laws.specs.declared.pattern.Slot.TheVariants.{Value, Folded}
use Rattle.chase_laws.specs.declared.pattern.Edge.{Edge}
use Rattle.chase_laws.specs.Shape.{Shape}
use Rattle.chase_laws.specs.Graph.{NumberedGraph, HasRow}
use Rattle.chase_laws.specs.Signature.{SignatureParts}
use Rattle.valuation_groups.specs.Rows.{KeyRows}
use Rattle.key_valuations.specs.Listing.{AreAlikeInValues}
use Rattle.key_valuations.specs.declared.leading.Leading.{Leading}

-- the slot is a value variable, folded or not, and an edge leads to it from slot 0
pub record IsLeading (Q : Shape) (lead : Leading) : Type 0 where
  pub kind : slice_get Q.slots lead.slot ≡ Some (cond lead.folded Folded Value)
  pub edge : (e : Edge) × Contains Q.edges e × (e.from ≡ 0) × (e.pred ≡ lead.pred) × (e.to ≡ lead.slot)

-- the value that a literal has at a leading slot
abbrev pub leading_value : NumberedGraph → Leading → ℕ → ℕ
leading_value G lead n = cond lead.folded (slice_index G.alike n) n

-- the leading values of a valuation
abbrev pub leading_values : NumberedGraph → List Leading → List ℕ → List ℕ
leading_values G leading v = map (λ (lead : Leading). leading_value G lead (slice_index v lead.slot)) leading

-- a row of the leading values of a valuation and its name
abbrev pub leading_parts : NumberedGraph → List Leading → ℕ → List ℕ → SignatureParts
leading_parts G leading key v = record { key = key; name = slice_index v 0; values = leading_values G leading v; images = [] }

-- some valuation at another name has the same values
abbrev pub IsLed : NumberedGraph → Shape → List ℕ → Type 0
IsLed G Q v = (w : List ℕ) × AreAlikeInValues G Q v w

-- such a valuation at a name, whose leading values begin with the given ones
pub record IsLedBy (G : NumberedGraph) (Q : Shape) (leading : List Leading) (name' : ℕ) (front v : List ℕ) : Type 0 where
  pub led : IsLed G Q v
  pub name : slice_index v 0 ≡ name'
  pub begins : take (length front) (leading_values G leading v) ≡ front

-- the literal is a plain one, and no two names have it under the slot's predicate
abbrev pub IsAloneAt : NumberedGraph → Leading → ℕ → Type 0
IsAloneAt G lead literal = (lead.folded ≡ false) × ((m n : ℕ) → HasRow G m lead.pred literal → HasRow G n lead.pred literal → m ≡ n)

-- new rows of the same key: those of before, and the leading values of each list that passes a test
pub record AddsLed (G : NumberedGraph) (leading : List Leading) (Passes : List ℕ → Type 0) (old new : KeyRows) : Type 0 where
  pub key : new.key ≡ old.key
  pub value_count : new.value_count ≡ old.value_count
  pub image_count : new.image_count ≡ old.image_count
  pub kept : (p : SignatureParts) → Contains old.parts p → Contains new.parts p
  pub every : (v : List ℕ) → Passes v → Contains new.parts (leading_parts G leading old.key v)
