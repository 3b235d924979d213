-- Rows to which the parts of valuations are added (this project's own).
use Rattle.std.specs.Prelude.{List, ℕ, Option, Some, Contains, slice_get, slice_index, ⊤, ◌≡◌, ◌≢◌, ◌≤◌, ◌⊎◌}
use Rattle.chase_laws.specs.declared.pattern.Slot.{Slot}
use Rattle.chase_laws.specs.declared.pattern.Slot.TheVariants.{Entity, Any as AnyOf, Value, Folded, Fixed}
use Rattle.chase_laws.specs.Shape.{Shape}
use Rattle.chase_laws.specs.Graph.{NumberedGraph}
use Rattle.chase_laws.specs.Valuation.{IsValuation}
use Rattle.chase_laws.specs.Signature.{SignatureParts, parts_of, values_of}
use Rattle.key_plan.specs.Route.{Route}
use Rattle.valuation_groups.specs.Rows.{KeyRows, IsShared, StandOnce, AscendByValues}
use Rattle.key_valuations.specs.Part.{IsPlaced}
use Rattle.key_valuations.specs.Marks.{IsCompletedBy, AreMarkedBySlots}

-- a slot that gives no value and no image, wherever it stands: a wildcard or a constant
abbrev pub IsBare : Slot → Type 0
IsBare (Entity t) = ⊥
IsBare (AnyOf t) = ⊤
IsBare Value = ⊥
IsBare Folded = ⊥
IsBare (Fixed c) = ⊤

-- the slots from a place on are bare
abbrev pub AreBareFrom : Shape → ℕ → Type 0
AreBareFrom Q place = (s : ℕ) (slot : Slot) → place ≤ s → slice_get Q.slots s ≡ Some slot → IsBare slot

-- a list that, in the order of the plan, is a valuation that begins with p and has the marks
pub record IsReached (G : NumberedGraph) (R : Route) (marks : List (Option ℕ)) (p v : List ℕ) : Type 0 where
  pub ordered : List ℕ
  pub placed : IsPlaced R.place ordered v
  pub completed : IsCompletedBy G R.shape marks p ordered

-- new rows of the same key: those of before, and parts of lists that a test passes, of each list that it passes
pub record AddsParts (G : NumberedGraph) (Q : Shape) (Passes : List ℕ → Type 0) (old new : KeyRows) : Type 0 where
  pub key : new.key ≡ old.key
  pub value_count : new.value_count ≡ old.value_count
  pub image_count : new.image_count ≡ old.image_count
  pub kept : (p : SignatureParts) → Contains old.parts p → Contains new.parts p
  pub only : (p : SignatureParts) → Contains new.parts p → Contains old.parts p ⊎ ((v : List ℕ) × Passes v × (p ≡ parts_of G old.key Q v))
  pub every : (v : List ℕ) → Passes v → Contains new.parts (parts_of G old.key Q v)

-- new rows of the same key: those of before, parts of valuations, and of each list that passes a test
pub record AddsSome (G : NumberedGraph) (Q : Shape) (Passes : List ℕ → Type 0) (old new : KeyRows) : Type 0 where
  pub key : new.key ≡ old.key
  pub value_count : new.value_count ≡ old.value_count
  pub image_count : new.image_count ≡ old.image_count
  pub kept : (p : SignatureParts) → Contains old.parts p → Contains new.parts p
  pub only : (p : SignatureParts) → Contains new.parts p → Contains old.parts p ⊎ ((v : List ℕ) × IsValuation G Q v × (p ≡ parts_of G old.key Q v))
  pub every : (v : List ℕ) → Passes v → Contains new.parts (parts_of G old.key Q v)

-- a valuation at a name with the marks
pub record IsAt (G : NumberedGraph) (Q : Shape) (place : List ℕ) (marks : List (Option ℕ)) (name' : ℕ) (v : List ℕ) : Type 0 where
  pub valuation : IsValuation G Q v
  pub marked : AreMarkedBySlots G Q place marks v
  pub name : slice_index v 0 ≡ name'

-- two valuations at different names have the same values
pub record AreAlikeInValues (G : NumberedGraph) (Q : Shape) (v w : List ℕ) : Type 0 where
  pub left : IsValuation G Q v
  pub right : IsValuation G Q w
  pub apart : slice_index v 0 ≢ slice_index w 0
  pub values : values_of G Q v ≡ values_of G Q w

-- rows with parts of valuations of a key, and those of each that has the values of one at another name
pub record AreRowsOf (G : NumberedGraph) (Q : Shape) (key' : ℕ) (rows : KeyRows) : Type 0 where
  pub key : rows.key ≡ key'
  pub only : (p : SignatureParts) → Contains rows.parts p → (v : List ℕ) × IsValuation G Q v × (p ≡ parts_of G key' Q v)
  pub every : (v w : List ℕ) → AreAlikeInValues G Q v w → Contains rows.parts (parts_of G key' Q v)

-- such rows, each once, in order, and of each the values at another name
pub record AreSharedRowsOf (G : NumberedGraph) (Q : Shape) (key : ℕ) (rows : KeyRows) : Type 0 where
  pub rows_of : AreRowsOf G Q key rows
  pub shared : (p : SignatureParts) → Contains rows.parts p → IsShared rows.parts p
  pub once : StandOnce rows.parts
  pub sorted : AscendByValues rows.parts
