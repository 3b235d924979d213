-- The legs of walks along a pattern. All of this is this project's own.
use Rattle.std.specs.Prelude.{List, ℕ, Bool, true, false, Some, All, Any, AllPairs, IsTrue, Contains, length, slice_get, slice_index, ◌≡◌, ◌≢◌, ◌≤◌, ◌+◌, ◌⊎◌, ◌↔◌}
use Rattle.chase_laws.specs.declared.pattern.Slot.{Slot}
use Rattle.chase_laws.specs.declared.pattern.Edge.{Edge}
use Rattle.chase_laws.specs.Shape.{Shape, reached, is_entity}
use Rattle.chase_laws.specs.Near.{edge_of}
use Rattle.key_plan.specs.Distance.{IsDistance}
use Rattle.near_lists.specs.declared.legs.Leg.{Leg}

-- the edge between two slots, as it is passed forward or backward
abbrev pub edge_by : Bool → ℕ → ℕ → ℕ → Edge
edge_by true near pred far = edge_of near pred far
edge_by false near pred far = edge_of far pred near

-- the edge of the pattern that a leg goes along
abbrev pub edge_along : Leg → Edge
edge_along leg = edge_by leg.forward leg.near leg.pred leg.far

-- the leg leads from a slot at this distance to one at the next
pub record IsAtLevel (distances : List ℕ) (level : ℕ) (leg : Leg) : Type 0 where
  pub near : slice_index distances leg.near ≡ level
  pub far : slice_index distances leg.far ≡ level + 1

-- the leg goes along this edge, from a slot at this distance to one at the next, and tells what stands there
pub record IsLegAt (slots : List Slot) (distances : List ℕ) (level : ℕ) (edge : Edge) (leg : Leg) : Type 0 where
  pub along : edge_along leg ≡ edge
  pub at : IsAtLevel distances level leg
  pub slot : slice_get slots leg.far ≡ Some leg.slot

-- the leg is one of the pattern's from a slot at this distance
abbrev pub IsLegOf : Shape → List ℕ → ℕ → Leg → Type 0
IsLegOf Q distances level leg = (edge : Edge) × Contains Q.edges edge × IsLegAt Q.slots distances level edge leg

-- each leg goes from one distance to the next, those from smaller distances first, and none from above a level
pub record RiseTo (distances : List ℕ) (level : ℕ) (legs : List Leg) : Type 0 where
  pub next : All (λ l. slice_index distances l.far ≡ slice_index distances l.near + 1) legs
  pub below : All (λ l. slice_index distances l.near ≤ level) legs
  pub rise : AllPairs (λ l m. slice_index distances l.near ≤ slice_index distances m.near) legs

-- a leg of a pattern: along one of its edges, from a slot to one that is further from slot 0
pub record IsLeg (Q : Shape) (leg : Leg) : Type 0 where
  pub edge : Contains Q.edges (edge_along leg)
  pub slot : slice_get Q.slots leg.far ≡ Some leg.slot
  pub distance : ℕ
  pub near : IsDistance Q leg.near distance
  pub far : ¬ (IsTrue (reached Q distance leg.far))

-- no leg ends where it begins itself or an earlier one does
abbrev pub AreOrdered : List Leg → Type 0
AreOrdered legs = (i j : ℕ) (l m : Leg) → slice_get legs i ≡ Some l → slice_get legs j ≡ Some m → j ≤ i → l.far ≢ m.near

-- all legs of a pattern, in order
pub record AreAllLegs (Q : Shape) (legs : List Leg) : Type 0 where
  pub exact : (leg : Leg) → Contains legs leg ↔ IsLeg Q leg
  pub ordered : AreOrdered legs

-- a leg ends at an entity variable, or where one of the legs begins
abbrev pub LeadsOn : List Leg → Leg → Type 0
LeadsOn legs leg = IsTrue (is_entity (Some leg.slot)) ⊎ Any (λ l. l.near ≡ leg.far) legs

-- legs of a pattern in order, among them all that lead on
pub record AreLegs (Q : Shape) (legs : List Leg) : Type 0 where
  pub only : All (IsLeg Q) legs
  pub every : (leg : Leg) → IsLeg Q leg → LeadsOn legs leg → Contains legs leg
  pub ordered : AreOrdered legs

-- some of the legs in order, among them all that lead on
pub record AreUseful (all legs : List Leg) : Type 0 where
  pub only : All (Contains all) legs
  pub every : (leg : Leg) → Contains all leg → LeadsOn legs leg → Contains legs leg
  pub ordered : AreOrdered legs

-- for each pattern its legs that lead on
pub record AreTours (patterns : List Shape) (tours : List (List Leg)) : Type 0 where
  pub as_many : length tours ≡ length patterns
  pub each : (k : ℕ) (Q : Shape) (legs : List Leg) → slice_get patterns k ≡ Some Q → slice_get tours k ≡ Some legs → AreLegs Q legs
