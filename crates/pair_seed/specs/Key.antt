-- What one edge of a key asks of two names, by its place (this project's own).
use Rattle.std.specs.Prelude.{ℕ, Bool, true, false, Some, slice_get, ◌≡◌}
use Rattle.chase_laws.specs.declared.pattern.Slot.{Slot}
use Rattle.chase_laws.specs.declared.pattern.Slot.TheVariants.{Value, Folded}
use Rattle.chase_laws.specs.declared.pattern.Edge.{Edge}
use Rattle.chase_laws.specs.Shape.{Shape}
use Rattle.chase_laws.specs.Graph.{NumberedGraph}
use Rattle.chase_laws.specs.Candidate.{SharesAlong}
use Rattle.pair_seed.specs.declared.lead.Lead.{Lead}

-- the two share what the edge at a place asks for, if there is one
abbrev pub SharesAtPlace : NumberedGraph → Shape → ℕ → ℕ → ℕ → Type 0
SharesAtPlace G Q place a b = (e : Edge) → slice_get Q.edges place ≡ Some e → SharesAlong G Q a b e

-- a value variable, folded or not
abbrev pub value_slot : Bool → Slot
value_slot true = Folded
value_slot false = Value

-- the edge at the place leads from slot 0 to a value variable, by this predicate
pub record IsLead (Q : Shape) (lead : Lead) : Type 0 where
  pub edge : Edge
  pub found : slice_get Q.edges lead.place ≡ Some edge
  pub from : edge.from ≡ 0
  pub pred : edge.pred ≡ lead.pred
  pub to : slice_get Q.slots edge.to ≡ Some (value_slot lead.folded)
