-- Pairing: which numbers can go together at a slot, as far as a given number of edges tells ("Keys for Graphs", section
-- 4.2, to a fixed depth).
use Rattle.std.specs.Prelude.{List, ℕ, zero, suc, Some, All, slice_get, ◌≡◌, ⊤}
use Rattle.chase_laws.specs.declared.pattern.Slot.{Slot}
use Rattle.chase_laws.specs.declared.pattern.Slot.TheVariants.{Entity, Any, Value, Folded, Fixed}
use Rattle.chase_laws.specs.Shape.{Shape}
use Rattle.chase_laws.specs.Graph.{NumberedGraph, HasRow, AreAlike}
use Rattle.chase_laws.specs.Valuation.{FitsSlot, Designates}

-- two numbers can go together at a slot, whatever is the same
abbrev pub GoTogether : NumberedGraph → Slot → ℕ → ℕ → Type 0
GoTogether G (Entity t) u w = ⊤
GoTogether G (Any t) u w = ⊤
GoTogether G Value u w = u ≡ w
GoTogether G Folded u w = AreAlike G u w
GoTogether G (Fixed c) u w = u ≡ w

-- both are fit for slot s, and they can go together there
abbrev pub PairedHere : NumberedGraph → Shape → ℕ → ℕ → ℕ → Type 0
PairedHere G Q s u w = (slot : Slot) → slice_get Q.slots s ≡ Some slot → FitsSlot G slot u × FitsSlot G slot w × GoTogether G slot u w

-- Paired to depth 0: paired here. To depth d + 1: also, along each edge at slot s, rows lead to two numbers that are
-- paired to depth d at its other end.
abbrev pub ArePaired : NumberedGraph → Shape → ℕ → ℕ → ℕ → ℕ → Type 0
ArePaired G Q zero s u w = PairedHere G Q s u w
ArePaired G Q (suc d) s u w =
    PairedHere G Q s u w
    × All (λ e. e.from ≡ s → (u' w' : ℕ) × ArePaired G Q d e.to u' w' × HasRow G u e.pred u' × HasRow G w e.pred w') Q.edges
    × All (λ e. e.to ≡ s → (u' w' : ℕ) × ArePaired G Q d e.from u' w' × HasRow G u' e.pred u × HasRow G w' e.pred w) Q.edges

-- Some key pairs a and b to a depth: it designates a type of both, and they are paired to that depth at slot 0.
pub record ArePairedBy (G : NumberedGraph) (K : List Shape) (depth a b : ℕ) : Type 0 where
  pub key : ℕ
  pub pattern : Shape
  pub found : slice_get K key ≡ Some pattern
  pub left : Designates G pattern a
  pub right : Designates G pattern b
  pub paired : ArePaired G pattern depth 0 a b
