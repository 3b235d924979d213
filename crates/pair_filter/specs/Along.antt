-- What pairing asks along one edge, and of lists of numbers (this project's own).
use Rattle.std.specs.Prelude.{List, ℕ, suc, Option, Contains, Some, None, slice_get, ⊤, ◌≡◌, ◌≢◌}
use Rattle.chase_laws.specs.declared.pattern.Edge.{Edge}
use Rattle.chase_laws.specs.declared.pattern.Slot.TheVariants.{Value}
use Rattle.chase_laws.specs.Shape.{Shape}
use Rattle.chase_laws.specs.Graph.{NumberedGraph, HasRow}
use Rattle.chase_laws.specs.Pairing.{PairedHere, ArePaired}

-- If the edge begins at slot s, rows lead from u and w to two numbers that are paired to depth d at its end.
abbrev pub ArePairedForth : NumberedGraph → Shape → ℕ → Edge → ℕ → ℕ → ℕ → Type 0
ArePairedForth G Q d e s u w = e.from ≡ s → (u' w' : ℕ) × ArePaired G Q d e.to u' w' × HasRow G u e.pred u' × HasRow G w e.pred w'

-- if it ends at slot s, rows lead from two such numbers at its beginning to u and w
abbrev pub ArePairedBack : NumberedGraph → Shape → ℕ → Edge → ℕ → ℕ → ℕ → Type 0
ArePairedBack G Q d e s u w = e.to ≡ s → (u' w' : ℕ) × ArePaired G Q d e.from u' w' × HasRow G u' e.pred u × HasRow G w' e.pred w

-- for each end of the edge that is at slot s
abbrev pub ArePairedAlong : NumberedGraph → Shape → ℕ → Edge → ℕ → ℕ → ℕ → Type 0
ArePairedAlong G Q d e s u w = ArePairedForth G Q d e s u w × ArePairedBack G Q d e s u w

-- Paired to a depth, where the edge at a skipped place, if there is one, is not asked.
pub record ArePairedExcept (G : NumberedGraph) (Q : Shape) (skipped : Option ℕ) (depth s u w : ℕ) : Type 0 where
  pub here : PairedHere G Q s u w
  pub along : (d k : ℕ) (e : Edge) → depth ≡ suc d → skipped ≢ Some k → slice_get Q.edges k ≡ Some e → ArePairedAlong G Q d e s u w

-- The edge at a place may be skipped at the names that it leads to, where these are looked at to depth 1: it leads back to
-- the names that it came from, of which depth 0 asks no more than that they are paired here. Not where its ends are one
-- slot, since it leads on from there, too.
abbrev pub MaySkip : Option ℕ → ℕ → ℕ → Edge → Type 0
MaySkip None depth place e = ⊤
MaySkip (Some k) depth place e = (k ≡ place) × (depth ≡ 1) × (e.from ≢ e.to)

-- two numbers, one of each list, are paired
pub record HavePaired (G : NumberedGraph) (Q : Shape) (skipped : Option ℕ) (d s : ℕ) (us ws : List ℕ) : Type 0 where
  pub left : ℕ
  pub right : ℕ
  pub in_left : Contains us left
  pub in_right : Contains ws right
  pub paired : ArePairedExcept G Q skipped d s left right

-- a number of the list is paired with u
pub record HasPartner (G : NumberedGraph) (Q : Shape) (skipped : Option ℕ) (d s u : ℕ) (ws : List ℕ) : Type 0 where
  pub right : ℕ
  pub in_right : Contains ws right
  pub paired : ArePairedExcept G Q skipped d s u right

-- a number of the list is paired with itself
pub record HasAlone (G : NumberedGraph) (Q : Shape) (skipped : Option ℕ) (d s : ℕ) (ns : List ℕ) : Type 0 where
  pub number : ℕ
  pub in_list : Contains ns number
  pub paired : ArePairedExcept G Q skipped d s number number

-- the edge, which is not skipped, leads from slot s to a value variable
pub record IsValueEdge (Q : Shape) (skipped : Option ℕ) (s : ℕ) (e : Edge) : Type 0 where
  pub place : ℕ
  pub edge : slice_get Q.edges place ≡ Some e
  pub asked : skipped ≢ Some place
  pub from : e.from ≡ s
  pub to : slice_get Q.slots e.to ≡ Some Value

-- a number that both lists have is paired with itself
pub record HaveCommon (G : NumberedGraph) (Q : Shape) (skipped : Option ℕ) (d s : ℕ) (us ws : List ℕ) : Type 0 where
  pub number : ℕ
  pub in_left : Contains us number
  pub in_right : Contains ws number
  pub paired : ArePairedExcept G Q skipped d s number number

-- a number that both lists have is paired with u
pub record HaveCommonPartner (G : NumberedGraph) (Q : Shape) (skipped : Option ℕ) (d s u : ℕ) (xs ys : List ℕ) : Type 0 where
  pub right : ℕ
  pub in_first : Contains xs right
  pub in_second : Contains ys right
  pub paired : ArePairedExcept G Q skipped d s u right

-- whatever is paired here at slot s is paired there to the depth, as no edge is asked
abbrev pub IsLeaf : Shape → Option ℕ → ℕ → ℕ → Type 0
IsLeaf Q skipped depth s = (G : NumberedGraph) (u w : ℕ) → PairedHere G Q s u w → ArePairedExcept G Q skipped depth s u w
