-- What a chase works on, and what it has entered (this project's own).
use Rattle.std.specs.Prelude.{List, ℕ, All, Contains, Some, length, drop, slice_get, slice_index, ◌≡◌, ◌<◌}
use Rattle.list_pool.specs.Pool.{list_at}
use Rattle.chase_laws.specs.declared.entry.Entry.{Entry}
use Rattle.chase_laws.specs.Shape.{Shape, PatternFacts}
use Rattle.chase_laws.specs.Graph.{NumberedGraph, IsGraph}
use Rattle.chase_laws.specs.Chase.{IsDerivation, IsLean}
use Rattle.chase_laws.specs.Signature.{ArePartsOfSome}
use Rattle.class_book.specs.Classes.{Classes}
use Rattle.key_plan.specs.Route.{Route}
use Rattle.paired_search.specs.Plans.{ArePlans}
use Rattle.key_valuations.specs.Parts.{HasParts}
use Rattle.valuation_groups.specs.Groups.{GroupShape, group_at, row_in, parts_in}

-- the group at a place has a row of this number
abbrev pub HasRowAt : List GroupShape → ℕ → ℕ → Type 0
HasRowAt groups g i = (g < length groups) × (i < length (group_at groups g).rows)

-- the name and the images of a row are below a number
pub record IsNamedRow (names : ℕ) (row : List ℕ) : Type 0 where
  pub name : slice_index row 0 < names
  pub images : All (λ m. m < names) (drop 1 row)

-- all rows of a group are those of valuations of one key, and have names and as many images as each other
pub record IsGroupOf (G : NumberedGraph) (K : List Shape) (group : GroupShape) : Type 0 where
  pub parts : (i : ℕ) → i < length group.rows → ArePartsOfSome G K (parts_in group (row_in group i))
  pub named : (i : ℕ) → i < length group.rows → IsNamedRow (length G.literal) (row_in group i)
  pub wide : (i j : ℕ) → i < length group.rows → j < length group.rows → length (drop 1 (row_in group i)) ≡ length (drop 1 (row_in group j))

-- each name's list has each group that has the name among its images, and numbers of groups alone
pub record AreOwnersOf (groups : List GroupShape) (names : ℕ) (owners : List (List ℕ)) : Type 0 where
  pub one_each : length owners ≡ names
  pub every : (g i m : ℕ) → HasRowAt groups g i → Contains (drop 1 (row_in (group_at groups g) i)) m → Contains (list_at owners m) g
  pub only : (m g : ℕ) → Contains (list_at owners m) g → g < length groups

-- a graph, keys with their plans, groups of valuations, and for each name its owners
pub record Work : Type 0 where
  pub graph : NumberedGraph
  pub patterns : List Shape
  pub plans : List Route
  pub groups : List GroupShape
  pub owners : List (List ℕ)

-- what the test of valid patterns says of each key
abbrev pub AreFacts : List Shape → Type 0
AreFacts patterns = (key : ℕ) (Q : Shape) → slice_get patterns key ≡ Some Q → PatternFacts Q

-- each fits the graph and the keys
pub record IsWork (W : Work) : Type 0 where
  pub numbered : IsGraph W.graph
  pub facts : AreFacts W.patterns
  pub planned : ArePlans W.patterns W.plans
  pub grouped : (g : ℕ) → g < length W.groups → IsGroupOf W.graph W.patterns (group_at W.groups g)
  pub owned : AreOwnersOf W.groups (length W.graph.literal) W.owners

-- an entry of two rows of a group, each with a valuation that has its parts
pub record IsEntryOf (G : NumberedGraph) (K : List Shape) (group : GroupShape) (i j : ℕ) (e : Entry) : Type 0 where
  pub pattern : Shape
  pub key : slice_get K e.key ≡ Some pattern
  pub left : HasParts G pattern e.a group.values (drop 1 (row_in group i)) e.left
  pub right : HasParts G pattern e.b group.values (drop 1 (row_in group j)) e.right
  pub a : e.a ≡ slice_index (row_in group i) 0
  pub b : e.b ≡ slice_index (row_in group j) 0

-- a book over the names of a graph, whose journal is a lean derivation, with room for as many entries as there are names
pub record IsDerived (G : NumberedGraph) (K : List Shape) (book : Classes) : Type 0 where
  pub derivation : IsDerivation G K book.journal
  pub lean : IsLean book.journal
  pub count : length book.labels ≡ length G.literal
  pub room : book.room ≡ length G.literal
