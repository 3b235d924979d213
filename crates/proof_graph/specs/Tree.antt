-- Trees of names: how they stand for what links join (this project's own).
use Rattle.std.specs.Prelude.{List, ℕ, ◌<◌, ◌≤◌, Bool, true, false, All, Some, if◌then◌else◌, length, take, slice_get, slice_index_or, ◌≡◌, ◌≢◌, ◌⊎◌, ◌↔◌}
use Rattle.chase_laws.specs.Joined.{joined, links}
use Rattle.chase_laws.specs.declared.entry.Entry.{Entry}
use Rattle.proof_graph.specs.declared.trees.Node.{Node}
use Rattle.proof_graph.specs.declared.meeting.Meeting.{Meeting}

-- a place at which there is no link
abbrev pub never : ℕ
never = 4294967295

-- a name in a tree of its own
abbrev pub lone_node : Node
lone_node = record { above = 0; since = 4294967295; by_b = false; rank = 0 }

-- the node of a name
abbrev pub node_in : List Node → ℕ → Node
node_in nodes x = slice_index_or nodes x lone_node

-- the place of the link that hung it
abbrev pub since : List Node → ℕ → ℕ
since nodes x = (node_in nodes x).since

-- the name above it
abbrev pub above : List Node → ℕ → ℕ
above nodes x = (node_in nodes x).above

-- whether it is the link's second end that is on its side
abbrev pub by_b : List Node → ℕ → Bool
by_b nodes x = (node_in nodes x).by_b

-- each name is in a tree of its own
abbrev pub AreLone : List Node → Type 0
AreLone nodes = (x : ℕ) → node_in nodes x ≡ lone_node

-- from x the way up, along names that were hung before place t, ends at r
pub data Climbs (nodes : List Node) (t : ℕ) : ℕ → ℕ → Type 0 where
  stays : {x : ℕ} → t ≤ since nodes x → Climbs nodes t x x
  goes : {x r : ℕ} → since nodes x < t → Climbs nodes t (above nodes x) r → Climbs nodes t x r

-- ways up end, since places rise on them; and no two names were hung at one place
pub record IsForest (nodes : List Node) : Type 0 where
  pub inside : (x : ℕ) → x < length nodes → above nodes x < length nodes
  pub rises : (x : ℕ) → x < length nodes → since nodes x < never → since nodes x < since nodes (above nodes x)
  pub once : (x y : ℕ) → x < length nodes → y < length nodes → since nodes x < never → since nodes x ≡ since nodes y → x ≡ y
  pub small : (x : ℕ) → since nodes x ≤ never

-- the end of a link on the side of the name that it hung
abbrev pub near_end : Bool → ℕ × ℕ → ℕ
near_end by_b link = if by_b then link.1 else link.0

-- and its end on the other side
abbrev pub far_end : Bool → ℕ × ℕ → ℕ
far_end by_b link = if by_b then link.0 else link.1

-- a name that hangs below another: its link has an end on either side
pub record IsHung (ps : List (ℕ × ℕ)) (nodes : List Node) (x : ℕ) : Type 0 where
  pub link : ℕ × ℕ
  pub at : slice_get ps (since nodes x) ≡ Some link
  pub below : joined (take (since nodes x) ps) x (near_end (by_b nodes x) link) ≡ true
  pub over : joined (take (since nodes x) ps) (far_end (by_b nodes x) link) (above nodes x) ≡ true

-- the trees stand for the first k links, and for each fewer: two ways up end at one top exactly where these links join
pub record AreTreesOf (ps : List (ℕ × ℕ)) (nodes : List Node) (k : ℕ) : Type 0 where
  pub forest : IsForest nodes
  pub made : (x : ℕ) → since nodes x < never → since nodes x < k
  pub hung : (x : ℕ) → x < length nodes → since nodes x < never → IsHung ps nodes x
  pub joins : (t x y r s : ℕ) → t ≤ k → x < length nodes → y < length nodes → Climbs nodes t x r → Climbs nodes t y s → (r ≡ s) ↔ (joined (take t ps) x y ≡ true)

-- the top x is hung below r, by the link at a place, with this side
pub record Hangs (old new : List Node) (x r place : ℕ) (side : Bool) : Type 0 where
  pub count : length new ≡ length old
  pub others : (y : ℕ) → y ≢ x → (above new y ≡ above old y) × (since new y ≡ since old y) × (by_b new y ≡ by_b old y)
  pub hung : (above new x ≡ r) × (since new x ≡ place) × (by_b new x ≡ side)

-- the link that hung a name, as seen from that name's side or from the other one
pub record Sees (journal : List Entry) (nodes : List Node) (below : ℕ) (from_below : Bool) (m : Meeting) : Type 0 where
  pub place : m.place ≡ since nodes below
  pub entry : Entry
  pub at : slice_get journal (since nodes below) ≡ Some entry
  pub near : m.near ≡ (if from_below then near_end (by_b nodes below) (entry.a, entry.b) else far_end (by_b nodes below) (entry.a, entry.b))
  pub far : m.far ≡ (if from_below then far_end (by_b nodes below) (entry.a, entry.b) else near_end (by_b nodes below) (entry.a, entry.b))

-- x and y come together at a link: they are apart before it, and its ends are joined with x and with y before it
pub record Meets (ps : List (ℕ × ℕ)) (x y : ℕ) (m : Meeting) : Type 0 where
  pub link : ℕ × ℕ
  pub at : slice_get ps m.place ≡ Some link
  pub ends : ((m.near ≡ link.0) × (m.far ≡ link.1)) ⊎ ((m.near ≡ link.1) × (m.far ≡ link.0))
  pub apart : joined (take m.place ps) x y ≡ false
  pub before : joined (take m.place ps) x m.near ≡ true
  pub after : joined (take m.place ps) m.far y ≡ true

-- The ways up from x to u and from y to v come nearer: the last step led up from the name `below` on the side of x to u,
-- and up to then y has come to v.
pub record HasStepped (nodes : List Node) (x y u v below : ℕ) : Type 0 where
  pub inside : below < length nodes
  pub low : since nodes below < never
  pub mine : Climbs nodes (since nodes below) x below
  pub other : Climbs nodes (since nodes below) y v
  pub gap : since nodes below < since nodes v
  pub up : above nodes below ≡ u

-- how x and y come nearer: the last step was on the side of x, or on that of y, or there was none
pub data Approach (nodes : List Node) (x y u v below : ℕ) : Bool → Type 0 where
  not_begun : {from_x : Bool} → u ≡ x → v ≡ y → Approach nodes x y u v below from_x
  by_x : HasStepped nodes x y u v below → Approach nodes x y u v below true
  by_y : HasStepped nodes y x v u below → Approach nodes x y u v below false

-- trees for all entries of a journal, with a place for each name that stands in it
pub record FindWays (journal : List Entry) (nodes : List Node) : Type 0 where
  pub trees : AreTreesOf (links journal) nodes (length journal)
  pub ends : All (λ e. (e.a < length nodes) × (e.b < length nodes)) journal
  pub small : length journal ≤ never
