-- Which keys are valid.
use Rattle.std.specs.Prelude.{List, [], ◌∷◌, ℕ, Bool, true, false, Option, Some, None, IsTrue, bytes_eq, ◌==◌, ◌||◌, ◌&&◌, ◌<◌, ◌≤◌, not, nat_lt, nat_le, map, replicate, length, slice_get, All, ◌≡◌, ◌≢◌}
use Rattle.std.specs.List.{list_any, list_all, range_with_len, AllPairs}
use Rattle.gk_base.specs.declared.term.Term.{Term}
use Rattle.term_table.specs.Numbering.{same_term}
use Rattle.chase_laws.specs.declared.pattern.Slot.TheVariants as node
use Rattle.chase_laws.specs.declared.pattern.Edge.{Edge}
use Rattle.chase_laws.specs.Shape.{Shape, marks, AllWithin}
use Rattle.key_file.specs.declared.slot.KeySlot.{KeySlot}
use Rattle.key_file.specs.declared.slot.KeySlot.TheVariants.{Entity, Any, Value, Folded, Fixed}
use Rattle.key_file.specs.declared.edge.KeyEdge.{KeyEdge}
use Rattle.key_file.specs.KeyShape.{KeyShape}

-- an entity variable
abbrev pub is_entity_variable : Option KeySlot → Bool
is_entity_variable (Some (Entity name type)) = true
is_entity_variable (Some (Any name type)) = false
is_entity_variable (Some (Value name)) = false
is_entity_variable (Some (Folded name)) = false
is_entity_variable (Some (Fixed constant)) = false
is_entity_variable None = false

-- a slot that may be the subject of a triple: an entity variable or a wildcard
abbrev pub may_be_subject : Option KeySlot → Bool
may_be_subject (Some (Entity name type)) = true
may_be_subject (Some (Any name type)) = true
may_be_subject (Some (Value name)) = false
may_be_subject (Some (Folded name)) = false
may_be_subject (Some (Fixed constant)) = false
may_be_subject None = false

-- The same variable or the same constant (this project's own). Entity variables, wildcards and value variables have
-- names of their own; a value variable is the same whether it is folded or not.
abbrev pub same_slot : KeySlot → KeySlot → Bool
same_slot (Entity a t) (Entity b u) = bytes_eq a b
same_slot (Any a t) (Any b u) = bytes_eq a b
same_slot (Value a) (Value b) = bytes_eq a b
same_slot (Value a) (Folded b) = bytes_eq a b
same_slot (Folded a) (Value b) = bytes_eq a b
same_slot (Folded a) (Folded b) = bytes_eq a b
same_slot (Fixed c) (Fixed d) = same_term c d
same_slot s t = false

-- the same triple of slots and predicate
abbrev pub same_key_edge : KeyEdge → KeyEdge → Bool
same_key_edge e f = e.from == f.from && e.to == f.to && same_term e.pred f.pred

-- no element is the same as one after it
abbrev pub all_differ : {X : Type 0} → (X → X → Bool) → List X → Bool
all_differ same [] = true
all_differ same (x ∷ xs) = not (list_any (same x) xs) && all_differ same xs

-- a slot that some edge has as an end
abbrev pub is_used : List KeyEdge → ℕ → Bool
is_used edges slot = list_any (λ e. e.from == slot || e.to == slot) edges

-- an edge without its predicate
abbrev pub outline_edge : KeyEdge → Edge
outline_edge e = record { from = e.from; pred = 0; to = e.to }

-- a pattern of so many slots and of these edges, in which walks are those of the key
abbrev pub outline : ℕ → List KeyEdge → Shape
outline count edges = record { slots = replicate count node.Value; edges = map outline_edge edges }

-- A walk, which passes edges in either direction, leads from slot 0 to each of so many slots; where there is one, there
-- is one of at most as many edges as there are slots.
abbrev pub is_connected : ℕ → List KeyEdge → Bool
is_connected count edges = list_all (λ m. m) (marks (outline count edges) count)

-- A valid key (this project's own limits): 1 to 16 different slots, the first an entity variable, and 1 to 32 different
-- edges between slots, each from an entity variable or a wildcard. Each slot stands on an edge, and the key is connected.
abbrev pub is_key : KeyShape → Bool
is_key key =
    is_entity_variable (slice_get key.slots 0) && nat_le (length key.slots) 16 && all_differ same_slot key.slots
    && nat_lt 0 (length key.edges) && nat_le (length key.edges) 32 && all_differ same_key_edge key.edges
    && list_all (λ e. nat_lt e.to (length key.slots) && may_be_subject (slice_get key.slots e.from)) key.edges
    && list_all (is_used key.edges) (range_with_len 0 (length key.slots))
    && is_connected (length key.slots) key.edges

abbrev pub IsKey : KeyShape → Type 0
IsKey key = IsTrue (is_key key)

-- what the test says, fact by fact
pub record KeyFacts (key : KeyShape) : Type 0 where
  pub first : (name : List ℕ) × (type : Term) × (slice_get key.slots 0 ≡ Some (Entity name type))
  pub few_slots : length key.slots ≤ 16
  pub slots_differ : AllPairs (λ s t. same_slot s t ≡ false) key.slots
  pub some_edges : 0 < length key.edges
  pub few_edges : length key.edges ≤ 32
  pub edges_differ : AllPairs (λ e f. e ≢ f) key.edges
  pub ends : All (λ e. IsTrue (may_be_subject (slice_get key.slots e.from)) × (e.to < length key.slots)) key.edges
  pub used : (slot : ℕ) → slot < length key.slots → IsTrue (is_used key.edges slot)
  pub connected : AllWithin (outline (length key.slots) key.edges) (length key.slots)
