-- Keys as patterns over names.
use Rattle.std.specs.Prelude.{List, [], ◌∷◌, ◌++◌, map, ◌≡◌}
use Rattle.std.specs.List.{flat_map}
use Rattle.gk_base.specs.declared.term.Term.{Term}
use Rattle.chase_laws.specs.declared.pattern.Slot.{Slot}
use Rattle.chase_laws.specs.declared.pattern.Slot.TheVariants as node
use Rattle.chase_laws.specs.declared.pattern.Edge.{Edge}
use Rattle.chase_laws.specs.Shape.{Shape}
use Rattle.term_table.specs.Numbering.{place_of}
use Rattle.key_file.specs.declared.slot.KeySlot.{KeySlot}
use Rattle.key_file.specs.declared.slot.KeySlot.TheVariants.{Entity, Any, Value, Folded, Fixed}
use Rattle.key_file.specs.declared.edge.KeyEdge.{KeyEdge}
use Rattle.key_file.specs.KeyShape.{KeyShape}

-- the terms of a slot: the type of an entity variable or a wildcard, or the constant
abbrev pub slot_terms : KeySlot → List Term
slot_terms (Entity name type) = type ∷ []
slot_terms (Any name type) = type ∷ []
slot_terms (Value name) = []
slot_terms (Folded name) = []
slot_terms (Fixed constant) = constant ∷ []

-- the terms of a key in the order in which they are numbered: each slot's type or constant, then each edge's predicate
abbrev pub terms_of_key : KeyShape → List Term
terms_of_key key = flat_map slot_terms key.slots ++ map (λ e. e.pred) key.edges

-- the terms of keys, key by key (this project's own order)
abbrev pub key_terms : List KeyShape → List Term
key_terms keys = flat_map terms_of_key keys

-- a slot with the numbers of its terms
abbrev pub slot_of : List Term → KeySlot → Slot
slot_of names (Entity name type) = node.Entity (place_of names type)
slot_of names (Any name type) = node.Any (place_of names type)
slot_of names (Value name) = node.Value
slot_of names (Folded name) = node.Folded
slot_of names (Fixed constant) = node.Fixed (place_of names constant)

-- an edge with the number of its predicate
abbrev pub numbered_edge : List Term → KeyEdge → Edge
numbered_edge names e = record { from = e.from; pred = place_of names e.pred; to = e.to }

-- a key's pattern: its terms are numbers, and its names are gone
abbrev pub shape_of : List Term → KeyShape → Shape
shape_of names key = record { slots = map (slot_of names) key.slots; edges = map (numbered_edge names) key.edges }

-- the patterns of keys, in the keys' order
abbrev pub patterns_of : List Term → List KeyShape → List Shape
patterns_of names keys = map (shape_of names) keys

-- the names and some more behind them
abbrev pub HasMoreNames : List Term → List Term → Type 0
HasMoreNames names more = (rest : List Term) × (more ≡ names ++ rest)
