-- The canonical text of keys, one among those that say them: for each key its `key` line, its declarations in order, its triples in
-- order, and `end`; with single spaces, canonical terms and line feeds. This project's own.
use Rattle.std.specs.Prelude.{ℕ, List, [], ◌∷◌, ◌++◌, drop, slice_get, codes, Option, Some, None}
use Rattle.std.specs.List.{flat_map}
use Rattle.gk_base.specs.declared.term.Term.{Term}
use Rattle.term_text.specs.CanonicalText.{term_text}
use Rattle.key_file.specs.declared.slot.KeySlot.{KeySlot}
use Rattle.key_file.specs.declared.slot.KeySlot.TheVariants.{Entity, Any, Value, Folded, Fixed}
use Rattle.key_file.specs.declared.edge.KeyEdge.{KeyEdge}
use Rattle.key_file.specs.KeyShape.{KeyShape}

-- a type at the end of a line
abbrev pub typed_end : Term → List ℕ
typed_end type = 0x20 ∷ (term_text type ++ 0x0A ∷ [])

-- the line that declares a variable; a constant has none
abbrev pub declaration_text : KeySlot → List ℕ
declaration_text (Entity name type) = codes "entity ?" ++ (name ++ typed_end type)
declaration_text (Any name type) = codes "any _" ++ (name ++ typed_end type)
declaration_text (Value name) = codes "value $" ++ (name ++ 0x0A ∷ [])
declaration_text (Folded name) = codes "folded $" ++ (name ++ 0x0A ∷ [])
declaration_text (Fixed term) = []

-- a slot as a subject or an object: a variable by its sigil and name, a constant by its term
abbrev pub node_text : KeySlot → List ℕ
node_text (Entity name type) = 0x3F ∷ name
node_text (Any name type) = 0x5F ∷ name
node_text (Value name) = 0x24 ∷ name
node_text (Folded name) = 0x24 ∷ name
node_text (Fixed term) = term_text term

-- a slot that may be missing
abbrev pub optional_node : Option KeySlot → List ℕ
optional_node None = []
optional_node (Some slot) = node_text slot

-- the slot with this number; a valid key has it
abbrev pub node_at : List KeySlot → ℕ → List ℕ
node_at slots place = optional_node (slice_get slots place)

-- the line of a triple
abbrev pub triple_line : List KeySlot → KeyEdge → List ℕ
triple_line slots edge = node_at slots edge.from ++ 0x20 ∷ (term_text edge.pred ++ 0x20 ∷ (node_at slots edge.to ++ 0x0A ∷ []))

-- the line that begins a key: its name, and the type of its first slot
abbrev pub first_line : List ℕ → Option KeySlot → List ℕ
first_line name None = []
first_line name (Some (Entity variable type)) = codes "key " ++ (name ++ typed_end type)
first_line name (Some (Any variable type)) = []
first_line name (Some (Value variable)) = []
first_line name (Some (Folded variable)) = []
first_line name (Some (Fixed term)) = []

-- the lines of a key
abbrev pub key_text : KeyShape → List ℕ
key_text key =
    first_line key.name (slice_get key.slots 0) ++ (flat_map declaration_text (drop 1 key.slots)
    ++ (flat_map (triple_line key.slots) key.edges ++ codes "end" ++ 0x0A ∷ []))

-- the lines of keys
abbrev pub keys_text : List KeyShape → List ℕ
keys_text keys = flat_map key_text keys
