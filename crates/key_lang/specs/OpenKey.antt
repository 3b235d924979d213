-- A key that has begun and not yet ended, and what its statements do to it. The limits are this project's own.
use Rattle.std.specs.Prelude.{ℕ, ◌+◌, ◌&&◌, ◌==◌, not, nat_lt, Bool, false, List, [], ◌∷◌, ◌++◌, length, map, codes, bytes_eq, if◌then◌else◌, Option, Some, None, Result, Ok, Err, position}
use Rattle.std.specs.List.{list_all, list_any, range_with_len}
use Rattle.gk_base.specs.declared.term.Term.{Term}
use Rattle.term_table.specs.Numbering.{same_term}
use Rattle.key_file.specs.declared.slot.KeySlot.{KeySlot}
use Rattle.key_file.specs.declared.slot.KeySlot.TheVariants.{Entity, Any, Value, Folded, Fixed}
use Rattle.key_file.specs.declared.edge.KeyEdge.{KeyEdge}
use Rattle.key_file.specs.KeyShape.{KeyShape}
use Rattle.key_file.specs.Key.{is_used, is_connected}
use Rattle.key_file.specs.KeyFile.{has_name}
use Rattle.key_lang.specs.declared.fault.KeyFault.{KeyFault}
use Rattle.key_lang.specs.declared.fault.KeyFault.TheVariants.{NameUsedTwice, VariableDeclaredTwice, TooManyNodes, TooManyTriplesInKey, KeyWithoutTriples, VariableNotUsed, NotConnected}
use Rattle.key_lang.specs.declared.open_key.End.{End}
use Rattle.key_lang.specs.declared.open_key.End.TheVariants.{Variable, Constant}
use Rattle.key_lang.specs.declared.open_key.OpenEdge.{OpenEdge}
use Rattle.key_lang.specs.declared.open_key.Object.{Object}
use Rattle.key_lang.specs.declared.open_key.Object.TheVariants.{Declared, Given}

-- an open key: its name, its variables in order of declaration, the first being `?x`, its constants in order of their first
-- triples, and its triples in order of first appearance
pub record OpenShape : Type 0 where
  pub name : List ℕ
  pub variables : List KeySlot
  pub constants : List Term
  pub edges : List OpenEdge

-- a key file as far as it was read: the keys that have ended, and the open one
pub record KeyState : Type 0 where
  pub keys : List KeyShape
  pub current : Option OpenShape

-- the sigil of a variable: ? of an entity variable, _ of a wildcard, $ of a value variable
abbrev pub sigil_of : KeySlot → ℕ
sigil_of (Entity name type) = 0x3F
sigil_of (Any name type) = 0x5F
sigil_of (Value name) = 0x24
sigil_of (Folded name) = 0x24
sigil_of (Fixed term) = 0

-- its name, without the sigil
abbrev pub slot_name : KeySlot → List ℕ
slot_name (Entity name type) = name
slot_name (Any name type) = name
slot_name (Value name) = name
slot_name (Folded name) = name
slot_name (Fixed term) = []

-- the slot is the variable with this sigil and this name
abbrev pub is_named_so : ℕ → List ℕ → KeySlot → Bool
is_named_so sigil name slot = sigil_of slot == sigil && bytes_eq (slot_name slot) name

-- a key of a new name begins
abbrev pub begin : List KeyShape → List ℕ → Term → Result KeyState KeyFault
begin keys name type =
    if has_name keys name then Err NameUsedTwice
    else Ok (record { keys = keys; current = Some (record { name = name; variables = Entity (codes "x") type ∷ []; constants = []; edges = [] }) })

-- how many nodes a key may have, and how many triples
abbrev pub most_nodes : ℕ
most_nodes = 16

abbrev pub most_triples : ℕ
most_triples = 32

-- how many it has
abbrev pub nodes : OpenShape → ℕ
nodes key = length key.variables + length key.constants

-- one more variable, of a new name
abbrev pub declare : OpenShape → KeySlot → Result OpenShape KeyFault
declare key slot =
    if list_any (is_named_so (sigil_of slot) (slot_name slot)) key.variables then Err VariableDeclaredTwice
    else if nat_lt (nodes key) most_nodes then Ok (record key { variables = key.variables ++ slot ∷ [] })
    else Err TooManyNodes

-- whether two ends are the same, and two triples
abbrev pub same_end : End → End → Bool
same_end (Variable a) (Variable b) = a == b
same_end (Constant a) (Constant b) = a == b
same_end a b = false

abbrev pub same_triple : OpenEdge → OpenEdge → Bool
same_triple a b = a.from == b.from && same_term a.pred b.pred && same_end a.to b.to

-- one more triple, where the key does not have it
abbrev pub add : OpenShape → OpenEdge → Result OpenShape KeyFault
add key edge =
    if list_any (same_triple edge) key.edges then Ok key
    else if nat_lt (length key.edges) most_triples then Ok (record key { edges = key.edges ++ edge ∷ [] })
    else Err TooManyTriplesInKey

-- the key with a constant that is there at this place, or is a new node
abbrev pub constant_or_new : OpenShape → Term → Option ℕ → Result (OpenShape × ℕ) KeyFault
constant_or_new key term (Some place) = Ok (key, place)
constant_or_new key term None =
    if nat_lt (nodes key) most_nodes then Ok (record key { constants = key.constants ++ term ∷ [] }, length key.constants)
    else Err TooManyNodes

-- the key with a constant, and the constant's place
abbrev pub placed_constant : OpenShape → Term → Result (OpenShape × ℕ) KeyFault
placed_constant key term = constant_or_new key term (position (same_term term) key.constants)

-- the key with a triple to the constant at a place
abbrev pub link_constant : ℕ → Term → Result (OpenShape × ℕ) KeyFault → Result OpenShape KeyFault
link_constant from pred (Ok placed) = add placed.0 (record { from = from; pred = pred; to = Constant placed.1 })
link_constant from pred (Err fault) = Err fault

-- a triple from this variable, by its place, to a declared variable or to a constant
abbrev pub link : OpenShape → ℕ → Term → Object → Result OpenShape KeyFault
link key from pred (Declared place) = add key (record { from = from; pred = pred; to = Variable place })
link key from pred (Given term) = link_constant from pred (placed_constant key term)

-- the slot of an end: the variables come first, then the constants
abbrev pub slot_of_end : ℕ → End → ℕ
slot_of_end variables (Variable place) = place
slot_of_end variables (Constant place) = variables + place

-- a triple between slots
abbrev pub key_edge : ℕ → OpenEdge → KeyEdge
key_edge variables edge = record { from = edge.from; pred = edge.pred; to = slot_of_end variables edge.to }

-- the whole key
abbrev pub whole : OpenShape → KeyShape
whole key = record {
  name = key.name;
  slots = key.variables ++ map Fixed key.constants;
  edges = map (key_edge (length key.variables)) key.edges;
}

-- whether each slot of a key stands in a triple: a constant always does, by the triple that it came with
abbrev pub all_used : KeyShape → Bool
all_used key = list_all (is_used key.edges) (range_with_len 0 (length key.slots))

-- the key ends: it has triples, each of its variables stands in one, and it is connected, constants being nodes
abbrev pub finish : OpenShape → Result KeyShape KeyFault
finish key =
    if length key.edges == 0 then Err KeyWithoutTriples
    else if not (all_used (whole key)) then Err VariableNotUsed
    else if is_connected (length (whole key).slots) (whole key).edges then Ok (whole key)
    else Err NotConnected
