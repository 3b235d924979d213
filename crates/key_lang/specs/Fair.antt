-- What every key file has as far as it was read: this project's own words.
use Rattle.std.specs.Prelude.{◌≡◌, ◌<◌, ◌≤◌, ◌&&◌, nat_lt, Bool, true, false, List, length, slice_get, Option, Some, None}
use Rattle.std.specs.List.{list_all}
use Rattle.term_table.specs.Numbering.{same_term}
use Rattle.key_file.specs.declared.slot.KeySlot.{KeySlot}
use Rattle.key_file.specs.declared.slot.KeySlot.TheVariants.{Entity, Any, Value, Folded, Fixed}
use Rattle.key_file.specs.Key.{is_entity_variable, may_be_subject, same_slot, all_differ}
use Rattle.key_file.specs.KeyFile.{has_name}
use Rattle.key_file.specs.KeyShape.{KeyShape}
use Rattle.key_lang.specs.declared.open_key.End.{End}
use Rattle.key_lang.specs.declared.open_key.End.TheVariants.{Variable, Constant}
use Rattle.key_lang.specs.declared.open_key.OpenEdge.{OpenEdge}
use Rattle.key_lang.specs.OpenKey.{OpenShape, KeyState, nodes, same_triple}

-- a variable, and no constant
abbrev pub is_no_constant : KeySlot → Bool
is_no_constant (Entity name type) = true
is_no_constant (Any name type) = true
is_no_constant (Value name) = true
is_no_constant (Folded name) = true
is_no_constant (Fixed term) = false

-- a variable or a constant that is there
abbrev pub leads : OpenShape → End → Bool
leads key (Variable place) = nat_lt place (length key.variables)
leads key (Constant place) = nat_lt place (length key.constants)

-- a triple from an entity variable or a wildcard to a variable or a constant that is there
abbrev pub is_inside : OpenShape → OpenEdge → Bool
is_inside key edge = may_be_subject (slice_get key.variables edge.from) && leads key edge.to

-- an open key
pub record IsFair (key : OpenShape) : Type 0 where
  pub first : is_entity_variable (slice_get key.variables 0) ≡ true
  pub few_nodes : nodes key ≤ 16
  pub variables : list_all is_no_constant key.variables ≡ true
  pub variables_differ : all_differ same_slot key.variables ≡ true
  pub constants_differ : all_differ same_term key.constants ≡ true
  pub few_edges : length key.edges ≤ 32
  pub edges_differ : all_differ same_triple key.edges ≡ true
  pub ends : list_all (is_inside key) key.edges ≡ true

-- the open key, beside the keys before it
pub record IsFairBeside (keys : List KeyShape) (key : OpenShape) : Type 0 where
  pub fair : IsFair key
  pub few : length keys < 64
  pub fresh : has_name keys key.name ≡ false

-- the open key, if there is one
abbrev pub IsFairCurrent : List KeyShape → Option OpenShape → Type 0
IsFairCurrent keys None = Unit {0}
IsFairCurrent keys (Some key) = IsFairBeside keys key

-- the file
abbrev pub IsFairState : KeyState → Type 0
IsFairState state = IsFairCurrent state.keys state.current
