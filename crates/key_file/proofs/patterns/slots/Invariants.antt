-- The slots before are numbered and made.
use Rattle.std.proofs.Common.{◌≡◌, map, take}
use Rattle.std.specs.List.{flat_map}
use Rattle.term_table.specs.Numbering.{with_terms}
use Rattle.key_file.specs.Compile.{slot_terms, slot_of, HasMoreNames}
use Rattle.key_file.proofs.patterns.slots.Given as goal

abbrev pub invariant-loop-part : goal.invariant-loop-part
invariant-loop-part l = record {
  grown : HasMoreNames l.initial.names l.names;
  names : l.names ≡ with_terms l.initial.names (flat_map slot_terms (take l.part-index l.slots));
  made : l.made.items ≡ map (slot_of l.names) (take l.part-index l.slots);
}
