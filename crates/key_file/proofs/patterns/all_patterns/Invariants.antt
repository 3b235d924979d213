-- The keys before are numbered and made.
use Rattle.std.proofs.Common.{◌≡◌, map, take}
use Rattle.std.specs.List.{flat_map}
use Rattle.term_table.specs.Numbering.{with_terms}
use Rattle.key_file.specs.Compile.{terms_of_key, shape_of, HasMoreNames}
use Rattle.key_file.proofs.patterns.all_patterns.Given as goal

abbrev pub invariant-loop-key : goal.invariant-loop-key
invariant-loop-key l = record {
  grown : HasMoreNames l.initial.names l.names;
  names : l.names ≡ with_terms l.initial.names (flat_map terms_of_key (take l.key-index l.keys));
  made : l.patterns.items ≡ map (shape_of l.names) (take l.key-index l.keys);
}
