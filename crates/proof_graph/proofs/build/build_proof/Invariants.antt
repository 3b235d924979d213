use Rattle.std.proofs.Common.{◌≡◌, map, take}
use Rattle.term_table.specs.Numbering.{names_of}
use Rattle.proof_file.specs.Steps.{steps_terms, in_numbers}
use Rattle.proof_file.specs.TermNumbers.{NotesPlaces}
use Rattle.proof_graph.specs.Built.{built_entry}
use Rattle.proof_graph.proofs.build.build_proof.Given as goal

abbrev pub invariant-loop-entry : goal.invariant-loop-entry
invariant-loop-entry l = record {
  terms : l.numbers.terms ≡ names_of (steps_terms (map (built_entry l.names l.patterns l.key_names l.journal) (take l.entry-index l.journal)));
  steps : l.steps.items ≡ map (in_numbers l.numbers.terms) (map (built_entry l.names l.patterns l.key_names l.journal) (take l.entry-index l.journal));
  places : NotesPlaces l.names l.numbers.terms l.numbers.places.items;
}
