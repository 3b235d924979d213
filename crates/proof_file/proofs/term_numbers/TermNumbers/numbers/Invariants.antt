use Rattle.std.proofs.Common.{◌≡◌, map, take}
use Rattle.term_table.specs.Numbering.{place_of, with_terms}
use Rattle.proof_file.specs.Steps.{term_at}
use Rattle.proof_file.specs.TermNumbers.{NotesPlaces}
use Rattle.proof_file.proofs.term_numbers.TermNumbers.numbers.Given as goal

abbrev pub invariant-loop-name : goal.invariant-loop-name
invariant-loop-name l = record {
  terms : l.self.terms ≡ with_terms l.initial.self.terms (map (term_at l.names) (take l.name-index l.side));
  numbers : l.numbers.items ≡ map (place_of l.self.terms) (map (term_at l.names) (take l.name-index l.side));
  places : NotesPlaces l.names l.self.terms l.self.places.items;
}
