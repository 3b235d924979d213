use Rattle.std.proofs.Common.{◌≡◌, map}
use Rattle.term_table.specs.Numbering.{names_of}
use Rattle.proof_file.specs.Steps.{steps_terms, step_with, in_numbers}
use Rattle.proof_file.specs.TermNumbers.{NotesPlaces, by_numbers}
use Rattle.proof_file.proofs.renumbering.renumbered.Given as goal

abbrev pub invariant-loop-step : goal.invariant-loop-step
invariant-loop-step l = record {
  terms : l.places.terms ≡ names_of (steps_terms (map (step_with l.names) (map (by_numbers l.numbers) l.yielded)));
  steps : l.made.items ≡ map (in_numbers l.places.terms) (map (step_with l.names) (map (by_numbers l.numbers) l.yielded));
  places : NotesPlaces l.names l.places.terms l.places.places.items;
}
