-- The steps of a proof as entries, which have numbers where steps have terms (this project's own).
use Rattle.std.specs.Prelude.{List, map}
use Rattle.gk_base.specs.declared.term.Term.{Term}
use Rattle.chase_laws.specs.declared.entry.Entry.{Entry}
use Rattle.term_table.specs.Numbering.{place_of}
use Rattle.key_file.specs.KeyShape.{KeyShape}
use Rattle.proof_file.specs.Steps.{StepShape, term_at}
use Rattle.proof_check.specs.Verdict.{key_place}

-- a step in numbers: the place of its key, the numbers of its terms, and those of the two that it makes the same
abbrev pub step_entry : List Term → List KeyShape → StepShape → Entry
step_entry names keys step = record {
  a = place_of names (term_at step.left 0);
  b = place_of names (term_at step.right 0);
  key = key_place keys step.key;
  left = map (place_of names) step.left;
  right = map (place_of names) step.right;
}

-- the steps of a proof in numbers
abbrev pub step_entries : List Term → List KeyShape → List StepShape → List Entry
step_entries names keys steps = map (step_entry names keys) steps
