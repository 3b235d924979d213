-- What has a proof that the checker accepts (this project's own).
use Rattle.std.specs.Prelude.{List, ℕ, map, length, ◌≡◌}
use Rattle.gk_base.specs.declared.term.Triple.{Triple}
use Rattle.chase_laws.specs.declared.entry.Entry.{Entry}
use Rattle.chase_laws.specs.Joined.{Joined}
use Rattle.key_file.specs.KeyShape.{KeyShape}
use Rattle.key_file.specs.Compile.{patterns_of}
use Rattle.key_file.specs.Numbered.{names_for}
use Rattle.proof_file.specs.Steps.{StepShape}
use Rattle.proof_file.specs.Tells.{TellsAll}
use Rattle.proof_check.specs.Verdict.{verdict}
use Rattle.proof_check.specs.StepEntries.{step_entries}
use Rattle.proof_check.specs.declared.verdict.Verdict.TheVariants.{Accepted}

-- steps tell these entries, and the checker accepts them
pub record HasSteps (triples : List Triple) (keys : List KeyShape) (H : List Entry) : Type 0 where
  pub steps : List StepShape
  pub tells : TellsAll (names_for triples keys) (patterns_of (names_for triples keys) keys) (map (λ (k : KeyShape). k.name) keys) H steps
  pub accepted : verdict triples keys steps ≡ Accepted (length steps)

-- the checker accepts steps that join the two names
pub record IsProvable (triples : List Triple) (keys : List KeyShape) (a b : ℕ) : Type 0 where
  pub steps : List StepShape
  pub accepted : verdict triples keys steps ≡ Accepted (length steps)
  pub joins : Joined (step_entries (names_for triples keys) keys steps) a b
