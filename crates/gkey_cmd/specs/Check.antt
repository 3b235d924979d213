-- What `check` prints, from the verdict on a proof: this project's own texts.
use Rattle.std.specs.Prelude.{List, ℕ, length, ◌++◌, ◌≡◌, codes}
use Rattle.std.specs.Fmt.{decimal}
use Rattle.gk_base.specs.declared.term.Triple.{Triple}
use Rattle.chase_laws.specs.Joined.{Joined}
use Rattle.chase_laws.specs.Chase.{AreSame}
use Rattle.key_file.specs.KeyShape.{KeyShape}
use Rattle.key_file.specs.Compile.{patterns_of}
use Rattle.key_file.specs.Numbered.{names_for, graph_of}
use Rattle.proof_file.specs.Steps.{StepShape}
use Rattle.proof_check.specs.Reasons.{reason_text}
use Rattle.proof_check.specs.StepEntries.{step_entries}
use Rattle.proof_check.specs.Verdict.{verdict}
use Rattle.proof_check.specs.declared.verdict.Verdict.{Verdict}
use Rattle.proof_check.specs.declared.verdict.Verdict.TheVariants.{Accepted, Rejected}
use Rattle.gkey_cmd.specs.declared.ending.Answer.{Answer}
use Rattle.gkey_cmd.specs.declared.ending.Answer.TheVariants.{Given, NotAccepted}

-- the answer that goes with a verdict
abbrev pub verdict_answer : Verdict → Answer
verdict_answer (Accepted steps) = Given
verdict_answer (Rejected step reason) = NotAccepted

-- its text: how many steps are accepted, or the number of the first step that is not, and why
abbrev pub verdict_text : Verdict → List ℕ
verdict_text (Accepted steps) = codes "accepted " ++ decimal steps ++ codes "\n"
verdict_text (Rejected step reason) = codes "rejected " ++ decimal step ++ codes ": " ++ reason_text reason ++ codes "\n"

-- The answer of `check` and its text: those of the verdict. A proof is accepted with the number of its steps, and all that these
-- join is the same by the graph and the keys, whoever made the proof.
pub record IsChecked (triples : List Triple) (keys : List KeyShape) (steps : List StepShape) (answer : Answer) (output : List ℕ) : Type 0 where
  pub answered : answer ≡ verdict_answer (verdict triples keys steps)
  pub written : output ≡ verdict_text (verdict triples keys steps)
  pub counted : (count : ℕ) → verdict triples keys steps ≡ Accepted count → count ≡ length steps
  pub same : (count : ℕ) → verdict triples keys steps ≡ Accepted count → (a b : ℕ) → Joined (step_entries (names_for triples keys) keys steps) a b →
      AreSame (graph_of (names_for triples keys) triples) (patterns_of (names_for triples keys) keys) a b
