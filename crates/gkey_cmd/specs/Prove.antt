-- What `prove` prints, from the triples of the graph and the keys.
use Rattle.std.specs.Prelude.{List, ℕ, length, ◌≡◌, ◌<◌, ◌≤◌, ◌↔◌, Ok}
use Rattle.gk_base.specs.declared.term.Triple.{Triple}
use Rattle.chase_laws.specs.Joined.{Joined}
use Rattle.chase_laws.specs.Chase.{AreSame}
use Rattle.key_file.specs.KeyShape.{KeyShape}
use Rattle.key_file.specs.Compile.{patterns_of}
use Rattle.key_file.specs.Numbered.{names_for, graph_of}
use Rattle.proof_file.specs.Steps.{StepShape}
use Rattle.proof_file.specs.ProofText.{ProofSays}
use Rattle.proof_file.specs.CanonicalProof.{proof_text}
use Rattle.proof_check.specs.Verdict.{verdict}
use Rattle.proof_check.specs.StepEntries.{step_entries}
use Rattle.proof_check.specs.declared.verdict.Verdict.TheVariants.{Accepted}

-- The text of a proof of all that is the same. Under each limit that it fits it is read as these steps, the checker is to
-- accept them, and they join exactly the names that the chase makes the same.
pub record IsProofText (triples : List Triple) (keys : List KeyShape) (text : List ℕ) : Type 0 where
  pub steps : List StepShape
  pub written : text ≡ proof_text steps
  pub reads : (limit : ℕ) → length text ≤ limit → ProofSays limit text (Ok steps)
  pub accepted : verdict triples keys steps ≡ Accepted (length steps)
  pub joins : (a b : ℕ) → a < length (names_for triples keys) → b < length (names_for triples keys) →
      Joined (step_entries (names_for triples keys) keys steps) a b
      ↔ AreSame (graph_of (names_for triples keys) triples) (patterns_of (names_for triples keys) keys) a b
