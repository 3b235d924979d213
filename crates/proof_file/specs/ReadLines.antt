-- What lines of a proof file that were read come to (this project's own).
use Rattle.std.specs.Prelude.{List, ◌++◌, ℕ, ◌+◌, ◌-◌, ◌&&◌, ◌==◌, Bool, if◌then◌else◌, Result, Ok, Err, length, ◌≡◌}
use Rattle.gk_base.specs.declared.term.Term.{Term}
use Rattle.gk_base.specs.declared.stop.Stop.{Stop}
use Rattle.gk_base.specs.declared.stop.Stop.TheVariants.{NoMemory, Fault}
use Rattle.nt_reader.specs.Lines.{cut_of, lines}
use Rattle.proof_file.specs.ProofText.{ProofState, proof_start, ProofLineSays, ProofLinesSay}
use Rattle.proof_file.specs.declared.fault.ProofRefusal.{ProofRefusal}
use Rattle.proof_file.specs.declared.progress.Progress.{Progress}
use Rattle.proof_file.specs.declared.read_lines.ReadLines.{ReadLines}
use Rattle.proof_file.specs.Progress.{progress_with, IsBelow}

-- the line of this number was read, or refused
abbrev pub LineTold : List Term → ProofState → List ℕ → ℕ → Result Progress (Stop ProofRefusal) → Type 0
LineTold terms p line number (Ok next) = ProofLineSays p line (Ok (progress_with terms next)) × IsBelow (length terms) next
LineTold terms p line number (Err NoMemory) = Unit {0}
LineTold terms p line number (Err (Fault refusal)) = (refusal.line ≡ number) × ProofLineSays p line (Err refusal.fault)

-- the lines that end in a text come to this: whatever lines follow, the text and they say what they say after it
pub record HasReadLines (terms : List Term) (text : List ℕ) (progress : Progress) (number : ℕ) (rest : List ℕ) (returned : Bool) : Type 0 where
  pub on : (more : List (List ℕ)) (answer : Result ProofState ProofRefusal) → ProofLinesSay (progress_with terms progress) number more answer
      → ProofLinesSay proof_start 1 ((cut_of text).ended ++ more) answer
  pub rest_is : rest ≡ (cut_of text).rest
  pub returned_is : returned ≡ (cut_of text).returned
  pub number_is : number ≡ length (cut_of text).ended + 1
  pub below : IsBelow (length terms) progress

-- the lines that end in a text were read, or one of them was refused
abbrev pub LinesTold : List Term → List ℕ → Result ReadLines (Stop ProofRefusal) → Type 0
LinesTold terms text (Ok read) = HasReadLines terms text read.progress read.number read.rest.now read.returned
LinesTold terms text (Err NoMemory) = Unit {0}
LinesTold terms text (Err (Fault refusal)) = (more : List (List ℕ)) → ProofLinesSay proof_start 1 ((cut_of text).ended ++ more) (Err refusal)

-- all lines of a text come to this, and the last one has this number
pub record HasReadAll (terms : List Term) (text : List ℕ) (progress : Progress) (last : ℕ) : Type 0 where
  pub says : ProofLinesSay proof_start 1 (lines text) (Ok (progress_with terms progress))
  pub last_is : last ≡ length (lines text)
  pub below : IsBelow (length terms) progress

-- all lines of a text were read, or one of them was refused
abbrev pub AllLinesTold : List Term → List ℕ → Result (Progress × ℕ) (Stop ProofRefusal) → Type 0
AllLinesTold terms text (Ok read) = HasReadAll terms text read.0 read.1
AllLinesTold terms text (Err NoMemory) = Unit {0}
AllLinesTold terms text (Err (Fault refusal)) = ProofLinesSay proof_start 1 (lines text) (Err refusal)

-- the number of the line to which the next byte belongs: a line feed right after a carriage return belongs to the line before
abbrev pub next_number : ℕ → Bool → ℕ → ℕ
next_number number returned b = if returned && b == 0x0A then number - 1 else number
