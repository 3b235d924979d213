-- What is kept while a proof file is read, and what it stands for (this project's own).
use Rattle.std.specs.Prelude.{List, ◌++◌, ℕ, ◌<◌, ◌≤◌, Result, Ok, Err, Vec, All, map, length, ◌≡◌}
use Rattle.std.specs.declared.alloc.Global.{Global}
use Rattle.gk_base.specs.declared.term.Term.{Term}
use Rattle.gk_base.specs.declared.lex_fault.LexFault.{LexFault}
use Rattle.gk_base.specs.declared.stop.Stop.{Stop}
use Rattle.gk_base.specs.declared.stop.Stop.TheVariants.{NoMemory, Fault}
use Rattle.nt_lex.specs.Reading.{Says}
use Rattle.proof_file.specs.Steps.{term_at, step_with, IsNumberedBelow}
use Rattle.proof_file.specs.ProofText.{StageShape, AtHeader, AtCount, AtTerm, AtStep, AtLeft, AtRight, AtSupport, AtEnd, ProofState, TermsSay}
use Rattle.proof_file.specs.declared.fault.ProofFault.{ProofFault}
use Rattle.proof_file.specs.declared.fault.ProofFault.TheVariants.{Lex}
use Rattle.proof_file.specs.declared.stage.Stage.{Stage}
use Rattle.proof_file.specs.declared.stage.Stage.TheVariants as stage
use Rattle.proof_file.specs.declared.progress.Known.{Known}
use Rattle.proof_file.specs.declared.progress.Progress.{Progress}

-- why a line of a proof file, or a part of it, was not read
abbrev pub ProofLineStop : Type 0
ProofLineStop = Stop ProofFault

-- this very answer
abbrev pub IsExactly : {A : Type 0} → Result A ProofFault → Result A ProofFault → Type 0
IsExactly computed answer = answer ≡ computed

-- a list was answered as it was computed
abbrev pub ItemsAre : {X : Type 0} → Result (List X) ProofFault → Result (Vec X Global) ProofLineStop → Type 0
ItemsAre computed (Ok v) = computed ≡ Ok v.items
ItemsAre computed (Err NoMemory) = Unit {0}
ItemsAre computed (Err (Fault fault)) = computed ≡ Err fault

-- numbers are those of terms, of which there are so many
abbrev pub AreBelow : ℕ → List ℕ → Type 0
AreBelow count numbers = All (λ n. n < count) numbers

-- the term that stands at a place was read, with the place after it, and its number among the terms is this
pub record TermRead (terms : List Term) (line : List ℕ) (at number end : ℕ) : Type 0 where
  pub says : Says line at (Ok (term_at terms number, end))
  pub below : number < length terms
  pub later : at < end
  pub inside : end ≤ length line

-- the term that stands at a place was read, or its fault was told
abbrev pub TermTold : List Term → List ℕ → ℕ → Result (ℕ × ℕ) ProofLineStop → Type 0
TermTold terms line at (Ok read) = TermRead terms line at read.0 read.1
TermTold terms line at (Err NoMemory) = Unit {0}
TermTold terms line at (Err (Fault fault)) = (lex : LexFault) × (fault ≡ Lex lex) × Says line at (Err lex)

-- the numbers of terms were answered, where these terms were to be, or their fault
abbrev pub SideTold : List Term → (Result (List Term) ProofFault → Type 0) → Result (Vec ℕ Global) ProofLineStop → Type 0
SideTold terms Tells (Ok v) = Tells (Ok (map (term_at terms) v.items)) × AreBelow (length terms) v.items
SideTold terms Tells (Err NoMemory) = Unit {0}
SideTold terms Tells (Err (Fault fault)) = Tells (Err fault)

-- the number of a term was answered, where this term was to be, or its fault
abbrev pub OneTermTold : List Term → (Result Term ProofFault → Type 0) → Result ℕ ProofLineStop → Type 0
OneTermTold terms Tells (Ok n) = Tells (Ok (term_at terms n)) × (n < length terms)
OneTermTold terms Tells (Err NoMemory) = Unit {0}
OneTermTold terms Tells (Err (Fault fault)) = Tells (Err fault)

-- terms and more of them, where there is no fault
abbrev pub more_of : {X : Type 0} → List X → Result (List X) ProofFault → Result (List X) ProofFault
more_of xs (Err fault) = Err fault
more_of xs (Ok ys) = Ok (xs ++ ys)

-- from the one place of a line on come these terms, and then those from the other place on
abbrev pub ReadsOn : List ℕ → ℕ → ℕ → List Term → Type 0
ReadsOn line begin at terms = (rest : Result (List Term) ProofFault) → TermsSay line at rest → TermsSay line begin (more_of terms rest)

-- a stage with these terms for its numbers
abbrev pub stage_with : List Term → Stage → StageShape
stage_with terms stage.Header = AtHeader
stage_with terms stage.Count = AtCount
stage_with terms (stage.Term n) = AtTerm n
stage_with terms stage.Step = AtStep
stage_with terms (stage.Left key) = AtLeft key
stage_with terms (stage.Right key left) = AtRight key (map (term_at terms) left.items)
stage_with terms (stage.Support step) = AtSupport (step_with terms step)
stage_with terms stage.End = AtEnd

-- what has come of a file, with these terms for its numbers, at a stage
abbrev pub state_with : List Term → Known → StageShape → ProofState
state_with terms known stage = record { version = known.version; terms = map (term_at terms) known.listed.items; steps = map (step_with terms) known.steps.items; stage = stage }

-- a file as far as it was read, with these terms for its numbers
abbrev pub progress_with : List Term → Progress → ProofState
progress_with terms progress = state_with terms progress.known (stage_with terms progress.stage)

-- the numbers in what has come are those of terms, of which there are so many
pub record IsKnownBelow (count : ℕ) (known : Known) : Type 0 where
  pub listed : AreBelow count known.listed.items
  pub steps : All (IsNumberedBelow count) known.steps.items

-- and so are those of a stage
abbrev pub IsStageBelow : ℕ → Stage → Type 0
IsStageBelow count stage.Header = Unit {0}
IsStageBelow count stage.Count = Unit {0}
IsStageBelow count (stage.Term n) = Unit {0}
IsStageBelow count stage.Step = Unit {0}
IsStageBelow count (stage.Left key) = Unit {0}
IsStageBelow count (stage.Right key left) = AreBelow count left.items
IsStageBelow count (stage.Support step) = IsNumberedBelow count step
IsStageBelow count stage.End = Unit {0}

-- and so are all of a file as far as it was read
pub record IsBelow (count : ℕ) (progress : Progress) : Type 0 where
  pub known : IsKnownBelow count progress.known
  pub stage : IsStageBelow count progress.stage

-- what a line says was done, or its fault was told
abbrev pub IsDone : List Term → (Result ProofState ProofFault → Type 0) → Result Progress ProofLineStop → Type 0
IsDone terms Tells (Ok next) = Tells (Ok (progress_with terms next)) × IsBelow (length terms) next
IsDone terms Tells (Err NoMemory) = Unit {0}
IsDone terms Tells (Err (Fault fault)) = Tells (Err fault)
