-- What the files of a run say, and which of them is refused.
use Rattle.std.specs.Prelude.{List, [], ◌∷◌, ℕ, ◌⊎◌, ◌≡◌, ◌-◌, length, Result, Ok, Err}
use Rattle.gk_base.specs.declared.limits.Limits.{Limits}
use Rattle.gk_base.specs.declared.term.Triple.{Triple}
use Rattle.gk_base.specs.declared.read_fault.ReadRefusal.{ReadRefusal}
use Rattle.gk_io.specs.Files.{bytes_of}
use Rattle.nt_reader.specs.File.{FileSays}
use Rattle.key_file.specs.KeyShape.{KeyShape}
use Rattle.key_lang.specs.KeyText.{KeysSay}
use Rattle.key_lang.specs.declared.fault.KeyRefusal.{KeyRefusal}
use Rattle.proof_file.specs.Steps.{StepShape}
use Rattle.proof_file.specs.ProofText.{ProofSays}
use Rattle.proof_file.specs.declared.fault.ProofRefusal.{ProofRefusal}
use Rattle.gkey_cmd.specs.declared.file.File.{File}
use Rattle.gkey_cmd.specs.declared.file.File.TheVariants.{Graph, More, Keys, Proof}
use Rattle.gkey_cmd.specs.declared.ending.Refusal.{Refusal}
use Rattle.gkey_cmd.specs.declared.ending.Refusal.TheVariants.{InGraph, InMore, InKeys, InProof, NoSuchEntity, MorePairsThan}

-- files by name, as a shelf tells them
abbrev pub NamedFiles : Type 0
NamedFiles = List (List ℕ × List ℕ)

-- what the bytes of a graph say as a file of N-Triples: its triples, or the first refused line
abbrev pub GraphSays : Limits → List ℕ → Result (List Triple) ReadRefusal → Type 0
GraphSays limits bytes answer = FileSays limits bytes answer

-- what the bytes of a key file say: its keys, or the first refused line
abbrev pub KeyFileSays : Limits → List ℕ → Result (List KeyShape) KeyRefusal → Type 0
KeyFileSays limits bytes answer = KeysSay limits.key_bytes bytes answer

-- what the bytes of a proof file say: its steps, or the first refused line
abbrev pub ProofFileSays : Limits → List ℕ → Result (List StepShape) ProofRefusal → Type 0
ProofFileSays limits bytes answer = ProofSays limits.bytes bytes answer

-- what a graph of these triples leaves of the limits: so many triples fewer, and all else
abbrev pub left_by : Limits → List Triple → Limits
left_by limits triples = record { bytes = limits.bytes; key_bytes = limits.key_bytes; triples = limits.triples - length triples; pairs = limits.pairs }

-- The file under this name is accepted under these limits, and leaves those to the files after it: the triples of both graphs
-- of a command count together, and a key file or a proof file leaves the limits as they are.
abbrev pub IsAcceptedLeaving : Limits → NamedFiles → File → List ℕ → (left : Limits) → Type 0
IsAcceptedLeaving limits files Graph name left = (triples : List Triple) × GraphSays limits (bytes_of files name) (Ok triples) × (left ≡ left_by limits triples)
IsAcceptedLeaving limits files More name left = (triples : List Triple) × GraphSays limits (bytes_of files name) (Ok triples) × (left ≡ left_by limits triples)
IsAcceptedLeaving limits files Keys name left = (keys : List KeyShape) × KeyFileSays limits (bytes_of files name) (Ok keys) × (left ≡ limits)
IsAcceptedLeaving limits files Proof name left = (steps : List StepShape) × ProofFileSays limits (bytes_of files name) (Ok steps) × (left ≡ limits)

-- it is refused so under these limits
abbrev pub IsRefusedSo : Limits → NamedFiles → File → List ℕ → Refusal → Type 0
IsRefusedSo limits files Graph name (InGraph refusal) = GraphSays limits (bytes_of files name) (Err refusal)
IsRefusedSo limits files Graph name (InMore refusal) = ⊥
IsRefusedSo limits files Graph name (InKeys refusal) = ⊥
IsRefusedSo limits files Graph name (InProof refusal) = ⊥
IsRefusedSo limits files Graph name (NoSuchEntity asked) = ⊥
IsRefusedSo limits files Graph name (MorePairsThan limit) = ⊥
IsRefusedSo limits files More name (InGraph refusal) = ⊥
IsRefusedSo limits files More name (InMore refusal) = GraphSays limits (bytes_of files name) (Err refusal)
IsRefusedSo limits files More name (InKeys refusal) = ⊥
IsRefusedSo limits files More name (InProof refusal) = ⊥
IsRefusedSo limits files More name (NoSuchEntity asked) = ⊥
IsRefusedSo limits files More name (MorePairsThan limit) = ⊥
IsRefusedSo limits files Keys name (InGraph refusal) = ⊥
IsRefusedSo limits files Keys name (InMore refusal) = ⊥
IsRefusedSo limits files Keys name (InKeys refusal) = KeyFileSays limits (bytes_of files name) (Err refusal)
IsRefusedSo limits files Keys name (InProof refusal) = ⊥
IsRefusedSo limits files Keys name (NoSuchEntity asked) = ⊥
IsRefusedSo limits files Keys name (MorePairsThan limit) = ⊥
IsRefusedSo limits files Proof name (InGraph refusal) = ⊥
IsRefusedSo limits files Proof name (InMore refusal) = ⊥
IsRefusedSo limits files Proof name (InKeys refusal) = ⊥
IsRefusedSo limits files Proof name (InProof refusal) = ProofFileSays limits (bytes_of files name) (Err refusal)
IsRefusedSo limits files Proof name (NoSuchEntity asked) = ⊥
IsRefusedSo limits files Proof name (MorePairsThan limit) = ⊥

-- each of these files is accepted, under what those before it leave of the limits
abbrev pub AllAccepted : Limits → NamedFiles → List (File × List ℕ) → Type 0
AllAccepted limits files [] = Unit {0}
AllAccepted limits files (file ∷ others) = (left : Limits) × IsAcceptedLeaving limits files file.0 file.1 left × AllAccepted left files others

-- the first of these files that is not accepted, under what those before it leave of the limits, is refused so
abbrev pub FirstRefused : Limits → NamedFiles → List (File × List ℕ) → Refusal → Type 0
FirstRefused limits files [] refusal = ⊥
FirstRefused limits files (file ∷ others) refusal = IsRefusedSo limits files file.0 file.1 refusal
    ⊎ ((left : Limits) × IsAcceptedLeaving limits files file.0 file.1 left × FirstRefused left files others refusal)
