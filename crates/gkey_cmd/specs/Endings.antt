-- How a run ends before anything is written, and what is written then: this project's own words.
use Rattle.std.specs.Prelude.{List, [], ◌∷◌, ◌++◌, ℕ, ◌^◌, ◌<◌, ◌≡◌, ◌⊎◌, Option, Some, None, Ok, IfSome, vec_items, length, ⊤}
use Rattle.gk_base.specs.declared.limits.Limits.{Limits}
use Rattle.gk_base.specs.declared.read_fault.ReadRefusal.{ReadRefusal}
use Rattle.gk_base.specs.declared.stop.Stop.{Stop}
use Rattle.gk_base.specs.declared.stop.Stop.TheVariants as stop
use Rattle.gk_base.specs.declared.term.Triple.{Triple}
use Rattle.gk_io.specs.FailedAt.{FailedAt}
use Rattle.gk_io.specs.Files.{bytes_of}
use Rattle.gk_io.specs.declared.file_fault.FileFault.{FileFault}
use Rattle.gk_io.specs.declared.file_fault.FileFault.TheVariants as fault
use Rattle.gk_io.specs.declared.shelf.Shelf
use Rattle.gk_io.specs.declared.sink.Sink
use Rattle.key_lang.specs.declared.fault.KeyRefusal.{KeyRefusal}
use Rattle.proof_file.specs.declared.fault.ProofRefusal.{ProofRefusal}
use Rattle.proof_file.specs.Steps.{StepShape}
use Rattle.graph_rows.specs.GraphFile.{GraphStops}
use Rattle.graph_rows.specs.Rows.{StandFor}
use Rattle.graph_rows.specs.declared.rows.Rows.{Rows}
use Rattle.key_file.specs.KeyShape.{KeyShape}
use Rattle.gkey_cmd.specs.Commands.{Wanted, Demonstrating, AsksNoFiles}
use Rattle.gkey_cmd.specs.Texts.{usage, out_of_memory, write_failed, read_failed, refused_text}
use Rattle.gkey_cmd.specs.Reading.{NamedFiles, GraphSays, KeyFileSays, ProofFileSays, left_by, IsAcceptedLeaving, IsRefusedSo}
use Rattle.gkey_cmd.specs.HowFar.{KeysLeft, ProofLeft, LeavesFiles, StopsReading}
use Rattle.gkey_cmd.specs.Failing.{HasFailed}
use Rattle.gkey_cmd.specs.Sent.{TookAll, TookLess, Sent}
use Rattle.gkey_cmd.specs.Written.{status_of, IsRefused, IsAnswered}
use Rattle.gkey_cmd.specs.Demo.{demo_files, files_for}
use Rattle.gkey_cmd.specs.declared.file.File.{File}
use Rattle.gkey_cmd.specs.declared.file.File.TheVariants.{Graph, More, Keys, Proof}
use Rattle.gkey_cmd.specs.declared.ending.Refusal.{Refusal}
use Rattle.gkey_cmd.specs.declared.ending.Refusal.TheVariants.{InGraph, InMore, InKeys, InProof, NoSuchEntity, MorePairsThan}
use Rattle.gkey_cmd.specs.declared.ending.Ending.{Ending}
use Rattle.gkey_cmd.specs.declared.ending.Ending.TheVariants.{NoCommand, Failed, Refused, NoMemory, Done}

-- ---- what stopped the reading of a file, as an ending

-- the ending of a run whose graph is not to be had
abbrev pub graph_ending : Stop (FileFault ReadRefusal) → Ending
graph_ending stop.NoMemory = NoMemory
graph_ending (stop.Fault fault.Failed) = Failed Graph
graph_ending (stop.Fault (fault.Refused refusal)) = Refused (InGraph refusal)

-- the ending of a run whose added graph is not to be had
abbrev pub more_ending : Stop (FileFault ReadRefusal) → Ending
more_ending stop.NoMemory = NoMemory
more_ending (stop.Fault fault.Failed) = Failed More
more_ending (stop.Fault (fault.Refused refusal)) = Refused (InMore refusal)

-- the ending of a run whose key file says no keys
abbrev pub keys_ending : Stop KeyRefusal → Ending
keys_ending stop.NoMemory = NoMemory
keys_ending (stop.Fault refusal) = Refused (InKeys refusal)

-- the ending of a run whose proof file says no proof
abbrev pub proof_ending : Stop ProofRefusal → Ending
proof_ending stop.NoMemory = NoMemory
proof_ending (stop.Fault refusal) = Refused (InProof refusal)

-- how far a file was read that is refused so
abbrev pub StopsAt : {K : Type 0} (shelf : Shelf.Ghosts K) (shelf_before shelf_after : K) → Limits → File → (name : List ℕ) → Refusal → Type 0
StopsAt shelf shelf_before shelf_after limits Graph name (InGraph refusal) = GraphStops shelf shelf_before shelf_after limits name
StopsAt shelf shelf_before shelf_after limits Graph name (InMore refusal) = ⊥
StopsAt shelf shelf_before shelf_after limits Graph name (InKeys refusal) = ⊥
StopsAt shelf shelf_before shelf_after limits Graph name (InProof refusal) = ⊥
StopsAt shelf shelf_before shelf_after limits Graph name (NoSuchEntity asked) = ⊥
StopsAt shelf shelf_before shelf_after limits Graph name (MorePairsThan limit) = ⊥
StopsAt shelf shelf_before shelf_after limits More name (InGraph refusal) = ⊥
StopsAt shelf shelf_before shelf_after limits More name (InMore refusal) = GraphStops shelf shelf_before shelf_after limits name
StopsAt shelf shelf_before shelf_after limits More name (InKeys refusal) = ⊥
StopsAt shelf shelf_before shelf_after limits More name (InProof refusal) = ⊥
StopsAt shelf shelf_before shelf_after limits More name (NoSuchEntity asked) = ⊥
StopsAt shelf shelf_before shelf_after limits More name (MorePairsThan limit) = ⊥
StopsAt shelf shelf_before shelf_after limits Keys name (InGraph refusal) = ⊥
StopsAt shelf shelf_before shelf_after limits Keys name (InMore refusal) = ⊥
StopsAt shelf shelf_before shelf_after limits Keys name (InKeys refusal) = KeysLeft shelf shelf_before shelf_after limits name
StopsAt shelf shelf_before shelf_after limits Keys name (InProof refusal) = ⊥
StopsAt shelf shelf_before shelf_after limits Keys name (NoSuchEntity asked) = ⊥
StopsAt shelf shelf_before shelf_after limits Keys name (MorePairsThan limit) = ⊥
StopsAt shelf shelf_before shelf_after limits Proof name (InGraph refusal) = ⊥
StopsAt shelf shelf_before shelf_after limits Proof name (InMore refusal) = ⊥
StopsAt shelf shelf_before shelf_after limits Proof name (InKeys refusal) = ⊥
StopsAt shelf shelf_before shelf_after limits Proof name (InProof refusal) = ProofLeft shelf shelf_before shelf_after limits name
StopsAt shelf shelf_before shelf_after limits Proof name (NoSuchEntity asked) = ⊥
StopsAt shelf shelf_before shelf_after limits Proof name (MorePairsThan limit) = ⊥

-- this file was read under this name, and the run ends at it
abbrev pub EndsAt : {K : Type 0} (shelf : Shelf.Ghosts K) (shelf_before shelf_after : K) → Limits → File → (name : List ℕ) → Ending → Type 0
EndsAt shelf shelf_before shelf_after limits file name NoCommand = ⊥
EndsAt shelf shelf_before shelf_after limits file name (Failed which) = (which ≡ file) × FailedAt shelf shelf_before shelf_after name
EndsAt shelf shelf_before shelf_after limits file name (Refused refusal) = (shelf.faults shelf_after ≡ shelf.faults shelf_before)
    × IfSome (shelf.held shelf_before) (λ files. IsRefusedSo limits files file name refusal)
    × StopsAt shelf shelf_before shelf_after limits file name refusal
EndsAt shelf shelf_before shelf_after limits file name NoMemory = shelf.faults shelf_after ≡ shelf.faults shelf_before
EndsAt shelf shelf_before shelf_after limits file name (Done answer text) = ⊥

-- ---- how a run ends

-- How a command ends before anything is written, where the files are told that it goes by, or are not. Where they are not,
-- nothing is said of them.
abbrev pub StoppedOver : {K : Type 0} (shelf : Shelf.Ghosts K) (shelf_before shelf_after : K) (told : Option NamedFiles) → Wanted → Limits → Ending → Type 0
StoppedOver shelf shelf_before shelf_after told command limits NoCommand = ⊥
StoppedOver shelf shelf_before shelf_after told command limits (Failed file) = HasFailed shelf shelf_before shelf_after command limits file
StoppedOver shelf shelf_before shelf_after told command limits (Refused refusal) = (shelf.faults shelf_after ≡ shelf.faults shelf_before)
    × IfSome told (λ files. IsRefused (Some command) files limits refusal)
    × StopsReading shelf shelf_before shelf_after (Some command) limits refusal
StoppedOver shelf shelf_before shelf_after told command limits NoMemory = shelf.faults shelf_after ≡ shelf.faults shelf_before
StoppedOver shelf shelf_before shelf_after told command limits (Done answer text) = (shelf.faults shelf_after ≡ shelf.faults shelf_before)
    × IfSome told (λ files. IsAnswered (Some command) files limits answer (vec_items text))
    × LeavesFiles shelf shelf_before shelf_after command limits

-- so ends a command that goes by the files of its shelf
abbrev pub Stopped : {K : Type 0} (shelf : Shelf.Ghosts K) (shelf_before shelf_after : K) → Wanted → Limits → Ending → Type 0
Stopped shelf shelf_before shelf_after command limits ending = StoppedOver shelf shelf_before shelf_after (shelf.held shelf_before) command limits ending

-- so ends a demo, which goes by its own texts
abbrev pub DemoStops : (n : ℕ) → Limits → Ending → Type 0
DemoStops n limits NoCommand = ⊥
DemoStops n limits (Failed file) = ⊥
DemoStops n limits (Refused refusal) = IsRefused (Some (Demonstrating n)) (demo_files n) limits refusal
DemoStops n limits NoMemory = ⊤
DemoStops n limits (Done answer text) = IsAnswered (Some (Demonstrating n)) (demo_files n) limits answer (vec_items text)

-- it comes before a chase: it is no answer, nor a refusal that comes after all files are accepted
abbrev pub IsBeforeChase : Ending → Type 0
IsBeforeChase NoCommand = ⊤
IsBeforeChase (Failed file) = ⊤
IsBeforeChase (Refused (InGraph refusal)) = ⊤
IsBeforeChase (Refused (InMore refusal)) = ⊤
IsBeforeChase (Refused (InKeys refusal)) = ⊤
IsBeforeChase (Refused (InProof refusal)) = ⊤
IsBeforeChase (Refused (NoSuchEntity asked)) = ⊥
IsBeforeChase (Refused (MorePairsThan limit)) = ⊥
IsBeforeChase NoMemory = ⊤
IsBeforeChase (Done answer text) = ⊥

-- how a run ends before anything is written
abbrev pub Caused : {K : Type 0} (shelf : Shelf.Ghosts K) (shelf_before shelf_after : K) → Option Wanted → Limits → Ending → Type 0
Caused shelf shelf_before shelf_after command limits NoCommand = (command ≡ None) × (shelf.faults shelf_after ≡ shelf.faults shelf_before)
Caused shelf shelf_before shelf_after command limits ending = (wanted : Wanted) × (command ≡ Some wanted)
    × StoppedOver shelf shelf_before shelf_after (files_for (Some wanted) (shelf.held shelf_before)) wanted limits ending

-- it is none at a file that could not be read
abbrev pub IsNoFailure : Ending → Type 0
IsNoFailure NoCommand = ⊤
IsNoFailure (Failed file) = ⊥
IsNoFailure (Refused refusal) = ⊤
IsNoFailure NoMemory = ⊤
IsNoFailure (Done answer text) = ⊤

-- words that ask the shelf for nothing leave it as it was, and the run does not end at a file that could not be read
abbrev pub LeavesShelf : {K : Type 0} (shelf_before shelf_after : K) → Option Wanted → Ending → Type 0
LeavesShelf shelf_before shelf_after command ending = AsksNoFiles command → (shelf_after ≡ shelf_before) × IsNoFailure ending

-- each of these files is accepted, and together they leave these limits to the files after them
abbrev pub AllAcceptedLeaving : Limits → NamedFiles → List (File × List ℕ) → (left : Limits) → Type 0
AllAcceptedLeaving limits files [] left = left ≡ limits
AllAcceptedLeaving limits files (file ∷ others) left = (next : Limits) × IsAcceptedLeaving limits files file.0 file.1 next × AllAcceptedLeaving next files others left

-- the files so far were read and accepted, and leave these limits
pub record ReadSoFar {K : Type 0} (shelf : Shelf.Ghosts K) (shelf_before shelf_now : K) (limits : Limits) (so_far : List (File × List ℕ)) (left : Limits) : Type 0 where
  pub count : shelf.faults shelf_now ≡ shelf.faults shelf_before
  pub held : shelf.held shelf_now ≡ shelf.held shelf_before
  pub accepted : IfSome (shelf.held shelf_before) (λ files. AllAcceptedLeaving limits files so_far left)

-- The graph and the key file of these names were read and are accepted: the rows stand for triples that are no more than the
-- limit, and the key file was left as it is to be left.
pub record ReadBothAs {K : Type 0} (shelf : Shelf.Ghosts K) (shelf_before shelf_now : K) (limits : Limits) (graph keys : List ℕ) (rows : Rows) (key_list : List KeyShape) (triples : List Triple) : Type 0 where
  pub stand : StandFor rows triples
  pub count : shelf.faults shelf_now ≡ shelf.faults shelf_before
  pub in_graph : IfSome (shelf.held shelf_before) (λ files. GraphSays limits (bytes_of files graph) (Ok triples))
  pub in_keys : IfSome (shelf.held shelf_before) (λ files. KeyFileSays limits (bytes_of files keys) (Ok key_list))
  pub left : KeysLeft shelf shelf_before shelf_now limits keys

-- the same of some triples
abbrev pub ReadBoth : {K : Type 0} (shelf : Shelf.Ghosts K) (shelf_before shelf_now : K) → Limits → (graph keys : List ℕ) → Rows → List KeyShape → Type 0
ReadBoth shelf shelf_before shelf_now limits graph keys rows key_list =
    (triples : List Triple) × ReadBothAs shelf shelf_before shelf_now limits graph keys rows key_list triples

-- The proof file of this name was read and is accepted: it has few steps, and was left as it is to be left.
pub record ReadProof {K : Type 0} (shelf : Shelf.Ghosts K) (shelf_before shelf_now : K) (limits : Limits) (name : List ℕ) (steps : List StepShape) : Type 0 where
  pub count : shelf.faults shelf_now ≡ shelf.faults shelf_before
  pub in_proof : IfSome (shelf.held shelf_before) (λ files. ProofFileSays limits (bytes_of files name) (Ok steps))
  pub few : length steps < 2 ^ 32
  pub left : ProofLeft shelf shelf_before shelf_now limits name

-- Two graphs and the key file of these names were read and are accepted: the rows stand for the triples of both, the second
-- was read within what the first leaves of the limits, and the key file was left as it is to be left.
pub record ReadThreeAs {K : Type 0} (shelf : Shelf.Ghosts K) (shelf_before shelf_now : K) (limits : Limits) (graph more keys : List ℕ) (rows : Rows) (key_list : List KeyShape) (triples added : List Triple) : Type 0 where
  pub stand : StandFor rows (triples ++ added)
  pub count : shelf.faults shelf_now ≡ shelf.faults shelf_before
  pub in_graph : IfSome (shelf.held shelf_before) (λ files. GraphSays limits (bytes_of files graph) (Ok triples))
  pub in_more : IfSome (shelf.held shelf_before) (λ files. GraphSays (left_by limits triples) (bytes_of files more) (Ok added))
  pub in_keys : IfSome (shelf.held shelf_before) (λ files. KeyFileSays limits (bytes_of files keys) (Ok key_list))
  pub left : KeysLeft shelf shelf_before shelf_now limits keys

-- the same of some triples
abbrev pub ReadThree : {K : Type 0} (shelf : Shelf.Ghosts K) (shelf_before shelf_now : K) → Limits → (graph more keys : List ℕ) → Rows → List KeyShape → Type 0
ReadThree shelf shelf_before shelf_now limits graph more keys rows key_list =
    (triples : List Triple) × (added : List Triple) × ReadThreeAs shelf shelf_before shelf_now limits graph more keys rows key_list triples added

-- ---- what is written at the end

-- what is left when an ending was told: the status, what standard output took, and what the error stream was sent
abbrev pub IsReportedAs : {O E : Type 0} (out : Sink.Ghosts O) (err : Sink.Ghosts E) (out_before out_after : O) (err_before err_after : E) → Ending → (status : ℕ) → Type 0
IsReportedAs out err out_before out_after err_before err_after NoCommand status = (status ≡ 64) × (out_after ≡ out_before) × Sent err err_before err_after usage
IsReportedAs out err out_before out_after err_before err_after (Failed file) status = (status ≡ 3) × (out_after ≡ out_before) × Sent err err_before err_after (read_failed file)
IsReportedAs out err out_before out_after err_before err_after (Refused refusal) status = (status ≡ 2) × (out_after ≡ out_before) × Sent err err_before err_after (refused_text refusal)
IsReportedAs out err out_before out_after err_before err_after NoMemory status = (status ≡ 5) × (out_after ≡ out_before) × Sent err err_before err_after out_of_memory
IsReportedAs out err out_before out_after err_before err_after (Done answer text) status =
    ((status ≡ status_of answer) × TookAll out out_before out_after (vec_items text) × (err_after ≡ err_before))
    ⊎ ((status ≡ 4) × TookLess out out_before out_after (vec_items text) × Sent err err_before err_after write_failed)

-- the ending was told; or it is a refusal, no memory was to be had for its text, and that was told instead
abbrev pub IsTold : {O E : Type 0} (out : Sink.Ghosts O) (err : Sink.Ghosts E) (out_before out_after : O) (err_before err_after : E) → Ending → (status : ℕ) → Type 0
IsTold out err out_before out_after err_before err_after (Refused refusal) status =
    IsReportedAs out err out_before out_after err_before err_after (Refused refusal) status
    ⊎ IsReportedAs out err out_before out_after err_before err_after NoMemory status
IsTold out err out_before out_after err_before err_after ending status = IsReportedAs out err out_before out_after err_before err_after ending status
