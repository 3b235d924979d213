-- What a run writes: the relation of its words, its files and its limits to its status, its output and its error text. The
-- files are those that its command goes by.
use Rattle.std.specs.Prelude.{List, [], ◌++◌, ℕ, ◌≡◌, ◌⊎◌, ⊤, Option, Some, None, Ok}
use Rattle.gk_base.specs.declared.limits.Limits.{Limits}
use Rattle.gk_base.specs.declared.term.Triple.{Triple}
use Rattle.gk_io.specs.Files.{bytes_of}
use Rattle.key_file.specs.KeyShape.{KeyShape}
use Rattle.gkey_cmd.specs.Commands.{Wanted, Matching, Proving, Checking, Converting, Demonstrating, Merging, Explaining, Growing, Helping, TellingVersion, demo_graph_name, demo_keys_name, files_of}
use Rattle.gkey_cmd.specs.Texts.{usage, help_text, version_text, refused_text}
use Rattle.gkey_cmd.specs.Reading.{NamedFiles, GraphSays, KeyFileSays, ProofFileSays, left_by, AllAccepted, FirstRefused}
use Rattle.proof_file.specs.Steps.{StepShape}
use Rattle.proof_file.specs.CanonicalProof.{proof_text}
use Rattle.gkey_cmd.specs.Match.{IsReport, HasTooManyPairs}
use Rattle.gkey_cmd.specs.Prove.{IsProofText}
use Rattle.gkey_cmd.specs.Check.{IsChecked}
use Rattle.gkey_cmd.specs.Demo.{IsDemoText}
use Rattle.gkey_cmd.specs.Merge.{IsMergedOutput}
use Rattle.gkey_cmd.specs.Entities.{NamesOne}
use Rattle.gkey_cmd.specs.Why.{IsReason, SpellApart, not_the_same}
use Rattle.gkey_cmd.specs.declared.ending.Answer.{Answer}
use Rattle.gkey_cmd.specs.declared.ending.Answer.TheVariants.{Given, NotAccepted, NotTheSame}
use Rattle.gkey_cmd.specs.declared.ending.Asked.{Asked}
use Rattle.gkey_cmd.specs.declared.ending.Asked.TheVariants.{First, Second}
use Rattle.gkey_cmd.specs.declared.ending.Refusal.{Refusal}
use Rattle.gkey_cmd.specs.declared.ending.Refusal.TheVariants.{InGraph, InMore, InKeys, InProof, NoSuchEntity, MorePairsThan}

-- the status of an answer
abbrev pub status_of : Answer → ℕ
status_of Given = 0
status_of NotAccepted = 1
status_of NotTheSame = 1

-- a status that stands for an answer
abbrev pub IsAnswer : ℕ → Type 0
IsAnswer status = (status ≡ 0) ⊎ (status ≡ 1)

-- an accepted graph and accepted keys lead to more candidate pairs than the limit
abbrev pub ChaseHasMorePairs : Limits → NamedFiles → (graph keys : List ℕ) → Type 0
ChaseHasMorePairs limits files graph keys =
    (triples : List Triple) × (key_list : List KeyShape) × GraphSays limits (bytes_of files graph) (Ok triples)
    × KeyFileSays limits (bytes_of files keys) (Ok key_list) × HasTooManyPairs triples key_list limits.pairs

-- an accepted graph, one that is added to it and is accepted under what it leaves of the limits, and accepted keys lead to more
-- candidate pairs than the limit, over the triples of both
abbrev pub GrowthHasMorePairs : Limits → NamedFiles → (graph more keys : List ℕ) → Type 0
GrowthHasMorePairs limits files graph more keys =
    (triples : List Triple) × (added : List Triple) × (key_list : List KeyShape) × GraphSays limits (bytes_of files graph) (Ok triples)
    × GraphSays (left_by limits triples) (bytes_of files more) (Ok added) × KeyFileSays limits (bytes_of files keys) (Ok key_list)
    × HasTooManyPairs (triples ++ added) key_list limits.pairs

-- the accepted files of a command lead to more candidate pairs than the limit; only a chase has pairs
abbrev pub HasMorePairs : Limits → NamedFiles → Wanted → Type 0
HasMorePairs limits files (Matching graph keys) = ChaseHasMorePairs limits files graph keys
HasMorePairs limits files (Proving graph keys) = ChaseHasMorePairs limits files graph keys
HasMorePairs limits files (Checking graph keys proof) = ⊥
HasMorePairs limits files (Converting proof) = ⊥
HasMorePairs limits files (Demonstrating n) = ChaseHasMorePairs limits files demo_graph_name demo_keys_name
HasMorePairs limits files (Merging graph keys) = ChaseHasMorePairs limits files graph keys
HasMorePairs limits files (Explaining graph keys first second) = ChaseHasMorePairs limits files graph keys
HasMorePairs limits files (Growing graph more keys) = GrowthHasMorePairs limits files graph more keys
HasMorePairs limits files Helping = ⊥
HasMorePairs limits files TellingVersion = ⊥

-- of the words for entities that a command has, this is the first that names none of its accepted graph
abbrev pub LacksEntity : Limits → NamedFiles → Wanted → Asked → Type 0
LacksEntity limits files (Matching graph keys) asked = ⊥
LacksEntity limits files (Proving graph keys) asked = ⊥
LacksEntity limits files (Checking graph keys proof) asked = ⊥
LacksEntity limits files (Converting proof) asked = ⊥
LacksEntity limits files (Demonstrating n) asked = ⊥
LacksEntity limits files (Merging graph keys) asked = ⊥
LacksEntity limits files (Explaining graph keys first second) First =
    (triples : List Triple) × GraphSays limits (bytes_of files graph) (Ok triples) × ¬ (NamesOne triples first)
LacksEntity limits files (Explaining graph keys first second) Second =
    (triples : List Triple) × GraphSays limits (bytes_of files graph) (Ok triples) × NamesOne triples first × ¬ (NamesOne triples second)
LacksEntity limits files (Growing graph more keys) asked = ⊥
LacksEntity limits files Helping asked = ⊥
LacksEntity limits files TellingVersion asked = ⊥

-- each word for an entity that a command has names one of its accepted graph
abbrev pub HasEntities : Limits → NamedFiles → Wanted → Type 0
HasEntities limits files (Matching graph keys) = ⊤
HasEntities limits files (Proving graph keys) = ⊤
HasEntities limits files (Checking graph keys proof) = ⊤
HasEntities limits files (Converting proof) = ⊤
HasEntities limits files (Demonstrating n) = ⊤
HasEntities limits files (Merging graph keys) = ⊤
HasEntities limits files (Explaining graph keys first second) =
    (triples : List Triple) × GraphSays limits (bytes_of files graph) (Ok triples) × NamesOne triples first × NamesOne triples second
HasEntities limits files (Growing graph more keys) = ⊤
HasEntities limits files Helping = ⊤
HasEntities limits files TellingVersion = ⊤

-- the answer of a command whose files are accepted and lead to no more pairs than the limit, and its output
abbrev pub Answers : Limits → NamedFiles → Wanted → Answer → List ℕ → Type 0
Answers limits files (Matching graph keys) Given output =
    (triples : List Triple) × (key_list : List KeyShape) × GraphSays limits (bytes_of files graph) (Ok triples)
    × KeyFileSays limits (bytes_of files keys) (Ok key_list) × IsReport triples key_list output
Answers limits files (Matching graph keys) NotAccepted output = ⊥
Answers limits files (Matching graph keys) NotTheSame output = ⊥
Answers limits files (Proving graph keys) Given output =
    (triples : List Triple) × (key_list : List KeyShape) × GraphSays limits (bytes_of files graph) (Ok triples)
    × KeyFileSays limits (bytes_of files keys) (Ok key_list) × IsProofText triples key_list output
Answers limits files (Proving graph keys) NotAccepted output = ⊥
Answers limits files (Proving graph keys) NotTheSame output = ⊥
Answers limits files (Checking graph keys proof) answer output =
    (triples : List Triple) × (key_list : List KeyShape) × (steps : List StepShape) × GraphSays limits (bytes_of files graph) (Ok triples)
    × KeyFileSays limits (bytes_of files keys) (Ok key_list) × ProofFileSays limits (bytes_of files proof) (Ok steps)
    × IsChecked triples key_list steps answer output
Answers limits files (Converting proof) Given output =
    (steps : List StepShape) × ProofFileSays limits (bytes_of files proof) (Ok steps) × (output ≡ proof_text steps)
Answers limits files (Converting proof) NotAccepted output = ⊥
Answers limits files (Converting proof) NotTheSame output = ⊥
Answers limits files (Demonstrating n) Given output =
    (triples : List Triple) × (key_list : List KeyShape) × GraphSays limits (bytes_of files demo_graph_name) (Ok triples)
    × KeyFileSays limits (bytes_of files demo_keys_name) (Ok key_list) × IsDemoText triples key_list output
Answers limits files (Demonstrating n) NotAccepted output = ⊥
Answers limits files (Demonstrating n) NotTheSame output = ⊥
Answers limits files (Merging graph keys) Given output =
    (triples : List Triple) × (key_list : List KeyShape) × GraphSays limits (bytes_of files graph) (Ok triples)
    × KeyFileSays limits (bytes_of files keys) (Ok key_list) × IsMergedOutput triples key_list output
Answers limits files (Merging graph keys) NotAccepted output = ⊥
Answers limits files (Merging graph keys) NotTheSame output = ⊥
Answers limits files (Explaining graph keys first second) Given output =
    (triples : List Triple) × (key_list : List KeyShape) × GraphSays limits (bytes_of files graph) (Ok triples)
    × KeyFileSays limits (bytes_of files keys) (Ok key_list) × IsReason triples key_list first second output
Answers limits files (Explaining graph keys first second) NotAccepted output = ⊥
Answers limits files (Explaining graph keys first second) NotTheSame output =
    (triples : List Triple) × (key_list : List KeyShape) × GraphSays limits (bytes_of files graph) (Ok triples)
    × KeyFileSays limits (bytes_of files keys) (Ok key_list) × SpellApart triples key_list first second × (output ≡ not_the_same)
Answers limits files (Growing graph more keys) Given output =
    (triples : List Triple) × (added : List Triple) × (key_list : List KeyShape) × GraphSays limits (bytes_of files graph) (Ok triples)
    × GraphSays (left_by limits triples) (bytes_of files more) (Ok added) × KeyFileSays limits (bytes_of files keys) (Ok key_list)
    × IsReport (triples ++ added) key_list output
Answers limits files (Growing graph more keys) NotAccepted output = ⊥
Answers limits files (Growing graph more keys) NotTheSame output = ⊥
Answers limits files Helping Given output = output ≡ help_text
Answers limits files Helping NotAccepted output = ⊥
Answers limits files Helping NotTheSame output = ⊥
Answers limits files TellingVersion Given output = output ≡ version_text
Answers limits files TellingVersion NotAccepted output = ⊥
Answers limits files TellingVersion NotTheSame output = ⊥

-- A command whose files are all accepted is refused so: by the first of its words for entities that names none, or, where each
-- names one, by too many pairs.
abbrev pub IsRefusedAfter : Limits → NamedFiles → Wanted → Refusal → Type 0
IsRefusedAfter limits files command (InGraph refusal) = ⊥
IsRefusedAfter limits files command (InMore refusal) = ⊥
IsRefusedAfter limits files command (InKeys refusal) = ⊥
IsRefusedAfter limits files command (InProof refusal) = ⊥
IsRefusedAfter limits files command (NoSuchEntity asked) = LacksEntity limits files command asked
IsRefusedAfter limits files command (MorePairsThan limit) = HasEntities limits files command × HasMorePairs limits files command × (limit ≡ limits.pairs)

-- the words ask for a command, and it is refused so: by the first of its files that is not accepted, or, where all are, by what
-- comes after them
abbrev pub IsRefused : Option Wanted → NamedFiles → Limits → Refusal → Type 0
IsRefused None files limits refusal = ⊥
IsRefused (Some command) files limits refusal =
    FirstRefused limits files (files_of command) refusal
    ⊎ (AllAccepted limits files (files_of command) × IsRefusedAfter limits files command refusal)

-- the words ask for a command, all its files are accepted, its words for entities name some, and the files lead to no more pairs
-- than the limit
abbrev pub AreAccepted : Option Wanted → NamedFiles → Limits → Type 0
AreAccepted None files limits = ⊥
AreAccepted (Some command) files limits = AllAccepted limits files (files_of command) × HasEntities limits files command × ¬ (HasMorePairs limits files command)

-- the words ask for a command that is not refused, and it has this answer with this output
abbrev pub IsAnswered : Option Wanted → NamedFiles → Limits → Answer → List ℕ → Type 0
IsAnswered None files limits answer output = ⊥
IsAnswered (Some command) files limits answer output = AreAccepted (Some command) files limits × Answers limits files command answer output

-- One output goes with the files and the limits: so it is with every command but `prove` and `why`, since of proofs there may be
-- several.
abbrev pub HasOneOutput : Wanted → Type 0
HasOneOutput (Matching graph keys) = ⊤
HasOneOutput (Proving graph keys) = ⊥
HasOneOutput (Checking graph keys proof) = ⊤
HasOneOutput (Converting proof) = ⊤
HasOneOutput (Demonstrating n) = ⊤
HasOneOutput (Merging graph keys) = ⊤
HasOneOutput (Explaining graph keys first second) = ⊥
HasOneOutput (Growing graph more keys) = ⊤
HasOneOutput Helping = ⊤
HasOneOutput TellingVersion = ⊤

-- What a run writes, one case for each way in which it may end: the words ask for no command, the command is refused, or
-- it is answered.
pub data WritesFor (command : Option Wanted) (files : NamedFiles) (limits : Limits) (status : ℕ) (output error : List ℕ) : Type 0 where
  AsNoCommand : command ≡ None → status ≡ 64 → output ≡ [] → error ≡ usage → WritesFor command files limits status output error
  AsRefused : (refusal : Refusal) → IsRefused command files limits refusal → status ≡ 2 → output ≡ [] → error ≡ refused_text refusal → WritesFor command files limits status output error
  AsAnswered : (answer : Answer) → IsAnswered command files limits answer output → status ≡ status_of answer → error ≡ [] → WritesFor command files limits status output error
