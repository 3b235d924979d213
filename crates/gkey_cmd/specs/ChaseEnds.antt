-- How a command with a chase ends once its files are read: this project's own words.
use Rattle.std.specs.Prelude.{List, ℕ, true, false, All, map, ◌≡◌, ⊤, Result, Ok, Err, Vec, vec_items}
use Rattle.std.specs.declared.alloc.Global.{Global}
use Rattle.gk_base.specs.Term.{is_literal}
use Rattle.gk_base.specs.declared.term.Triple.{Triple}
use Rattle.gk_base.specs.declared.stop.Stop.{Stop}
use Rattle.gk_base.specs.declared.stop.Stop.TheVariants as stop
use Rattle.chase_laws.specs.Shape.{Shape}
use Rattle.chase_laws.specs.Graph.{NumberedGraph}
use Rattle.pair_seed.specs.Stop.{IsRightStop}
use Rattle.pair_seed.specs.declared.stop.TooManyPairs.{TooManyPairs}
use Rattle.key_file.specs.KeyShape.{KeyShape}
use Rattle.gkey_cmd.specs.Match.{IsReport, HasTooManyPairs}
use Rattle.key_file.specs.Name.{is_name}
use Rattle.key_file.specs.Numbered.{names_for}
use Rattle.term_text.specs.ReadBack.{CanBeSpelled}
use Rattle.gkey_cmd.specs.Prove.{IsProofText}
use Rattle.gkey_cmd.specs.Demo.{IsDemoText}
use Rattle.merge_graph.specs.Saying.{is_iri}
use Rattle.gkey_cmd.specs.Merge.{IsMergedOutput}
use Rattle.gkey_cmd.specs.Entities.{NamesOne}
use Rattle.gkey_cmd.specs.Why.{IsReason, SpellApart, not_the_same}
use Rattle.gkey_cmd.specs.declared.ending.Answer.{Answer}
use Rattle.gkey_cmd.specs.declared.ending.Answer.TheVariants.{Given, NotAccepted, NotTheSame}
use Rattle.gkey_cmd.specs.declared.ending.Asked.TheVariants.{First, Second}
use Rattle.gkey_cmd.specs.declared.ending.Refusal.TheVariants.{InGraph, InMore, InKeys, InProof, NoSuchEntity, MorePairsThan}
use Rattle.gkey_cmd.specs.declared.ending.Ending.{Ending}
use Rattle.gkey_cmd.specs.declared.ending.Ending.TheVariants.{NoCommand, Failed, Refused, NoMemory, Done}

-- the ending of a run whose chase was stopped
abbrev pub chase_ending : ℕ → Stop TooManyPairs → Ending
chase_ending limit stop.NoMemory = NoMemory
chase_ending limit (stop.Fault many) = Refused (MorePairsThan limit)

-- the ending of a run whose chase over this graph in numbers was stopped, rightly
abbrev pub IsStopped : NumberedGraph → List Shape → ℕ → Ending → Type 0
IsStopped G K limit ending = (s : Stop TooManyPairs) × IsRightStop G K limit s × (ending ≡ chase_ending limit s)

-- a command with a chase is refused for too many pairs, or wants memory
abbrev pub IsChaseEnding : List Triple → List KeyShape → ℕ → Ending → Type 0
IsChaseEnding triples keys limit (Refused refusal) = (refusal ≡ MorePairsThan limit) × HasTooManyPairs triples keys limit
IsChaseEnding triples keys limit NoMemory = ⊤
IsChaseEnding triples keys limit NoCommand = ⊥
IsChaseEnding triples keys limit (Failed file) = ⊥
IsChaseEnding triples keys limit (Done answer text) = ⊥

-- a command with a chase whose files are read has its text, or ends so
abbrev pub ChaseEnds : (List Triple → List KeyShape → List ℕ → Type 0) → List Triple → List KeyShape → ℕ → Result (Vec ℕ Global) Ending → Type 0
ChaseEnds IsText triples keys limit (Ok text) = IsText triples keys (vec_items text) × ¬ (HasTooManyPairs triples keys limit)
ChaseEnds IsText triples keys limit (Err ending) = IsChaseEnding triples keys limit ending

-- the text of a proof, where graph and keys are as files say them: their names can be spelled, and the keys have names
abbrev pub IsProofOfFiles : List Triple → List KeyShape → List ℕ → Type 0
IsProofOfFiles triples keys text =
    All CanBeSpelled (names_for triples keys) → All (λ name. is_name name ≡ true) (map (λ (k : KeyShape). k.name) keys) → IsProofText triples keys text

-- a triple as a file says it: its subject is no literal, and its predicate is an IRI (RDF 1.1 Concepts, section 3.1)
pub record IsOfFile (triple : Triple) : Type 0 where
  pub subject : is_literal triple.subject ≡ false
  pub predicate : is_iri triple.predicate ≡ true

-- the text of the merged graph, where graph and keys are as files say them
abbrev pub IsMergedOfFiles : List Triple → List KeyShape → List ℕ → Type 0
IsMergedOfFiles triples keys text = All CanBeSpelled (names_for triples keys) → All IsOfFile triples → IsMergedOutput triples keys text

-- the answer of `why` with its text, where graph and keys are as files say them
abbrev pub IsWhyOfFiles : List Triple → List KeyShape → (first second : List ℕ) → Answer → List ℕ → Type 0
IsWhyOfFiles triples keys first second Given text =
    All CanBeSpelled (names_for triples keys) → All (λ name. is_name name ≡ true) (map (λ (k : KeyShape). k.name) keys) → IsReason triples keys first second text
IsWhyOfFiles triples keys first second NotAccepted text = ⊥
IsWhyOfFiles triples keys first second NotTheSame text = SpellApart triples keys first second × (text ≡ not_the_same)

-- both words name an entity of the graph
abbrev pub NameTwo : List Triple → (first second : List ℕ) → Type 0
NameTwo triples first second = NamesOne triples first × NamesOne triples second

-- `why` whose files are read has its answer, or is refused for a word that names no entity, or then for too many pairs, or wants
-- memory
abbrev pub WhyEnds : List Triple → List KeyShape → (first second : List ℕ) → ℕ → Result (Answer × Vec ℕ Global) Ending → Type 0
WhyEnds triples keys first second limit (Ok r) = NameTwo triples first second × ¬ (HasTooManyPairs triples keys limit) × IsWhyOfFiles triples keys first second r.0 (vec_items r.1)
WhyEnds triples keys first second limit (Err (Refused (InGraph refusal))) = ⊥
WhyEnds triples keys first second limit (Err (Refused (InMore refusal))) = ⊥
WhyEnds triples keys first second limit (Err (Refused (InKeys refusal))) = ⊥
WhyEnds triples keys first second limit (Err (Refused (InProof refusal))) = ⊥
WhyEnds triples keys first second limit (Err (Refused (NoSuchEntity First))) = ¬ (NamesOne triples first)
WhyEnds triples keys first second limit (Err (Refused (NoSuchEntity Second))) = NamesOne triples first × ¬ (NamesOne triples second)
WhyEnds triples keys first second limit (Err (Refused (MorePairsThan most))) = NameTwo triples first second × HasTooManyPairs triples keys limit × (most ≡ limit)
WhyEnds triples keys first second limit (Err NoMemory) = ⊤
WhyEnds triples keys first second limit (Err NoCommand) = ⊥
WhyEnds triples keys first second limit (Err (Failed file)) = ⊥
WhyEnds triples keys first second limit (Err (Done answer text)) = ⊥

-- so ends a match, and the growth of a graph, of which these are all triples; so a proof, so a demo, and so a merge
abbrev pub MatchEnds : List Triple → List KeyShape → ℕ → Result (Vec ℕ Global) Ending → Type 0
MatchEnds triples keys limit result = ChaseEnds IsReport triples keys limit result

abbrev pub ProveEnds : List Triple → List KeyShape → ℕ → Result (Vec ℕ Global) Ending → Type 0
ProveEnds triples keys limit result = ChaseEnds IsProofOfFiles triples keys limit result

abbrev pub DemoEnds : List Triple → List KeyShape → ℕ → Result (Vec ℕ Global) Ending → Type 0
DemoEnds triples keys limit result = ChaseEnds IsDemoText triples keys limit result

abbrev pub MergeEnds : List Triple → List KeyShape → ℕ → Result (Vec ℕ Global) Ending → Type 0
MergeEnds triples keys limit result = ChaseEnds IsMergedOfFiles triples keys limit result
