-- What `why` prints, from the triples of the graph, the keys, and the words for two entities; and what it finds on its way, in
-- numbers.
use Rattle.std.specs.Prelude.{List, ℕ, true, All, Some, Result, Ok, Err, length, slice_get, codes, ◌≡◌, ◌≤◌, ⊤}
use Rattle.gk_base.specs.declared.term.Term.{Term}
use Rattle.gk_base.specs.declared.term.Triple.{Triple}
use Rattle.chase_laws.specs.declared.entry.Entry.{Entry}
use Rattle.chase_laws.specs.Shape.{Shape}
use Rattle.chase_laws.specs.Graph.{NumberedGraph, IsEntity}
use Rattle.chase_laws.specs.Chase.{IsDerivation, AreSame}
use Rattle.nt_lex.specs.Spelling.{Spells}
use Rattle.key_file.specs.KeyShape.{KeyShape}
use Rattle.key_file.specs.Compile.{patterns_of}
use Rattle.key_file.specs.Name.{is_name}
use Rattle.key_file.specs.Numbered.{names_for, graph_of}
use Rattle.term_table.specs.Numbering.{place_of}
use Rattle.term_text.specs.ReadBack.{CanBeSpelled}
use Rattle.proof_file.specs.Steps.{StepShape, NoneTwice, NoneTwiceInSupports, term_at}
use Rattle.proof_file.specs.Tells.{TellsAll}
use Rattle.proof_file.specs.ProofText.{ProofSays}
use Rattle.proof_file.specs.CanonicalProof.{proof_text}
use Rattle.proof_check.specs.Verdict.{verdict}
use Rattle.proof_check.specs.declared.verdict.Verdict.TheVariants.{Accepted}
use Rattle.why_pair.specs.Why.{StepsLead, AllReached}
use Rattle.gkey_cmd.specs.Entities.{SpellsEntity}
use Rattle.gkey_cmd.specs.declared.ending.Asked.TheVariants.{First, Second}
use Rattle.gkey_cmd.specs.declared.ending.Refusal.TheVariants.{InGraph, InMore, InKeys, InProof, NoSuchEntity, MorePairsThan}
use Rattle.gkey_cmd.specs.declared.ending.Ending.{Ending}
use Rattle.gkey_cmd.specs.declared.ending.Ending.TheVariants.{NoCommand, Failed, Refused, NoMemory, Done}

-- ---- what is printed

-- the chase makes the two terms the same
abbrev pub AreSameTerms : List Triple → List KeyShape → Term → Term → Type 0
AreSameTerms triples keys one other =
    let names = names_for triples keys in AreSame (graph_of names triples) (patterns_of names keys) (place_of names one) (place_of names other)

-- Two words spell entities that are the same, and the text is that of a proof for them. Under each limit that it fits it is read
-- as these steps, and the checker is to accept them. The steps of the goal lead from the one entity to the other, and each
-- step is reached from the goal. No number stands twice in the goal, nor in the support of a step.
pub record IsReason (triples : List Triple) (keys : List KeyShape) (first second : List ℕ) (text : List ℕ) : Type 0 where
  pub one : Term
  pub other : Term
  pub first_spells : SpellsEntity triples first one
  pub second_spells : SpellsEntity triples second other
  pub same : AreSameTerms triples keys one other
  pub steps : List StepShape
  pub goal : List ℕ
  pub written : text ≡ proof_text steps
  pub reads : (limit : ℕ) → length text ≤ limit → ProofSays limit text (Ok steps)
  pub accepted : verdict triples keys steps ≡ Accepted (length steps)
  pub leads : StepsLead steps goal one other
  pub once : NoneTwice goal
  pub supports_once : NoneTwiceInSupports steps
  pub reached : AllReached steps goal

-- two words spell entities that are not the same
pub record SpellApart (triples : List Triple) (keys : List KeyShape) (first second : List ℕ) : Type 0 where
  pub one : Term
  pub other : Term
  pub first_spells : SpellsEntity triples first one
  pub second_spells : SpellsEntity triples second other
  pub apart : ¬ (AreSameTerms triples keys one other)

-- what is printed then
abbrev pub not_the_same : List ℕ
not_the_same = codes "not the same\n"

-- ---- what is found on the way, in numbers

-- the whole word spells the name that has this number, and it is an entity of the graph
pub record SpellsNumber (G : NumberedGraph) (names : List Term) (word : List ℕ) (n : ℕ) : Type 0 where
  pub term : Term
  pub spells : Spells word term
  pub name : slice_get names n ≡ Some term
  pub entity : IsEntity G n

-- the word spells the number of no entity
abbrev pub SpellsNoNumber : NumberedGraph → List Term → List ℕ → Type 0
SpellsNoNumber G names word = (n : ℕ) → ¬ (SpellsNumber G names word n)

-- Two words spell the numbers of entities, or the first of them that spells none is told, or memory is wanting.
abbrev pub SpellTwo : NumberedGraph → List Term → (first second : List ℕ) → Result (ℕ × ℕ) Ending → Type 0
SpellTwo G names first second (Ok r) = SpellsNumber G names first r.0 × SpellsNumber G names second r.1
SpellTwo G names first second (Err (Refused (InGraph refusal))) = ⊥
SpellTwo G names first second (Err (Refused (InMore refusal))) = ⊥
SpellTwo G names first second (Err (Refused (InKeys refusal))) = ⊥
SpellTwo G names first second (Err (Refused (InProof refusal))) = ⊥
SpellTwo G names first second (Err (Refused (NoSuchEntity First))) = SpellsNoNumber G names first
SpellTwo G names first second (Err (Refused (NoSuchEntity Second))) = ((n : ℕ) × SpellsNumber G names first n) × SpellsNoNumber G names second
SpellTwo G names first second (Err (Refused (MorePairsThan most))) = ⊥
SpellTwo G names first second (Err NoMemory) = ⊤
SpellTwo G names first second (Err NoCommand) = ⊥
SpellTwo G names first second (Err (Failed file)) = ⊥
SpellTwo G names first second (Err (Done answer text)) = ⊥

-- Two names are the same, and the text is that of a proof for them: its steps tell the entries of a derivation, each of them is
-- reached from the goal, and the goal's lead from the one name to the other. Where names and keys can be written, it is read as
-- these steps.
pub record TellsPair (G : NumberedGraph) (K : List Shape) (names : List Term) (key_names : List (List ℕ)) (a b : ℕ) (text : List ℕ) : Type 0 where
  pub same : AreSame G K a b
  pub entries : List Entry
  pub steps : List StepShape
  pub goal : List ℕ
  pub derivation : IsDerivation G K entries
  pub tells : TellsAll names K key_names entries steps
  pub leads : StepsLead steps goal (term_at names a) (term_at names b)
  pub once : NoneTwice goal
  pub supports_once : NoneTwiceInSupports steps
  pub reached : AllReached steps goal
  pub written : text ≡ proof_text steps
  pub reads : All CanBeSpelled names → All (λ name. is_name name ≡ true) key_names → (limit : ℕ) → length text ≤ limit → ProofSays limit text (Ok steps)
