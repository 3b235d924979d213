-- What a chase of files works on, and the texts that it is made into when it is finished: this project's own words.
use Rattle.std.specs.Prelude.{List, ℕ, true, All, map, length, Ok, ◌≡◌, ◌≤◌}
use Rattle.gk_base.specs.declared.term.Term.{Term}
use Rattle.gk_base.specs.declared.term.Triple.{Triple}
use Rattle.chase_laws.specs.declared.entry.Entry.{Entry}
use Rattle.chase_ways.specs.Ground.{GroundShape}
use Rattle.chase_laws.specs.Joined.{links}
use Rattle.match_run.specs.Classes.{AreClasses, IsFinishedJournal}
use Rattle.term_table.specs.Numbering.{place_of}
use Rattle.proof_file.specs.Steps.{StepShape, term_at}
use Rattle.proof_file.specs.Tells.{TellsAll}
use Rattle.proof_file.specs.ProofText.{ProofSays}
use Rattle.proof_file.specs.CanonicalProof.{proof_text}
use Rattle.key_file.specs.Name.{is_name}
use Rattle.key_file.specs.KeyShape.{KeyShape}
use Rattle.key_file.specs.Compile.{patterns_of}
use Rattle.key_file.specs.Numbered.{names_for, graph_of}
use Rattle.graph_rows.specs.Numbered.{AreSameGraph}
use Rattle.term_text.specs.ReadBack.{CanBeSpelled}
use Rattle.demo_graph.specs.Counts.{IsMemberCount, IsClassCount}
use Rattle.demo_graph.specs.DemoLine.{demo_line_text}
use Rattle.merge_graph.specs.MergedGraph.{same_label, triple_at, IsSortedText, AreApart}
use Rattle.merge_graph.specs.Saying.{CanBeSaid, IsReadAsMerged}

-- the names, and the graph and the patterns that were chased, are those of these triples and keys, in numbers
pub record AreOfFiles (terms : List Term) (ground : GroundShape) (triples : List Triple) (keys : List KeyShape) : Type 0 where
  pub names : terms ≡ names_for triples keys
  pub graph : AreSameGraph ground.patterns ground.graph (graph_of terms triples)
  pub patterns : ground.patterns ≡ patterns_of terms keys

-- the labels are the classes, and the entries a finished journal
pub record IsFinished (ground : GroundShape) (labels : List ℕ) (entries : List Entry) : Type 0 where
  pub classes : AreClasses ground.graph ground.patterns labels
  pub journal : IsFinishedJournal ground.graph ground.patterns entries

-- the numbers of the two terms that a step makes the same
abbrev pub step_link : List Term → StepShape → ℕ × ℕ
step_link names step = (place_of names (term_at step.left 0), place_of names (term_at step.right 0))

-- The text is that of a proof, whose steps tell the entries of a finished journal, and make the same what the entries do. Where
-- names and keys can be written, it is read as these steps.
pub record TellsJournal (ground : GroundShape) (names : List Term) (key_names : List (List ℕ)) (text : List ℕ) : Type 0 where
  pub journal : List Entry
  pub steps : List StepShape
  pub finished : IsFinishedJournal ground.graph ground.patterns journal
  pub tells : TellsAll names ground.patterns key_names journal steps
  pub ends : map (step_link names) steps ≡ links journal
  pub written : text ≡ proof_text steps
  pub reads : All CanBeSpelled names → All (λ name. is_name name ≡ true) key_names → (limit : ℕ) → length text ≤ limit → ProofSays limit text (Ok steps)

-- The line has two numbers that were given, and the counts of labels that are the classes.
pub record TellsCounts (ground : GroundShape) (triples pairs : ℕ) (line : List ℕ) : Type 0 where
  pub labels : List ℕ
  pub classes : AreClasses ground.graph ground.patterns labels
  pub class_count : ℕ
  pub member_count : ℕ
  pub class_number : IsClassCount labels class_count
  pub member_number : IsMemberCount labels member_count
  pub written : line ≡ demo_line_text triples pairs class_count member_count

-- By labels that are the classes: where each name is alone in its class, the text is the graph itself, sorted; and where the
-- text can be said, it is read as the graph that is merged by them.
pub record TellsMerged (ground : GroundShape) (names : List Term) (text : List ℕ) : Type 0 where
  pub labels : List ℕ
  pub classes : AreClasses ground.graph ground.patterns labels
  pub unmerged : AreApart labels → IsSortedText (map (triple_at names) ground.graph.rows) text
  pub read_back : CanBeSaid names ground.graph.rows labels → IsReadAsMerged names ground.graph.rows (same_label labels) text
