-- What `demo` prints, from the triples and the keys of its own two texts; and these texts as files.
use Rattle.std.specs.Prelude.{List, [], ◌∷◌, ℕ, Option, Some, None, AllPairs, Contains, length, ◌≡◌, ◌≢◌, ◌<◌, ◌↔◌}
use Rattle.gk_base.specs.declared.term.Triple.{Triple}
use Rattle.chase_laws.specs.Shape.{Shape}
use Rattle.chase_laws.specs.Graph.{NumberedGraph}
use Rattle.chase_laws.specs.Chase.{AreSame}
use Rattle.chase_laws.specs.Candidate.{IsCandidateCount}
use Rattle.key_file.specs.KeyShape.{KeyShape}
use Rattle.key_file.specs.Compile.{patterns_of}
use Rattle.key_file.specs.Numbered.{names_for, graph_of}
use Rattle.demo_graph.specs.DemoTexts.{demo_graph_text, demo_keys_text}
use Rattle.demo_graph.specs.DemoLine.{demo_line_text}
use Rattle.demo_graph.specs.Counts.{IsPlaceCount}
use Rattle.gkey_cmd.specs.Commands.{Wanted, Matching, Proving, Checking, Converting, Demonstrating, Merging, Explaining, Growing, Helping, TellingVersion, demo_graph_name, demo_keys_name}
use Rattle.gkey_cmd.specs.Reading.{NamedFiles}

-- ---- the files

-- a demo's own two texts, as files with the names that they go by
unfoldable pub demo_files : ℕ → NamedFiles
demo_files n = (demo_graph_name, demo_graph_text n) ∷ (demo_keys_name, demo_keys_text) ∷ []

-- The files whose bytes a command goes by, where they are told: those of the shelf, where it tells them; of a demo its own
-- texts, and of help and version none, whatever the shelf tells.
abbrev pub files_for : Option Wanted → (held : Option NamedFiles) → Option NamedFiles
files_for None held = held
files_for (Some (Matching graph keys)) held = held
files_for (Some (Proving graph keys)) held = held
files_for (Some (Checking graph keys proof)) held = held
files_for (Some (Converting proof)) held = held
files_for (Some (Demonstrating n)) held = Some (demo_files n)
files_for (Some (Merging graph keys)) held = held
files_for (Some (Explaining graph keys first second)) held = held
files_for (Some (Growing graph more keys)) held = held
files_for (Some Helping) held = Some []
files_for (Some TellingVersion) held = Some []

-- ---- the line

-- n is the number of distinct rows of the graph: some list of them, each once, has all of them, and n elements
pub record IsRowCount (G : NumberedGraph) (n : ℕ) : Type 0 where
  pub rows : List (List ℕ)
  pub distinct : AllPairs (λ row other. row ≢ other) rows
  pub exact : (row : List ℕ) → Contains rows row ↔ Contains G.rows row
  pub count : length rows ≡ n

-- two names are in one class
abbrev pub AreInOneClass : NumberedGraph → List Shape → ℕ → ℕ → Type 0
AreInOneClass G K a b = (a < length G.literal) × (b < length G.literal) × AreSame G K a b

-- a member of a class of two or more
abbrev pub IsMember : NumberedGraph → List Shape → ℕ → Type 0
IsMember G K a = (b : ℕ) × (b ≢ a) × AreInOneClass G K a b

-- the first member of a class of two or more
pub record IsFirstMember (G : NumberedGraph) (K : List Shape) (a : ℕ) : Type 0 where
  pub later : (b : ℕ) × (a < b) × AreInOneClass G K a b
  pub no_earlier : (b : ℕ) → b < a → ¬ (AreInOneClass G K a b)

-- the line of a graph and its keys in numbers: how many distinct rows there are, how many candidate pairs, how many classes of
-- two or more, each with one first member, and how many members these have
pub record IsDemoLine (G : NumberedGraph) (K : List Shape) (text : List ℕ) : Type 0 where
  pub row_count : ℕ
  pub pair_count : ℕ
  pub class_count : ℕ
  pub member_count : ℕ
  pub rows : IsRowCount G row_count
  pub pairs : IsCandidateCount G K pair_count
  pub classes : IsPlaceCount (IsFirstMember G K) class_count
  pub members : IsPlaceCount (IsMember G K) member_count
  pub written : text ≡ demo_line_text row_count pair_count class_count member_count

-- the line of these triples and keys
abbrev pub IsDemoText : List Triple → List KeyShape → List ℕ → Type 0
IsDemoText triples keys text = let names = names_for triples keys in IsDemoLine (graph_of names triples) (patterns_of names keys) text
