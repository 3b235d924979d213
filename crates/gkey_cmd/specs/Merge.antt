-- What `merge` prints, from the triples of the graph and the keys.
use Rattle.std.specs.Prelude.{List, ℕ, Bool, IsTrue, length, ◌≡◌, ◌<◌, ◌↔◌}
use Rattle.gk_base.specs.declared.term.Triple.{Triple}
use Rattle.chase_laws.specs.Chase.{AreSame}
use Rattle.key_file.specs.KeyShape.{KeyShape}
use Rattle.key_file.specs.Compile.{patterns_of}
use Rattle.key_file.specs.Numbered.{names_for, graph_of}
use Rattle.merge_graph.specs.MergedGraph.{IsMerged, IsSortedText, lines_of}
use Rattle.merge_graph.specs.Saying.{IsReadAs}

-- The text of the merged graph: a test tells of each two names whether they are the same, and each subject and each object
-- stands as the first member of its class. A reader reads the text as exactly the triples that it lists. Where no two
-- names are the same, they are those of the graph.
pub record IsMergedOutput (triples : List Triple) (keys : List KeyShape) (text : List ℕ) : Type 0 where
  pub same : ℕ → ℕ → Bool
  pub is_same : (a b : ℕ) → a < length (names_for triples keys) → b < length (names_for triples keys) →
      IsTrue (same a b) ↔ AreSame (graph_of (names_for triples keys) triples) (patterns_of (names_for triples keys) keys) a b
  pub listed : List Triple
  pub merged : IsMerged (names_for triples keys) (graph_of (names_for triples keys) triples).rows same listed
  pub whole : text ≡ lines_of listed
  pub reads : IsReadAs text listed
  pub unmerged : ((a b : ℕ) → a < length (names_for triples keys) → b < length (names_for triples keys) → IsTrue (same a b) → a ≡ b) → IsSortedText triples text
