-- A graph and its keys in numbers: this project's own words.
use Rattle.std.specs.Prelude.{ℕ, List, All, length, ◌≡◌, ◌<◌, ◌⊎◌}
use Rattle.std.specs.Option.{ForSome}
use Rattle.gk_base.specs.declared.term.Triple.{Triple}
use Rattle.gk_base.specs.declared.term.Term.{Term}
use Rattle.chase_laws.specs.Shape.{Shape}
use Rattle.chase_laws.specs.Graph.{NumberedGraph, IsFolding}
use Rattle.chase_laws.specs.SameRows.{AreUnfolded, HasRowsOf}
use Rattle.term_table.specs.Folding.{folds_of}
use Rattle.key_file.specs.KeyShape.{KeyShape}
use Rattle.key_file.specs.Compile.{patterns_of}
use Rattle.key_file.specs.Numbered.{names_for, graph_of}
use Rattle.graph_rows.specs.declared.numbering.Numbered.{Numbered}
use Rattle.graph_rows.specs.declared.numbering.NumberedRows.{NumberedRows}

-- What the names are alike to, or any numbers where no key asks for it.
abbrev pub AreAlikeFor : (names : List Term) (keys : List Shape) (numbers : List ℕ) → Type 0
AreAlikeFor names keys numbers = (numbers ≡ folds_of names) ⊎ AreUnfolded keys

-- two graphs that are the same for these keys: with the same rows, in whatever order and however often, and else equal, but
-- for what names are alike to where no key asks for it
pub record AreSameGraph (keys : List Shape) (built told : NumberedGraph) : Type 0 where
  pub there : HasRowsOf keys built told
  pub back : HasRowsOf keys told built

-- the graph of the rows, as they come, with what it has beside them
abbrev pub graph_of_rows : NumberedRows → NumberedGraph
graph_of_rows n = record { rows = n.rows.items; literal = n.literal.items; rdf_type = n.rdf_type; alike = n.alike.items }

-- A graph can be built of them: each number of a row is a name, each name has one flag, the number of `rdf:type` is a name,
-- and what names are alike to is a folding.
pub record AreGraphParts (n : NumberedRows) : Type 0 where
  pub named : All (λ row. All (λ m. m < length n.names) row) n.rows.items
  pub flags : length n.literal.items ≡ length n.names
  pub type_named : ForSome n.rdf_type (λ p. p < length n.names)
  pub folding : IsFolding (graph_of_rows n)

-- the graph of the rows, the names and the patterns are those of these triples and keys, in numbers
pub record AreNumberedRows (n : NumberedRows) (triples : List Triple) (keys : List KeyShape) : Type 0 where
  pub names : n.names ≡ names_for triples keys
  pub graph : AreSameGraph n.patterns.items (graph_of_rows n) (graph_of n.names triples)
  pub patterns : n.patterns.items ≡ patterns_of n.names keys

-- the graph, the names and the patterns are those of these triples and keys, in numbers
pub record IsNumbered (n : Numbered) (triples : List Triple) (keys : List KeyShape) : Type 0 where
  pub names : n.names ≡ names_for triples keys
  pub graph : AreSameGraph n.patterns.items n.graph (graph_of n.names triples)
  pub patterns : n.patterns.items ≡ patterns_of n.names keys
