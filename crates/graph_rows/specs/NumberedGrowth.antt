-- Two graphs and their keys in numbers, of which the second has all rows of the first: this project's own words.
use Rattle.std.specs.Prelude.{ℕ, List, take, ◌≡◌}
use Rattle.gk_base.specs.declared.term.Triple.{Triple}
use Rattle.key_file.specs.KeyShape.{KeyShape}
use Rattle.key_file.specs.Compile.{patterns_of}
use Rattle.key_file.specs.Numbered.{names_for, graph_of}
use Rattle.graph_rows.specs.Numbered.{AreSameGraph}
use Rattle.graph_rows.specs.declared.growth.Growth.{Growth}

-- The names and the patterns are those of all these triples and keys, in numbers, and over these names the one graph is that
-- of the first so many triples, and the other that of all.
pub record IsNumberedGrowth (g : Growth) (count : ℕ) (triples : List Triple) (keys : List KeyShape) : Type 0 where
  pub names : g.names ≡ names_for triples keys
  pub first : AreSameGraph g.patterns.items g.first (graph_of g.names (take count triples))
  pub both : AreSameGraph g.patterns.items g.both (graph_of g.names triples)
  pub patterns : g.patterns.items ≡ patterns_of g.names keys
