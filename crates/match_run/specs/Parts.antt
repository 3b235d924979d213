-- What a graph is made of (this project's own).
use Rattle.std.specs.Prelude.{List, Option, Bool, ℕ, Contains, ◌≡◌, ◌↔◌}
use Rattle.chase_laws.specs.Graph.{NumberedGraph}

-- the graph of these rows, as they come, with what else there is of it
abbrev pub graph_of_parts : (rows : List (List ℕ)) (literal : List Bool) (rdf_type : Option ℕ) (alike : List ℕ) → NumberedGraph
graph_of_parts rows literal rdf_type alike = record { rows = rows; literal = literal; rdf_type = rdf_type; alike = alike }

-- the graph has exactly the rows of the other, in whatever order and however often, and exactly what that has beside them
pub record HasPartsOf (G P : NumberedGraph) : Type 0 where
  pub rows : (row : List ℕ) → Contains G.rows row ↔ Contains P.rows row
  pub literal : G.literal ≡ P.literal
  pub rdf_type : G.rdf_type ≡ P.rdf_type
  pub alike : G.alike ≡ P.alike
