-- What was chased: this project's own.
use Rattle.std.specs.Prelude.{List}
use Rattle.chase_laws.specs.Shape.{Shape}
use Rattle.chase_laws.specs.Graph.{NumberedGraph}
use Rattle.chase_ways.specs.declared.ground.Held.{Held}
use Rattle.chase_ways.specs.declared.ground.Held.TheVariants.{Prepared, Plain}

-- a graph, and keys' patterns over its numbers
pub record GroundShape : Type 0 where
  pub graph : NumberedGraph
  pub patterns : List Shape

-- the graph and the patterns of a setup, or as they came
abbrev pub ground_of : Held → GroundShape
ground_of (Prepared setup) = record { graph = setup.task.graph; patterns = setup.task.patterns }
ground_of (Plain graph patterns) = record { graph = graph; patterns = patterns.items }
