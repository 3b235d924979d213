-- The graph that is built of the rows is theirs.
use Rattle.graph_rows.specs.Numbered.{graph_of_rows}
use Rattle.graph_rows.proofs.RowsInNumbers.{as_built}
use Rattle.graph_rows.proofs.numbering.number.Goals as goal

pub build_in_threads-requires-clause-named : goal.build_in_threads-requires-clause-named
build_in_threads-requires-clause-named g c κs within = rw c.len-count.ensures.len c.in_ok-whole.ensures.parts.named

pub build_in_threads-requires-clause-type_named : goal.build_in_threads-requires-clause-type_named
build_in_threads-requires-clause-type_named g c κs within = rw c.len-count.ensures.len c.in_ok-whole.ensures.parts.type_named

pub returns-clause-numbered : goal.returns-clause-numbered
returns-clause-numbered g c =
    let w = c.in_ok-whole.whole in
    let f = c.in_ok-graph.ensures in
    λ triples s.
    let is = c.in_ok-whole.ensures.numbered triples s in
    record {
      names = is.names;
      graph = as_built w.patterns.items c.in_ok-graph.graph (graph_of_rows w) _ f.rows f.literal f.rdf_type f.alike is.graph;
      patterns = is.patterns;
    }
