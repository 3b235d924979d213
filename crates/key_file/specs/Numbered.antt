-- A graph and its keys in numbers: the numbering of all names of a graph file and a key file.
use Rattle.std.specs.Prelude.{List, [], ◌∷◌, ◌++◌, ℕ, Option, Some, None, map, codes, if◌then◌else◌}
use Rattle.gk_base.specs.Term.{is_literal}
use Rattle.gk_base.specs.declared.term.Term.{Term}
use Rattle.gk_base.specs.declared.term.Term.TheVariants.{Iri}
use Rattle.gk_base.specs.declared.term.Triple.{Triple}
use Rattle.term_list.specs.Triples.{terms_of}
use Rattle.chase_laws.specs.Graph.{NumberedGraph}
use Rattle.term_table.specs.Numbering.{is_named, place_of, names_of}
use Rattle.term_table.specs.Folding.{folds_of}
use Rattle.key_file.specs.KeyShape.{KeyShape}
use Rattle.key_file.specs.Compile.{key_terms}

-- the term rdf:type (RDF Schema 1.1, section 3.3)
abbrev pub rdf_type : Term
rdf_type = Iri (codes "http://www.w3.org/1999/02/22-rdf-syntax-ns#type")

-- The names of a graph and a key file: the distinct terms of the triples in their order, then those of the keys. A name's
-- number is its place (this project's own).
abbrev pub names_for : List Triple → List KeyShape → List Term
names_for triples keys = names_of (terms_of triples ++ key_terms keys)

-- a triple in numbers
abbrev pub row_of : List Term → Triple → List ℕ
row_of names triple = place_of names triple.subject ∷ place_of names triple.predicate ∷ place_of names triple.object ∷ []

-- the number of rdf:type, where it is a name
abbrev pub type_number : List Term → Option ℕ
type_number names = if is_named names rdf_type then Some (place_of names rdf_type) else None

-- The graph of these triples in numbers. Its rows are the triples; it has the flags of the literals, the number of
-- rdf:type, and for each name what it is alike to.
abbrev pub graph_of : List Term → List Triple → NumberedGraph
graph_of names triples = record {
  rows = map (row_of names) triples;
  literal = map is_literal names;
  rdf_type = type_number names;
  alike = folds_of names;
}
