-- A graph of the first rows, and the graph of all of them.
use Rattle.std.proofs.Common.{inl, inr, List, ℕ, Contains, map, take, drop, ◌↔◌, ◌≡◌, ◌⊎◌, sym, ◌∙◌, ap, subst}
use Rattle.std.proofs.lemmas.List.{take-map, take-append-drop}
use Rattle.std.proofs.lemmas.List.Elements.{Contains-append_left}
use Rattle.gk_base.specs.Term.{is_literal}
use Rattle.gk_base.specs.declared.term.Term.{Term}
use Rattle.gk_base.specs.declared.term.Triple.{Triple}
use Rattle.term_table.specs.Numbering.{with_terms}
use Rattle.term_table.specs.Folding.{folds_of}
use Rattle.chase_laws.specs.Shape.{Shape}
use Rattle.chase_laws.specs.Graph.{NumberedGraph}
use Rattle.chase_laws.specs.SameRows.{AreUnfolded, HasRowsOf}
use Rattle.key_file.specs.Numbered.{row_of, type_number, graph_of}
use Rattle.key_file.proofs.CallerLemmas.{rows_stay}
use Rattle.graph_rows.specs.Rows.{StandFor}
use Rattle.graph_rows.specs.Numbered.{AreAlikeFor, AreSameGraph}
use Rattle.graph_rows.specs.declared.rows.Rows.{Rows}
use Rattle.graph_rows.proofs.RowsInNumbers.{named_of}

-- the first rows are those of the first triples, over more names too
pub front_told : (r : Rows) (ts : List Triple) (more key : List Term) (n : ℕ) → StandFor r ts → more ≡ with_terms r.names key → take n r.rows.items ≡ map (row_of more) (take n ts)
front_told r ts more key n s e =
    let all : r.rows.items ≡ map (row_of more) ts = s.rows ∙ sym (subst (λ ns. map (row_of ns) ts ≡ map (row_of r.names) ts) (sym e) (rows_stay r.names key ts (named_of r ts s))) in
    ap (take n) all ∙ take-map (row_of more) n ts

-- what names are alike to, from one graph to the other and back
to_folds : (names : List Term) (K : List Shape) (own : List ℕ) → AreAlikeFor names K own → (own ≡ folds_of names) ⊎ AreUnfolded K
to_folds names K own (inl e) = inl e
to_folds names K own (inr h) = inr h

from_folds : (names : List Term) (K : List Shape) (own : List ℕ) → AreAlikeFor names K own → (folds_of names ≡ own) ⊎ AreUnfolded K
from_folds names K own (inl e) = inl (sym e)
from_folds names K own (inr h) = inr h

-- a graph that is built of rows is that of the triples that these rows are
pub told_graph : (names : List Term) (rows : List (List ℕ)) (ts : List Triple) (K : List Shape) (G : NumberedGraph) → rows ≡ map (row_of names) ts →
    ((row : List ℕ) → Contains G.rows row ↔ Contains rows row) → G.literal ≡ map is_literal names → G.rdf_type ≡ type_number names → AreAlikeFor names K G.alike →
    AreSameGraph K G (graph_of names ts)
told_graph names rows ts K G stay built literal type alike = record {
  there = record { rows = λ row h. subst (λ rs. Contains rs row) stay ((built row).0 h); literal = literal; rdf_type = type; alike = to_folds names K G.alike alike };
  back = record { rows = λ row h. (built row).1 (subst (λ rs. Contains rs row) (sym stay) h); literal = sym literal; rdf_type = sym type; alike = from_folds names K G.alike alike };
}

-- what is built of all rows has what is built of the first
pub has_front : (K : List Shape) (rows : List (List ℕ)) (n : ℕ) (G F : NumberedGraph) → ((row : List ℕ) → Contains G.rows row ↔ Contains (take n rows) row) →
    ((row : List ℕ) → Contains F.rows row ↔ Contains rows row) → G.literal ≡ F.literal → G.rdf_type ≡ F.rdf_type → G.alike ≡ F.alike → HasRowsOf K G F
has_front K rows n G F front all literal type alike = record {
  rows = λ row h. (all row).1 (subst (λ rs. Contains rs row) (take-append-drop n rows) (Contains-append_left (take n rows) (drop n rows) row ((front row).0 h)));
  literal = literal;
  rdf_type = type;
  alike = inl alike;
}
