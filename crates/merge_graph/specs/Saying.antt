-- When a merged graph can be read again, and how it is read: this project's own words.
use Rattle.std.specs.Prelude.{◌≡◌, ◌<◌, ◌≤◌, ℕ, Bool, true, false, List, length, slice_index, All, Ok}
use Rattle.gk_base.specs.Term.{is_literal}
use Rattle.gk_base.specs.declared.limits.Limits.{Limits}
use Rattle.gk_base.specs.declared.term.Term.{Term}
use Rattle.gk_base.specs.declared.term.Term.TheVariants.{Iri, Blank, Plain, Typed, Lang}
use Rattle.gk_base.specs.declared.term.Triple.{Triple}
use Rattle.nt_reader.specs.File.{FileSays}
use Rattle.term_text.specs.ReadBack.{CanBeSpelled}
use Rattle.merge_graph.specs.MergedGraph.{name_at, same_label, lines_of, IsMerged}

-- an IRI, which a predicate has to be (RDF 1.1 Concepts, section 3.1)
abbrev pub is_iri : Term → Bool
is_iri (Iri name) = true
is_iri (Blank label) = false
is_iri (Plain form) = false
is_iri (Typed form datatype) = false
is_iri (Lang form tag) = false

-- what a file of N-Triples says, in numbers, with classes of entities: names that can be spelled, subjects that are no
-- literals, predicates that are IRIs, and each literal alone in its class
pub record CanBeSaid (names : List Term) (rows : List (List ℕ)) (labels : List ℕ) : Type 0 where
  pub spelled : All CanBeSpelled names
  pub subjects : All (λ row. is_literal (name_at names (slice_index row 0)) ≡ false) rows
  pub predicates : All (λ row. is_iri (name_at names (slice_index row 1)) ≡ true) rows
  pub literals : (m n : ℕ) → m < length names → n < length names → same_label labels m n ≡ true → is_literal (name_at names n) ≡ true → m ≡ n

-- the text is read as these triples in this order, under any limits that have room for it
abbrev pub IsReadAs : List ℕ → List Triple → Type 0
IsReadAs text triples = (limits : Limits) → length text ≤ limits.bytes → length triples ≤ limits.triples → FileSays limits text (Ok triples)

-- the text is that of the merged graph, and is read as it
pub record IsReadAsMerged (names : List Term) (rows : List (List ℕ)) (same : ℕ → ℕ → Bool) (text : List ℕ) : Type 0 where
  pub listed : List Triple
  pub merged : IsMerged names rows same listed
  pub whole : text ≡ lines_of listed
  pub reads : IsReadAs text listed
