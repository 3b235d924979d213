-- Triples as their terms in a row (this project's own).
use Rattle.std.specs.Prelude.{◌≡◌, List, [], ◌∷◌, flat_map}
use Rattle.gk_base.specs.declared.term.Term.{Term}
use Rattle.gk_base.specs.declared.term.Triple.{Triple}

-- the terms of a triple in order
abbrev pub triple_terms : Triple → List Term
triple_terms triple = triple.subject ∷ triple.predicate ∷ triple.object ∷ []

-- the terms of triples, triple by triple
abbrev pub terms_of : List Triple → List Term
terms_of triples = flat_map triple_terms triples

-- terms in threes, each a triple
abbrev pub triples_in : List Term → List Triple
triples_in (s ∷ p ∷ o ∷ rest) = record { subject = s; predicate = p; object = o } ∷ triples_in rest
triples_in rest = []

-- the terms are those of triples
abbrev pub AreWhole : List Term → Type 0
AreWhole terms = terms_of (triples_in terms) ≡ terms
