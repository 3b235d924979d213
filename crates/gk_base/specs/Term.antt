-- Kinds of terms.
use Rattle.std.specs.Prelude.{Bool, true, false}
use Rattle.gk_base.specs.declared.term.Term.{Term}
use Rattle.gk_base.specs.declared.term.Term.TheVariants.{Iri, Blank, Plain, Typed, Lang}

-- a literal, and no IRI or blank node (RDF 1.1 Concepts, section 3.3)
abbrev pub is_literal : Term → Bool
is_literal (Iri name) = false
is_literal (Blank label) = false
is_literal (Plain form) = true
is_literal (Typed form datatype) = true
is_literal (Lang form tag) = true
