-- Terms that N-Triples can spell (RDF 1.1 N-Triples, section 7).
use Rattle.std.specs.Prelude.{ℕ, List}
use Rattle.gk_base.specs.declared.term.Term.{Term}
use Rattle.nt_lex.specs.Spelling.{Spells}

-- some piece of text spells the term
pub record CanBeSpelled (term : Term) : Type 0 where
  pub piece : List ℕ
  pub spells : Spells piece term
