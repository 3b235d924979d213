-- Which entity of a graph a word names: this project's own words.
use Rattle.std.specs.Prelude.{List, ℕ, false, Contains, ◌≡◌, ◌⊎◌}
use Rattle.gk_base.specs.Term.{is_literal}
use Rattle.gk_base.specs.declared.term.Term.{Term}
use Rattle.gk_base.specs.declared.term.Triple.{Triple}
use Rattle.nt_lex.specs.Spelling.{Spells}

-- an entity of the graph: a term that is no literal, and the subject or the object of a triple
pub record IsEntityOf (triples : List Triple) (term : Term) : Type 0 where
  pub triple : Triple
  pub stands : Contains triples triple
  pub end : (term ≡ triple.subject) ⊎ (term ≡ triple.object)
  pub no_literal : is_literal term ≡ false

-- the whole word spells this entity, as a file of N-Triples would
pub record SpellsEntity (triples : List Triple) (word : List ℕ) (term : Term) : Type 0 where
  pub spells : Spells word term
  pub entity : IsEntityOf triples term

-- the word spells an entity
abbrev pub NamesOne : List Triple → List ℕ → Type 0
NamesOne triples word = (term : Term) × SpellsEntity triples word term
