use Rattle.nt_lex.proofs.BoundaryLemmas.{ends_at_a_character}
use Rattle.nt_lex.proofs.laws.law_ends_at_a_character.Goals as goal

pub returns : goal.returns
returns c = ends_at_a_character
