-- How bytes are written between brackets and between quotation marks, as the code tells the two apart (this project's own).
use Rattle.std.specs.Prelude.{ℕ, Bool, not, List}
use Rattle.term_text.specs.CanonicalText.{iri_byte, string_byte}
use Rattle.nt_lex.specs.Chars.{is_iri_excluded, is_string_excluded}
use Rattle.term_text.specs.declared.escapes.Inside.{Inside}
use Rattle.term_text.specs.declared.escapes.Inside.TheVariants.{Brackets, Quotes}

-- a byte as it is written in an IRI or in a string
abbrev pub written_byte : Inside → ℕ → List ℕ
written_byte Brackets c = iri_byte c
written_byte Quotes c = string_byte c

-- whether a byte may not stand raw there (IRIREF and STRING_LITERAL_QUOTE of RDF 1.1 N-Triples, section 7)
abbrev pub is_escaped : Inside → ℕ → Bool
is_escaped Brackets c = is_iri_excluded c
is_escaped Quotes c = is_string_excluded c

-- whether a byte may stand raw there
abbrev pub is_raw : Inside → ℕ → Bool
is_raw inside c = not (is_escaped inside c)
