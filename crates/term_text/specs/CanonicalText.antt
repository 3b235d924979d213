-- The canonical spelling of terms and triples, one among those that the grammar of the RDF 1.1 N-Triples
-- Recommendation (section 7) allows. A text is a list of bytes; a byte from 128 on is written as it is.
use Rattle.std.specs.Prelude.{ℕ, ◌+◌, ◌/◌, ◌%◌, ◌==◌, nat_lt, if◌then◌else◌, List, [], ◌∷◌, ◌++◌, map}
use Rattle.std.specs.List.{flat_map}
use Rattle.gk_base.specs.declared.term.Term.{Term}
use Rattle.gk_base.specs.declared.term.Term.TheVariants.{Iri, Blank, Plain, Typed, Lang}
use Rattle.gk_base.specs.declared.term.Triple.{Triple}
use Rattle.nt_lex.specs.Chars.{is_iri_excluded}

-- the upper-case hexadecimal digit of a number below 16 (HEX)
abbrev pub hex_digit : ℕ → ℕ
hex_digit n = if nat_lt n 10 then n + 0x30 else n + 0x37

-- the escape of a character below U+10000 (UCHAR): \u and four digits
abbrev pub unicode_escape : ℕ → List ℕ
unicode_escape c = 0x5C ∷ 0x75 ∷ hex_digit (c / 4096) ∷ hex_digit (c / 256 % 16) ∷ hex_digit (c / 16 % 16) ∷ hex_digit (c % 16) ∷ []

-- a byte of an IRI, as it is written (IRIREF): escaped where it may not stand raw
abbrev pub iri_byte : ℕ → List ℕ
iri_byte c = if is_iri_excluded c then unicode_escape c else c ∷ []

-- a byte of a string, as it is written (STRING_LITERAL_QUOTE): \" \\ \n and \r (ECHAR) for the four that may not stand raw
abbrev pub string_byte : ℕ → List ℕ
string_byte c =
    if c == 0x22 then 0x5C ∷ 0x22 ∷ []
    else if c == 0x5C then 0x5C ∷ 0x5C ∷ []
    else if c == 0x0A then 0x5C ∷ 0x6E ∷ []
    else if c == 0x0D then 0x5C ∷ 0x72 ∷ []
    else c ∷ []

-- an IRI: its characters between < and >
abbrev pub iri_text : List ℕ → List ℕ
iri_text name = 0x3C ∷ (flat_map iri_byte name ++ 0x3E ∷ [])

-- a string: its characters between quotation marks
abbrev pub string_text : List ℕ → List ℕ
string_text form = 0x22 ∷ (flat_map string_byte form ++ 0x22 ∷ [])

-- a term: an IRI; a blank node as _: and its label; a literal as its string, then ^^ and a datatype, or @ and a tag, or nothing
abbrev pub term_text : Term → List ℕ
term_text (Iri name) = iri_text name
term_text (Blank label) = 0x5F ∷ 0x3A ∷ label
term_text (Plain form) = string_text form
term_text (Typed form datatype) = string_text form ++ 0x5E ∷ 0x5E ∷ iri_text datatype
term_text (Lang form tag) = string_text form ++ 0x40 ∷ tag

-- a triple: its terms and a dot with single spaces between the four, and a line end
abbrev pub triple_text : Triple → List ℕ
triple_text t = term_text t.subject ++ 0x20 ∷ (term_text t.predicate ++ 0x20 ∷ (term_text t.object ++ 0x20 ∷ 0x2E ∷ 0x0A ∷ []))

-- the canonical texts of terms
abbrev pub texts_of : List Term → List (List ℕ)
texts_of terms = map term_text terms
