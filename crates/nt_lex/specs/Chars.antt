-- The characters that the terminals are made of, by the names of RDF 1.1 N-Triples, section 7 (Grammar).
use Rattle.std.specs.Prelude.{ℕ, Bool, false, ◌&&◌, ◌||◌, ◌==◌, not, nat_le, List, [], ◌∷◌}

-- one of lo to hi: the grammar's [lo-hi]
abbrev pub is_between : ℕ → ℕ → ℕ → Bool
is_between lo hi c = nat_le lo c && nat_le c hi

-- [a-zA-Z]
abbrev pub is_letter : ℕ → Bool
is_letter c = is_between 0x41 0x5A c || is_between 0x61 0x7A c

-- [0-9]
abbrev pub is_digit : ℕ → Bool
is_digit c = is_between 0x30 0x39 c

-- [a-zA-Z0-9]
abbrev pub is_letter_or_digit : ℕ → Bool
is_letter_or_digit c = is_letter c || is_digit c

-- PN_CHARS_BASE
abbrev pub is_pn_chars_base : ℕ → Bool
is_pn_chars_base c =
    is_letter c || is_between 0xC0 0xD6 c || is_between 0xD8 0xF6 c || is_between 0xF8 0x2FF c || is_between 0x370 0x37D c || is_between 0x37F 0x1FFF c
    || is_between 0x200C 0x200D c || is_between 0x2070 0x218F c || is_between 0x2C00 0x2FEF c || is_between 0x3001 0xD7FF c || is_between 0xF900 0xFDCF c
    || is_between 0xFDF0 0xFFFD c || is_between 0x1_0000 0xE_FFFF c

-- PN_CHARS_U: PN_CHARS_BASE, `_` or `:`
abbrev pub is_pn_chars_u : ℕ → Bool
is_pn_chars_u c = is_pn_chars_base c || c == 0x5F || c == 0x3A

-- PN_CHARS_U or a digit, which may begin a label (BLANK_NODE_LABEL)
abbrev pub is_label_first : ℕ → Bool
is_label_first c = is_pn_chars_u c || is_digit c

-- PN_CHARS
abbrev pub is_pn_chars : ℕ → Bool
is_pn_chars c = is_pn_chars_u c || c == 0x2D || is_digit c || c == 0xB7 || is_between 0x300 0x36F c || is_between 0x203F 0x2040 c

-- PN_CHARS or a dot, which may stand inside a label (BLANK_NODE_LABEL)
abbrev pub is_label_inner : ℕ → Bool
is_label_inner c = is_pn_chars c || c == 0x2E

-- U+0000 to U+0020 and < > " { } | ^ ` \, which do not stand raw in an IRIREF
abbrev pub is_iri_excluded : ℕ → Bool
is_iri_excluded c =
    nat_le c 0x20 || c == 0x3C || c == 0x3E || c == 0x22 || c == 0x7B || c == 0x7D || c == 0x7C || c == 0x5E || c == 0x60 || c == 0x5C

-- " \ line feed and carriage return, which do not stand raw in a STRING_LITERAL_QUOTE
abbrev pub is_string_excluded : ℕ → Bool
is_string_excluded c = c == 0x22 || c == 0x5C || c == 0x0A || c == 0x0D

-- t b n r f " ' \, one of which stands after the backslash of an ECHAR
abbrev pub is_escape_letter : ℕ → Bool
is_escape_letter l = l == 0x74 || l == 0x62 || l == 0x6E || l == 0x72 || l == 0x66 || l == 0x22 || l == 0x27 || l == 0x5C

-- what stands in a scheme after its first letter (RFC 3986, section 3.1)
abbrev pub is_scheme : ℕ → Bool
is_scheme c = is_letter c || is_digit c || c == 0x2B || c == 0x2D || c == 0x2E

-- the rest of a scheme, and a colon
abbrev pub goes_on_to_colon : List ℕ → Bool
goes_on_to_colon [] = false
goes_on_to_colon (c ∷ cs) = c == 0x3A || (is_scheme c && goes_on_to_colon cs)

-- it begins with a letter, the rest of a scheme and a colon: all that is asked of an IRI (this project's own; N-Triples
-- section 2.1 asks for absolute IRIs)
abbrev pub is_absolute : List ℕ → Bool
is_absolute [] = false
is_absolute (c ∷ cs) = is_letter c && goes_on_to_colon cs

-- tab and space, which may stand between terminals (N-Triples, section 7)
abbrev pub is_blank : ℕ → Bool
is_blank c = c == 0x20 || c == 0x09

-- a byte of a character that stands for itself in an IRIREF, and one in a STRING_LITERAL_QUOTE
abbrev pub is_iri_plain : ℕ → Bool
is_iri_plain c = not (is_iri_excluded c)

abbrev pub is_string_plain : ℕ → Bool
is_string_plain c = not (is_string_excluded c)
