-- How terms are spelled: the terminals of RDF 1.1 N-Triples, section 7, each as a relation between a piece of text and what it
-- says. Characters are code points, and a piece is the bytes of their UTF-8.
use Rattle.std.specs.Prelude.{◌≡◌, ◌≢◌, ℕ, Bool, true, false, List, [], ◌∷◌, ◌++◌, map, codes, encode_utf8_all}
use Rattle.std.specs.List.{list_all, flat_map}
use Rattle.std.specs.Char.{to_ascii_lowercase}
use Rattle.gk_base.specs.declared.term.Term.{Term}
use Rattle.gk_base.specs.declared.term.Term.TheVariants.{Iri, Blank, Plain, Typed, Lang}
use Rattle.nt_lex.specs.Chars.{is_absolute, is_blank, is_letter, is_letter_or_digit, is_label_first, is_label_inner}
use Rattle.nt_lex.specs.Written.{Written, in_iri, in_string, spelling, meaning}

-- IRIREF: `<`, UCHAR and characters that are not excluded, `>`. The text that they stand for is that of an absolute IRI.
pub record SpellsIri (piece text : List ℕ) : Type 0 where
  pub written : List Written
  pub each : list_all in_iri written ≡ true
  pub whole : piece ≡ 0x3C ∷ (spelling written ++ 0x3E ∷ [])
  pub says : text ≡ meaning written
  pub absolute : is_absolute text ≡ true

-- STRING_LITERAL_QUOTE: `"`, ECHAR, UCHAR and characters that are not excluded, `"`
pub record SpellsString (piece text : List ℕ) : Type 0 where
  pub written : List Written
  pub each : list_all in_string written ≡ true
  pub whole : piece ≡ 0x22 ∷ (spelling written ++ 0x22 ∷ [])
  pub says : text ≡ meaning written

-- BLANK_NODE_LABEL: `_:`, a character that may begin a label, then PN_CHARS and dots, the last of which is no dot
pub record SpellsLabel (piece label : List ℕ) : Type 0 where
  pub first : ℕ
  pub others : List ℕ
  pub begins : is_label_first first ≡ true
  pub each : list_all is_label_inner others ≡ true
  pub ends : (before : List ℕ) → others ≢ before ++ 0x2E ∷ []
  pub whole : piece ≡ 0x5F ∷ 0x3A ∷ label
  pub says : label ≡ encode_utf8_all (first ∷ others)

-- one or more letters or digits
abbrev pub is_subtag : List ℕ → Bool
is_subtag [] = false
is_subtag (c ∷ cs) = list_all is_letter_or_digit (c ∷ cs)

-- one or more letters
abbrev pub is_primary : List ℕ → Bool
is_primary [] = false
is_primary (c ∷ cs) = list_all is_letter (c ∷ cs)

-- each subtag after a dash
abbrev pub dashed : List (List ℕ) → List ℕ
dashed subtags = flat_map (λ subtag. 0x2D ∷ subtag) subtags

-- LANGTAG without its `@`: letters, and then any number of groups of a dash and letters or digits
pub record IsTag (tag : List ℕ) : Type 0 where
  pub primary : List ℕ
  pub subtags : List (List ℕ)
  pub letters : is_primary primary ≡ true
  pub groups : list_all is_subtag subtags ≡ true
  pub whole : tag ≡ primary ++ dashed subtags

-- the datatype of literals that have no other (RDF 1.1 Concepts, section 3.3)
abbrev pub xsd_string : List ℕ
xsd_string = codes "http://www.w3.org/2001/XMLSchema#string"

-- the literal of this lexical form and this datatype: `xsd:string` is not kept
pub record HasDatatype (form datatype : List ℕ) (term : Term) : Type 0 where
  pub plain : datatype ≡ xsd_string → term ≡ Plain form
  pub typed : datatype ≢ xsd_string → term ≡ Typed form datatype

-- the bytes are tabs and spaces, `^^`, tabs and spaces, and then more
pub record AfterCarets (bytes more : List ℕ) : Type 0 where
  pub gap : List ℕ
  pub space : List ℕ
  pub before : list_all is_blank gap ≡ true
  pub between : list_all is_blank space ≡ true
  pub whole : bytes ≡ gap ++ 0x5E ∷ 0x5E ∷ (space ++ more)

-- the bytes are tabs and spaces, `@`, and then more
pub record AfterAt (bytes more : List ℕ) : Type 0 where
  pub gap : List ℕ
  pub before : list_all is_blank gap ≡ true
  pub whole : bytes ≡ gap ++ 0x40 ∷ more

-- what stands after the string of a literal, and the literal that it makes of this lexical form: nothing; `^^` and an IRIREF;
-- or a LANGTAG, whose letters are kept in lower case
pub data SpellsSuffix (piece form : List ℕ) : Term → Type 0 where
  plain : piece ≡ [] → SpellsSuffix piece form (Plain form)
  typed : {iri datatype : List ℕ} {term : Term} → AfterCarets piece iri → SpellsIri iri datatype → HasDatatype form datatype term → SpellsSuffix piece form term
  tagged : {tag : List ℕ} → AfterAt piece tag → IsTag tag → SpellsSuffix piece form (Lang form (map to_ascii_lowercase tag))

-- the piece spells the term (subject, predicate, object and literal of the grammar)
pub data Spells (piece : List ℕ) : Term → Type 0 where
  iri : {text : List ℕ} → SpellsIri piece text → Spells piece (Iri text)
  blank : {label : List ℕ} → SpellsLabel piece label → Spells piece (Blank label)
  literal : {string form suffix : List ℕ} {term : Term} → SpellsString string form → SpellsSuffix suffix form term
      → piece ≡ string ++ suffix → Spells piece term
