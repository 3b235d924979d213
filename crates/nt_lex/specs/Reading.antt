-- What stands at a place of a line: a term, which ends where its terminal can not go on, or a fault. The terminals are those
-- of RDF 1.1 N-Triples, section 7; which fault is named is this project's own rule: the leftmost one.
use Rattle.std.specs.Prelude.{◌≡◌, ◌≢◌, ℕ, ◌+◌, ◌||◌, ◌==◌, Bool, true, false, if◌then◌else◌, List, [], ◌∷◌, ◌++◌, length, drop, encode_utf8, Result, Ok, Err}
use Rattle.std.specs.List.{list_all}
use Rattle.gk_base.specs.declared.term.Term.{Term}
use Rattle.gk_base.specs.declared.lex_fault.LexFault.{LexFault}
use Rattle.gk_base.specs.declared.lex_fault.LexFault.TheVariants.{ObjectExpected, BadIri, RelativeIri, BadEscape, StringNotClosed, BadBlankNodeLabel, BadLanguageTag}
use Rattle.nt_lex.specs.Chars.{is_absolute, is_blank, is_letter, is_letter_or_digit, is_label_first, is_label_inner}
use Rattle.nt_lex.specs.Scans.{NextFails}
use Rattle.nt_lex.specs.Written.{Written, in_iri, in_string, meaning, Runs}
use Rattle.nt_lex.specs.Spelling.{SpellsString, IsTag, AfterCarets, AfterAt, SpellsSuffix, plain, typed, tagged, Spells, iri, blank, literal}

-- a label stops before dots that no further character of a label follows
pub record LabelStops (rest : List ℕ) : Type 0 where
  pub dots : List ℕ
  pub after : List ℕ
  pub each : list_all (λ b. b == 0x2E) dots ≡ true
  pub whole : rest ≡ dots ++ after
  pub none : (c : ℕ) (more : List ℕ) → is_label_inner c ≡ true → after ≢ encode_utf8 c ++ more

-- what would lengthen the last part of a tag with these subtags
abbrev pub lengthens : List (List ℕ) → ℕ → Bool
lengthens [] c = is_letter c
lengthens (subtag ∷ more) c = is_letter_or_digit c

-- a tag stops where neither a dash nor a further character of its last part comes next
pub record TagStops {tag : List ℕ} (is : IsTag tag) (rest : List ℕ) : Type 0 where
  pub last : NextFails (lengthens is.subtags) rest
  pub dash : NextFails (λ b. b == 0x2D) rest

-- a literal that is its string alone stops where neither `^^` nor `@` comes next, with or without tabs and spaces before it
pub record StringStops (rest : List ℕ) : Type 0 where
  pub no_datatype : (more : List ℕ) → ¬ (AfterCarets rest more)
  pub no_tag : (more : List ℕ) → ¬ (AfterAt rest more)

-- the literal stops before the rest; an IRIREF stops at its `>`
abbrev pub SuffixStops : {piece form : List ℕ} {term : Term} → SpellsSuffix piece form term → List ℕ → Type 0
SuffixStops (plain whole) rest = StringStops rest
SuffixStops (typed carets name datatype) rest = Unit {0}
SuffixStops (tagged at tag) rest = TagStops tag rest

-- the term stops before the rest
abbrev pub TermStops : {piece : List ℕ} {term : Term} → Spells piece term → List ℕ → Type 0
TermStops (iri spells) rest = Unit {0}
TermStops (blank spells) rest = LabelStops rest
TermStops (literal string suffix whole) rest = SuffixStops suffix rest

-- the bytes of the line from the one place to the other spell the term, which stops there
pub record Reads (line : List ℕ) (at : ℕ) (term : Term) (end : ℕ) : Type 0 where
  pub piece : List ℕ
  pub rest : List ℕ
  pub spells : Spells piece term
  pub stops : TermStops spells rest
  pub here : drop at line ≡ piece ++ rest
  pub ends : end ≡ at + length piece

-- what stops the characters of an IRIREF, which is not read: nothing or an excluded character, a backslash that begins no
-- UCHAR, or `>` after a text that is not absolute
abbrev pub iri_fault : List ℕ → LexFault
iri_fault [] = BadIri
iri_fault (b ∷ more) = if b == 0x5C then BadEscape else if b == 0x3E then RelativeIri else BadIri

-- no IRIREF goes on with these bytes after its `<`
pub record IriFails (bytes : List ℕ) (fault : LexFault) : Type 0 where
  pub written : List Written
  pub rest : List ℕ
  pub runs : Runs in_iri bytes written rest
  pub cause : fault ≡ iri_fault rest
  pub relative : fault ≡ RelativeIri → is_absolute (meaning written) ≡ false

-- no BLANK_NODE_LABEL goes on with these bytes after its `_`: no colon and first character of a label come next
pub record LabelFails (bytes : List ℕ) : Type 0 where
  pub none : (c : ℕ) (more : List ℕ) → is_label_first c ≡ true → bytes ≢ 0x3A ∷ (encode_utf8 c ++ more)

-- what stops the characters of a STRING_LITERAL_QUOTE that is not closed there: a backslash that begins no escape, or the end
-- of the line
abbrev pub string_fault : List ℕ → LexFault
string_fault [] = StringNotClosed
string_fault (b ∷ more) = if b == 0x5C then BadEscape else StringNotClosed

-- no STRING_LITERAL_QUOTE goes on with these bytes after its first `"`
pub record StringFails (bytes : List ℕ) (fault : LexFault) : Type 0 where
  pub written : List Written
  pub rest : List ℕ
  pub runs : Runs in_string bytes written rest
  pub open_still : (more : List ℕ) → rest ≢ 0x22 ∷ more
  pub cause : fault ≡ string_fault rest

-- a tag, and then a dash with no letter or digit
pub record SubtagFails (bytes : List ℕ) : Type 0 where
  pub tag : List ℕ
  pub more : List ℕ
  pub is : IsTag tag
  pub whole : bytes ≡ tag ++ 0x2D ∷ more
  pub none : NextFails is_letter_or_digit more

-- no LANGTAG goes on with these bytes after its `@`: no letter comes next, or after a tag a dash with no letter or digit
pub data TagFails (bytes : List ℕ) : Type 0 where
  no_letter : NextFails is_letter bytes → TagFails bytes
  no_subtag : SubtagFails bytes → TagFails bytes

-- after `^^` stands no `<`
pub record DatatypeFails (bytes : List ℕ) : Type 0 where
  pub more : List ℕ
  pub carets : AfterCarets bytes more
  pub none : NextFails (λ b. is_blank b || b == 0x3C) more

-- what stands after the string of a literal is faulty: after `^^` no `<`, or a faulty IRIREF; or a faulty LANGTAG
pub data SuffixFails (bytes : List ℕ) : LexFault → Type 0 where
  no_datatype : DatatypeFails bytes → SuffixFails bytes BadIri
  bad_datatype : {more : List ℕ} {fault : LexFault} → AfterCarets bytes (0x3C ∷ more) → IriFails more fault → SuffixFails bytes fault
  bad_tag : {more : List ℕ} → AfterAt bytes more → TagFails more → SuffixFails bytes BadLanguageTag

-- `<`, `_` and `"`, with which the terms begin
abbrev pub begins_term : ℕ → Bool
begins_term b = b == 0x3C || b == 0x5F || b == 0x22

-- no term begins these bytes, by this fault
pub data FailsFrom (bytes : List ℕ) : LexFault → Type 0 where
  no_term : NextFails begins_term bytes → FailsFrom bytes ObjectExpected
  bad_iri : {more : List ℕ} {fault : LexFault} → bytes ≡ 0x3C ∷ more → IriFails more fault → FailsFrom bytes fault
  bad_label : {more : List ℕ} → bytes ≡ 0x5F ∷ more → LabelFails more → FailsFrom bytes BadBlankNodeLabel
  bad_string : {more : List ℕ} {fault : LexFault} → bytes ≡ 0x22 ∷ more → StringFails more fault → FailsFrom bytes fault
  bad_suffix : {string form after : List ℕ} {fault : LexFault} → SpellsString string form → bytes ≡ string ++ after
      → SuffixFails after fault → FailsFrom bytes fault

-- no term is read at the place, by this fault
abbrev pub Fails : List ℕ → ℕ → LexFault → Type 0
Fails line at fault = FailsFrom (drop at line) fault

-- what is to be answered at the place: the term that stands there and the place after it, or the fault
abbrev pub Says : List ℕ → ℕ → Result (Term × ℕ) LexFault → Type 0
Says line at (Ok read) = Reads line at read.0 read.1
Says line at (Err fault) = Fails line at fault
