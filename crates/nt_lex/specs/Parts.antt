-- What the private functions answer: parts of a term, and where they end.
use Rattle.std.specs.Prelude.{◌≡◌, ◌≢◌, ℕ, ◌+◌, ◌≤◌, true, List, [], ◌∷◌, ◌++◌, length, drop, slice_range, encode_utf8, encode_utf8_all, Option, Some, None, Result, Ok, Err}
use Rattle.std.specs.List.{list_all}
use Rattle.std.specs.Cow.{cow_slice_items}
use Rattle.std.specs.declared.borrow.CowSlice.{CowSlice}
use Rattle.gk_base.specs.declared.term.Term.{Term}
use Rattle.gk_base.specs.declared.lex_fault.LexFault.{LexFault}
use Rattle.nt_lex.specs.Chars.{is_label_first, is_label_inner}
use Rattle.nt_lex.specs.Spelling.{SpellsIri, IsTag, SpellsSuffix}
use Rattle.nt_lex.specs.Reading.{LabelStops, TagStops, SuffixStops, IriFails, TagFails, SuffixFails}

-- a piece that spells an IRI with this text stands from the one place to the other
pub record IriAt (line : List ℕ) (at : ℕ) (text : List ℕ) (end : ℕ) : Type 0 where
  pub piece : List ℕ
  pub spells : SpellsIri piece text
  pub here : drop at line ≡ piece ++ drop end line
  pub ends : end ≡ at + length piece
  pub within : end ≤ length line

-- what is to be answered to an IRI whose `<` stands at the place: the text that it spells and the place after it, or its fault
abbrev pub IriTextSays : {Z : Type 0} → List ℕ → ℕ → Result (CowSlice ℕ Z × ℕ) LexFault → Type 0
IriTextSays line at (Ok read) = IriAt line at (cow_slice_items read.0) read.1
IriTextSays line at (Err fault) = IriFails (drop (at + 1) line) fault

-- a tag stands from the one place to the other, and stops there
pub record TagAt (line : List ℕ) (from end : ℕ) : Type 0 where
  pub is : IsTag (slice_range line from end)
  pub here : drop from line ≡ slice_range line from end ++ drop end line
  pub stops : TagStops is (drop end line)
  pub ordered : from ≤ end
  pub within : end ≤ length line

-- where the tag ends that goes on from the place after its `@`, or that there is none
abbrev pub TagSays : List ℕ → ℕ → Option ℕ → Type 0
TagSays line from (Some end) = TagAt line from end
TagSays line from None = TagFails (drop from line)

-- the first size bytes are what follows the first character of a label, which stops there
pub record OthersIn (bytes : List ℕ) (size : ℕ) : Type 0 where
  pub others : List ℕ
  pub each : list_all is_label_inner others ≡ true
  pub ends : (before : List ℕ) → others ≢ before ++ 0x2E ∷ []
  pub whole : bytes ≡ encode_utf8_all others ++ drop size bytes
  pub long : size ≡ length (encode_utf8_all others)
  pub stops : LabelStops (drop size bytes)

-- the first size bytes are a label without its `_:`, which stops there
pub record LabelIn (bytes : List ℕ) (size : ℕ) : Type 0 where
  pub first : ℕ
  pub others : List ℕ
  pub begins : is_label_first first ≡ true
  pub each : list_all is_label_inner others ≡ true
  pub ends : (before : List ℕ) → others ≢ before ++ 0x2E ∷ []
  pub whole : bytes ≡ encode_utf8_all (first ∷ others) ++ drop size bytes
  pub long : size ≡ length (encode_utf8_all (first ∷ others))
  pub stops : LabelStops (drop size bytes)

-- how many bytes the label takes with which the bytes begin, or that they begin with none
abbrev pub LabelSays : List ℕ → Option ℕ → Type 0
LabelSays bytes (Some size) = LabelIn bytes size
LabelSays bytes None = (c : ℕ) (more : List ℕ) → is_label_first c ≡ true → bytes ≢ encode_utf8 c ++ more

-- what follows the string of a literal of this lexical form, from the one place to the other, makes the term
pub record SuffixAt (line form : List ℕ) (close : ℕ) (term : Term) (end : ℕ) : Type 0 where
  pub piece : List ℕ
  pub spells : SpellsSuffix piece form term
  pub stops : SuffixStops spells (drop end line)
  pub here : drop close line ≡ piece ++ drop end line
  pub ends : end ≡ close + length piece
  pub within : end ≤ length line

-- what is to be answered after the string of a literal
abbrev pub SuffixSays : List ℕ → List ℕ → ℕ → Result (Term × ℕ) LexFault → Type 0
SuffixSays line form close (Ok read) = SuffixAt line form close read.0 read.1
SuffixSays line form close (Err fault) = SuffixFails (drop close line) fault
