-- The tokens of a line of a key file, by their places: words, names, variables, and the IRIs and literals of N-Triples
-- (RDF 1.1 N-Triples, section 7). Tabs and spaces part them. The forms are this project's own.
use Rattle.std.specs.Prelude.{ℕ, ◌&&◌, ◌||◌, ◌==◌, not, Bool, false, List, [], ◌∷◌, length, drop, slice_index, slice_range, if◌then◌else◌, Result, Ok, Err}
use Rattle.gk_base.specs.declared.term.Term.{Term}
use Rattle.nt_lex.specs.Chars.{is_blank}
use Rattle.nt_lex.specs.Scans.{IsRunAt}
use Rattle.nt_lex.specs.Reading.{Says}
use Rattle.key_file.specs.Name.{is_name}
use Rattle.key_lang.specs.declared.fault.KeyFault.{KeyFault}
use Rattle.key_lang.specs.declared.fault.KeyFault.TheVariants.{BadIri, UnknownStatement, BadName}
use Rattle.key_lang.specs.Answers.{Is, Where, Lexed}

-- what stands after tabs and spaces
pub record Skipping {A : Type 0} (line : List ℕ) (at : ℕ) (Says : ℕ → Result A KeyFault → Type 0) (answer : Result A KeyFault) : Type 0 where
  pub next : ℕ
  pub skips : IsRunAt is_blank line at next
  pub says : Says next answer

-- a byte of a word: neither tab nor space
abbrev pub is_word_byte : ℕ → Bool
is_word_byte b = not (is_blank b)

-- what the word at the place says, and the place after it: the word is the longest run without tabs and spaces
pub record WithWord {A : Type 0} (line : List ℕ) (at : ℕ) (Says : List ℕ → ℕ → Result A KeyFault → Type 0) (answer : Result A KeyFault) : Type 0 where
  pub end : ℕ
  pub run : IsRunAt is_word_byte line at end
  pub says : Says (slice_range line at end) end answer

-- nothing more comes, or a comment
abbrev pub is_over : List ℕ → ℕ → Bool
is_over line at = at == length line || slice_index line at == 0x23

-- nothing but a comment comes after the last token, and then this
abbrev pub Closes : {A : Type 0} → List ℕ → ℕ → (Result A KeyFault → Type 0) → Result A KeyFault → Type 0
Closes line at Says answer = Skipping line at (λ next. Where (is_over line next) Says (Is (Err UnknownStatement))) answer

-- the name that a word is, and the place after it
abbrev pub name_of : List ℕ → ℕ → Result (List ℕ × ℕ) KeyFault
name_of word end = if is_name word then Ok (word, end) else Err BadName

-- this sigil and a name
abbrev pub is_variable : ℕ → List ℕ → Bool
is_variable sigil [] = false
is_variable sigil (b ∷ name) = b == sigil && is_name name

-- the name of the variable with this sigil that a word is, and the place after it
abbrev pub variable_of : ℕ → List ℕ → ℕ → Result (List ℕ × ℕ) KeyFault
variable_of sigil word end = if is_variable sigil word then Ok (drop 1 word, end) else Err BadName

-- a name stands here
abbrev pub NameSays : List ℕ → ℕ → Result (List ℕ × ℕ) KeyFault → Type 0
NameSays line at answer = WithWord line at (λ word end. Is (name_of word end)) answer

-- a variable with this sigil stands here, to be declared
abbrev pub VariableSays : ℕ → List ℕ → ℕ → Result (List ℕ × ℕ) KeyFault → Type 0
VariableSays sigil line at answer = WithWord line at (λ word end. Is (variable_of sigil word end)) answer

-- a term that begins with one of these bytes stands here, or else it is this fault
abbrev pub TokenSays : (ℕ → Bool) → KeyFault → List ℕ → ℕ → Result (Term × ℕ) KeyFault → Type 0
TokenSays begins expected line at answer = Where (begins (slice_index line at)) (Lexed (Says line at)) (Is (Err expected)) answer

-- `<`, with which an IRI begins
abbrev pub begins_iri : ℕ → Bool
begins_iri b = b == 0x3C

-- an IRI stands here
abbrev pub IriSays : List ℕ → ℕ → Result (Term × ℕ) KeyFault → Type 0
IriSays line at answer = TokenSays begins_iri BadIri line at answer

-- `<` and `"`, with which a constant begins: an IRI or a literal
abbrev pub begins_constant : ℕ → Bool
begins_constant b = b == 0x3C || b == 0x22

-- an IRI or a literal stands here
abbrev pub ConstantSays : List ℕ → ℕ → Result (Term × ℕ) KeyFault → Type 0
ConstantSays line at answer = TokenSays begins_constant UnknownStatement line at answer
