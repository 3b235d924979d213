-- What a line of a key file says where it stands. A line is a statement, or it says nothing. The checks of a statement come
-- in this order: its first word; whether it may stand there; whether there are keys enough; its tokens from left to right;
-- that nothing follows; and what it does to the key. All of it is this project's own.
use Rattle.std.specs.Prelude.{ℕ, ◌||◌, ◌==◌, nat_lt, bytes_eq, Bool, true, false, List, [], ◌∷◌, ◌++◌, length, slice_index, codes, IsUtf8, if◌then◌else◌, Option, Some, None, Result, Ok, Err, position}
use Rattle.gk_base.specs.declared.term.Term.{Term}
use Rattle.key_file.specs.declared.slot.KeySlot.{KeySlot}
use Rattle.key_file.specs.declared.slot.KeySlot.TheVariants.{Entity, Any, Value, Folded}
use Rattle.key_file.specs.KeyShape.{KeyShape}
use Rattle.key_lang.specs.declared.fault.KeyFault.{KeyFault}
use Rattle.key_lang.specs.declared.fault.KeyFault.TheVariants.{NotUtf8, UnknownStatement, BadName, StatementOutOfPlace, VariableNotDeclared, SubjectMustBeAnEntityVariableOrWildcard, TooManyKeys}
use Rattle.key_lang.specs.declared.open_key.Object.{Object}
use Rattle.key_lang.specs.declared.open_key.Object.TheVariants.{Declared, Given}
use Rattle.key_lang.specs.declared.keyword.Keyword.{Keyword}
use Rattle.key_lang.specs.declared.keyword.Keyword.TheVariants as word
use Rattle.key_lang.specs.Answers.{Is, Then, Where}
use Rattle.key_file.specs.Name.{is_name}
use Rattle.key_lang.specs.Tokens.{Skipping, WithWord, Closes, is_over, NameSays, VariableSays, IriSays, ConstantSays}
use Rattle.key_lang.specs.OpenKey.{OpenShape, KeyState, is_named_so, begin, declare, link, finish}

-- the first words
abbrev pub keyword_of : List ℕ → Option Keyword
keyword_of text =
    if bytes_eq text (codes "key") then Some word.Key
    else if bytes_eq text (codes "entity") then Some word.Entity
    else if bytes_eq text (codes "any") then Some word.Any
    else if bytes_eq text (codes "value") then Some word.Value
    else if bytes_eq text (codes "folded") then Some word.Folded
    else if bytes_eq text (codes "end") then Some word.End
    else None

-- `key NAME <type>`, from the place after `key`
abbrev pub KeySays : List KeyShape → List ℕ → ℕ → Result KeyState KeyFault → Type 0
KeySays keys line at answer =
    Then (Skipping line at (NameSays line)) (λ name. Then (Skipping line name.1 (IriSays line)) (λ type.
    Closes line type.1 (Is (begin keys name.0 type.0)))) answer

-- the sigil and the slot of a variable that has a type: `entity ?y <type>` and `any _w <type>`
abbrev pub typed_slot : ℕ → List ℕ → Term → KeySlot
typed_slot sigil name type = if sigil == 0x3F then Entity name type else Any name type

-- its declaration, from the place after the first word
abbrev pub TypedSays : ℕ → OpenShape → List ℕ → ℕ → Result OpenShape KeyFault → Type 0
TypedSays sigil key line at answer =
    Then (Skipping line at (VariableSays sigil line)) (λ name. Then (Skipping line name.1 (IriSays line)) (λ type.
    Closes line type.1 (Is (declare key (typed_slot sigil name.0 type.0))))) answer

-- the slot of a value variable: `value $n` and `folded $n`
abbrev pub slot_of_value : Bool → List ℕ → KeySlot
slot_of_value folded name = if folded then Folded name else Value name

-- its declaration, from the place after the first word
abbrev pub ValueSays : Bool → OpenShape → List ℕ → ℕ → Result OpenShape KeyFault → Type 0
ValueSays folded key line at answer =
    Then (Skipping line at (VariableSays 0x24 line)) (λ name.
    Closes line name.1 (Is (declare key (slot_of_value folded name.0)))) answer

-- a place among the variables, and the place after the word
abbrev pub found : Option ℕ → ℕ → Result (ℕ × ℕ) KeyFault
found (Some place) end = Ok (place, end)
found None end = Err VariableNotDeclared

-- the declared variable that a word is, by its place among the variables: a sigil and a name
abbrev pub declared_of : List KeySlot → List ℕ → ℕ → Result (ℕ × ℕ) KeyFault
declared_of variables [] end = Err BadName
declared_of variables (sigil ∷ name) end = if is_name name then found (position (is_named_so sigil name) variables) end else Err BadName

-- a declared variable stands here
abbrev pub DeclaredSays : OpenShape → List ℕ → ℕ → Result (ℕ × ℕ) KeyFault → Type 0
DeclaredSays key line at answer = WithWord line at (λ word end. Is (declared_of key.variables word end)) answer

-- `?` and `_`, with which the subject of a triple begins
abbrev pub begins_key_subject : ℕ → Bool
begins_key_subject b = b == 0x3F || b == 0x5F

-- the subject of a triple: an entity variable or a wildcard
abbrev pub KeySubjectSays : OpenShape → List ℕ → ℕ → Result (ℕ × ℕ) KeyFault → Type 0
KeySubjectSays key line at answer =
    Where (begins_key_subject (slice_index line at)) (DeclaredSays key line at) (Is (Err SubjectMustBeAnEntityVariableOrWildcard)) answer

-- the sigils
abbrev pub is_sigil : ℕ → Bool
is_sigil b = b == 0x3F || b == 0x5F || b == 0x24

-- an object, and the place after it
abbrev pub declared_object : ℕ × ℕ → Result (Object × ℕ) KeyFault
declared_object read = Ok (Declared read.0, read.1)

abbrev pub given_object : Term × ℕ → Result (Object × ℕ) KeyFault
given_object read = Ok (Given read.0, read.1)

-- an object that is a declared variable
abbrev pub DeclaredObjectSays : OpenShape → List ℕ → ℕ → Result (Object × ℕ) KeyFault → Type 0
DeclaredObjectSays key line at answer = Then (DeclaredSays key line at) (λ read. Is (declared_object read)) answer

-- an object that is an IRI or a literal
abbrev pub GivenObjectSays : List ℕ → ℕ → Result (Object × ℕ) KeyFault → Type 0
GivenObjectSays line at answer = Then (ConstantSays line at) (λ read. Is (given_object read)) answer

-- the object of a triple
abbrev pub ObjectSays : OpenShape → List ℕ → ℕ → Result (Object × ℕ) KeyFault → Type 0
ObjectSays key line at answer = Where (is_sigil (slice_index line at)) (DeclaredObjectSays key line at) (GivenObjectSays line at) answer

-- `S <p> O`
abbrev pub TripleSays : OpenShape → List ℕ → ℕ → Result OpenShape KeyFault → Type 0
TripleSays key line at answer =
    Then (KeySubjectSays key line at) (λ from. Then (Skipping line from.1 (IriSays line)) (λ pred. Then (Skipping line pred.1 (ObjectSays key line)) (λ to.
    Closes line to.1 (Is (link key from.0 pred.0 to.0))))) answer

-- the file with the open key changed
abbrev pub reopened : List KeyShape → OpenShape → Result KeyState KeyFault
reopened keys key = Ok (record { keys = keys; current = Some key })

-- a statement that changes the open key
abbrev pub Changes : List KeyShape → (Result OpenShape KeyFault → Type 0) → Result KeyState KeyFault → Type 0
Changes keys Says answer = Then Says (λ key. Is (reopened keys key)) answer

-- the file with the open key ended
abbrev pub closed : List KeyShape → KeyShape → Result KeyState KeyFault
closed keys key = Ok (record { keys = keys ++ key ∷ []; current = None })

-- `end`, from the place after it
abbrev pub KeyEndSays : List KeyShape → OpenShape → List ℕ → ℕ → Result KeyState KeyFault → Type 0
KeyEndSays keys key line at answer = Then (Closes line at (Is (finish key))) (λ whole. Is (closed keys whole)) answer

-- how many keys a file may have
abbrev pub most_keys : ℕ
most_keys = 64

-- a statement by its first word, from the place after it, outside a key: `key` alone may stand there, at most the 64th
abbrev pub OutsideSays : List KeyShape → Keyword → List ℕ → ℕ → Result KeyState KeyFault → Type 0
OutsideSays keys word.Key line at answer = Where (nat_lt (length keys) most_keys) (KeySays keys line at) (Is (Err TooManyKeys)) answer
OutsideSays keys word.Entity line at answer = Is (Err StatementOutOfPlace) answer
OutsideSays keys word.Any line at answer = Is (Err StatementOutOfPlace) answer
OutsideSays keys word.Value line at answer = Is (Err StatementOutOfPlace) answer
OutsideSays keys word.Folded line at answer = Is (Err StatementOutOfPlace) answer
OutsideSays keys word.End line at answer = Is (Err StatementOutOfPlace) answer

-- and inside a key, where `key` may not stand
abbrev pub InsideSays : List KeyShape → OpenShape → Keyword → List ℕ → ℕ → Result KeyState KeyFault → Type 0
InsideSays keys key word.Key line at answer = Is (Err StatementOutOfPlace) answer
InsideSays keys key word.Entity line at answer = Changes keys (TypedSays 0x3F key line at) answer
InsideSays keys key word.Any line at answer = Changes keys (TypedSays 0x5F key line at) answer
InsideSays keys key word.Value line at answer = Changes keys (ValueSays false key line at) answer
InsideSays keys key word.Folded line at answer = Changes keys (ValueSays true key line at) answer
InsideSays keys key word.End line at answer = KeyEndSays keys key line at answer

-- a statement by its first word where it stands
abbrev pub PlacedSays : List KeyShape → Option OpenShape → Keyword → List ℕ → ℕ → Result KeyState KeyFault → Type 0
PlacedSays keys None word line at answer = OutsideSays keys word line at answer
PlacedSays keys (Some key) word line at answer = InsideSays keys key word line at answer

-- a statement by its first word, if it is one
abbrev pub WordSays : KeyState → Option Keyword → List ℕ → ℕ → Result KeyState KeyFault → Type 0
WordSays state None line at answer = Is (Err UnknownStatement) answer
WordSays state (Some word) line at answer = PlacedSays state.keys state.current word line at answer

-- a triple where it stands: it must be inside a key
abbrev pub LinkSays : List KeyShape → Option OpenShape → List ℕ → ℕ → Result KeyState KeyFault → Type 0
LinkSays keys None line at answer = Is (Err StatementOutOfPlace) answer
LinkSays keys (Some key) line at answer = Changes keys (TripleSays key line at) answer

-- ? _ $ < and ", with which triples begin, be they good or not
abbrev pub begins_triple : ℕ → Bool
begins_triple b = is_sigil b || b == 0x3C || b == 0x22

-- the statement at the place: a triple by its first character, else by its first word
abbrev pub StatementSays : KeyState → List ℕ → ℕ → Result KeyState KeyFault → Type 0
StatementSays state line at answer =
    Where (begins_triple (slice_index line at))
    (LinkSays state.keys state.current line at)
    (WithWord line at (λ text end. WordSays state (keyword_of text) line end)) answer

-- what the line says; that it is not UTF-8 comes before all other faults, in a comment too
pub data KeyLineSays (state : KeyState) (line : List ℕ) : Result KeyState KeyFault → Type 0 where
  no_text : ¬ (IsUtf8 line) → KeyLineSays state line (Err NotUtf8)
  text : {answer : Result KeyState KeyFault} → IsUtf8 line
      → Skipping line 0 (λ at. Where (is_over line at) (Is (Ok state)) (StatementSays state line at)) answer → KeyLineSays state line answer
