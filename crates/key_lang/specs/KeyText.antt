-- What a key file says: its keys, or the first refused line and why. The refusals, their order and the limits are this
-- project's own; lines are those of RDF 1.1 N-Triples, section 7 (EOL).
use Rattle.std.specs.Prelude.{ℕ, ◌+◌, nat_lt, List, [], ◌∷◌, length, take, slice_index, if◌then◌else◌, Option, Some, None, Result, Ok, Err}
use Rattle.nt_reader.specs.Lines.{lines}
use Rattle.nt_reader.specs.File.{judged, line_of_next}
use Rattle.key_file.specs.KeyShape.{KeyShape}
use Rattle.key_lang.specs.declared.fault.KeyFault.{KeyFault}
use Rattle.key_lang.specs.declared.fault.KeyFault.TheVariants.{FileEndsInsideAKey, FileTooLong}
use Rattle.key_lang.specs.declared.fault.KeyRefusal.{KeyRefusal}
use Rattle.key_lang.specs.Answers.{Is, Then}
use Rattle.key_lang.specs.OpenKey.{OpenShape, KeyState}
use Rattle.key_lang.specs.Statements.{KeyLineSays}

-- the lines from this number on, one after another: the first faulty one is refused with its number
pub data LinesSay : KeyState → ℕ → List (List ℕ) → Result KeyState KeyRefusal → Type 0 where
  none : {state : KeyState} {number : ℕ} → LinesSay state number [] (Ok state)
  faulty : {state : KeyState} {number : ℕ} {line : List ℕ} {more : List (List ℕ)} {fault : KeyFault} → KeyLineSays state line (Err fault)
      → LinesSay state number (line ∷ more) (Err (record { line = number; fault = fault }))
  good : {state : KeyState} {number : ℕ} {line : List ℕ} {more : List (List ℕ)} {next : KeyState} {answer : Result KeyState KeyRefusal} → KeyLineSays state line (Ok next)
      → LinesSay next (number + 1) more answer → LinesSay state number (line ∷ more) answer

-- before the first line
abbrev pub start : KeyState
start = record { keys = []; current = None }

-- at the end of the file: a file may end outside keys, and inside one its last line is refused
abbrev pub ended : List KeyShape → Option OpenShape → ℕ → Result (List KeyShape) KeyRefusal
ended keys None last = Ok keys
ended keys (Some key) last = Err (record { line = last; fault = FileEndsInsideAKey })

-- after the lines that are judged: the byte after the limit is refused, with the line to which it belongs
abbrev pub after_lines : ℕ → List ℕ → KeyState → Result (List KeyShape) KeyRefusal
after_lines limit bytes state =
    if nat_lt limit (length bytes) then Err (record { line = line_of_next (take limit bytes) (slice_index bytes limit); fault = FileTooLong })
    else ended state.keys state.current (length (lines bytes))

-- the keys of a file of at most so many bytes, or its refusal: the lines that end within the limit are judged first
abbrev pub KeysSay : ℕ → List ℕ → Result (List KeyShape) KeyRefusal → Type 0
KeysSay limit bytes answer = Then (LinesSay start 1 (judged limit bytes)) (λ state. Is (after_lines limit bytes state)) answer
