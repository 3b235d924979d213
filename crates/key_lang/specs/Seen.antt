-- What is kept while the lines of a key file are judged, and what it stands for: this project's own words.
use Rattle.std.specs.Prelude.{◌≡◌, ℕ, ◌+◌, ◌-◌, ◌≤◌, ◌&&◌, ◌==◌, if◌then◌else◌, List, drop, length, Result, Ok, Err}
use Rattle.nt_reader.specs.Lines.{cut_of, lines}
use Rattle.key_lang.specs.declared.fault.KeyRefusal.{KeyRefusal}
use Rattle.key_lang.specs.declared.file.Seen.{Seen}
use Rattle.key_lang.specs.OpenKey.{KeyState}
use Rattle.key_lang.specs.Statements.{KeyLineSays}
use Rattle.key_lang.specs.KeyText.{LinesSay, start}
use Rattle.key_lang.specs.Fair.{IsFairState}

-- what the line says that has this number
abbrev pub NumberedSays : KeyState → List ℕ → ℕ → Result KeyState KeyRefusal → Type 0
NumberedSays state line number (Ok next) = KeyLineSays state line (Ok next)
NumberedSays state line number (Err refusal) = (refusal.line ≡ number) × KeyLineSays state line (Err refusal.fault)

-- the lines that end in a front of the file were judged good: the state after them, the number of the next one, and how far
-- they go
pub record HasSeen (front : List ℕ) (seen : Seen) : Type 0 where
  pub within : seen.from ≤ length front
  pub rest : (cut_of front).rest ≡ drop seen.from front
  pub returned : (cut_of front).returned ≡ seen.after_return
  pub says : LinesSay start 1 (cut_of front).ended (Ok seen.state)
  pub number : seen.number ≡ length (cut_of front).ended + 1
  pub small : seen.number ≤ seen.from + 1
  pub fair : IsFairState seen.state

-- what is to be answered to the lines that end in a front: what is kept of them, or their refusal
abbrev pub SeesLines : List ℕ → Result Seen KeyRefusal → Type 0
SeesLines front (Ok seen) = HasSeen front seen
SeesLines front (Err refusal) = LinesSay start 1 (cut_of front).ended (Err refusal)

-- all lines of a file were judged good: the state after them, and how many they are
pub record HasSeenAll (bytes : List ℕ) (seen : Seen) : Type 0 where
  pub says : LinesSay start 1 (lines bytes) (Ok seen.state)
  pub number : seen.number ≡ length (lines bytes) + 1

-- what is to be answered to all lines: what is kept of them, or their refusal
abbrev pub SeesAll : List ℕ → Result Seen KeyRefusal → Type 0
SeesAll bytes (Ok seen) = HasSeenAll bytes seen
SeesAll bytes (Err refusal) = LinesSay start 1 (lines bytes) (Err refusal)

-- the line to which the byte after these lines belongs
abbrev pub next_line : Seen → ℕ → ℕ
next_line seen byte = if seen.after_return && byte == 0x0A then seen.number - 1 else seen.number
