-- What a reader stands for, by what it was fed: this project's own words.
use Rattle.std.specs.Prelude.{◌≡◌, ℕ, ◌+◌, ◌≤◌, List, [], ◌++◌, length, Result, Ok, Err}
use Rattle.gk_base.specs.declared.term.Triple.{Triple}
use Rattle.gk_base.specs.declared.limits.Limits.{Limits}
use Rattle.gk_base.specs.declared.read_fault.ReadRefusal.{ReadRefusal}
use Rattle.gk_base.specs.Answers.{ReadStop, IsSo}
use Rattle.nt_reader.specs.Lines.{cut_of}
use Rattle.nt_reader.specs.File.{AreGood, FileSays, Refuses}
use Rattle.nt_reader.specs.Reading.{Front, Reading}

-- what is kept after these bytes, where nothing was refused and these triples were taken
pub record IsFrontOf (limits : Limits) (front : Front) (taken : List Triple) (bytes : List ℕ) : Type 0 where
  pub count : front.bytes ≡ length bytes
  pub within : length bytes ≤ limits.bytes
  pub rest : front.rest ≡ (cut_of bytes).rest
  pub line : front.line ≡ length (cut_of bytes).ended + 1
  pub returned : front.returned ≡ (cut_of bytes).returned
  pub good : AreGood (cut_of bytes).ended (taken ++ front.triples)
  pub room : length taken + front.room ≡ limits.triples
  pub few : length front.triples ≤ front.room

-- what these bytes have come to, where these triples were taken: what is kept of them, or their refusal
abbrev pub HasCome : Limits → List Triple → List ℕ → Result Front ReadRefusal → Type 0
HasCome limits taken bytes (Ok front) = IsFrontOf limits front taken bytes
HasCome limits taken bytes (Err refusal) = Refuses limits bytes refusal

-- these bytes were refused, or memory ran out
abbrev pub IsStopped : Limits → List ℕ → ReadStop → Type 0
IsStopped limits bytes stop = IsSo (HasCome limits [] bytes) (Err stop)

-- the reader was fed pieces that are these bytes in a row, and of their triples these were taken
abbrev pub HasRead : Reading → List Triple → List ℕ → Type 0
HasRead reading taken bytes = IsSo (HasCome reading.limits taken bytes) reading.so_far

-- what is to be answered at the end, where these triples were taken: the triples that are left of what the file of these
-- bytes says, or its refusal
abbrev pub FinishSays : Limits → List Triple → List ℕ → Result (List Triple) ReadRefusal → Type 0
FinishSays limits taken bytes (Ok triples) = FileSays limits bytes (Ok (taken ++ triples))
FinishSays limits taken bytes (Err refusal) = FileSays limits bytes (Err refusal)
