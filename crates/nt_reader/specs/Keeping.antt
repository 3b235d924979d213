-- What a reader's state keeps to, and what a call on it leaves: this project's own words.
use Rattle.std.specs.Prelude.{ℕ, ◌+◌, ◌<◌, ◌≤◌, ◌^◌, Bool, IsTrue, List, ◌++◌, Result, Ok, Err}
use Rattle.gk_base.specs.declared.term.Triple.{Triple}
use Rattle.gk_base.specs.declared.limits.Limits.{Limits}
use Rattle.gk_base.specs.declared.read_fault.ReadRefusal.{ReadRefusal}
use Rattle.gk_base.specs.Answers.{ReadStop, IsSo}
use Rattle.nt_reader.specs.declared.state.State.{State}
use Rattle.nt_reader.specs.File.{Refuses}
use Rattle.nt_reader.specs.Reading.{front_of}
use Rattle.nt_reader.specs.Kept.{IsFrontOf}

-- what a running reader has kept is within its limits, and its numbers can count one byte more
pub record KeepsWithin (limits : Limits) (running : Bool) (state : State) : Type 0 where
  pub small : limits.bytes + 1 < 2 ^ 64
  pub room : IsTrue running → state.bytes ≤ limits.bytes
  pub few : IsTrue running → state.line ≤ state.bytes + 1

-- what is to be answered to these bytes, where these triples were taken: the state is what is kept of them, or they are refused
abbrev pub Leaves : {A : Type 0} → Limits → State → List Triple → List ℕ → Result A ReadRefusal → Type 0
Leaves limits state taken bytes (Ok x) = IsFrontOf limits (front_of state) taken bytes
Leaves limits state taken bytes (Err refusal) = Refuses limits bytes refusal

-- a call on the state that has seen some bytes, after which it has seen one piece more
abbrev pub Takes : {A : Type 0} → Limits → State → State → List ℕ → Result A ReadStop → Type 0
Takes limits old new piece answer =
    (taken : List Triple) (seen : List ℕ) → IsFrontOf limits (front_of old) taken seen → IsSo (Leaves limits new taken (seen ++ piece)) answer
