-- What clauses see of a reader of a file: its limits, and what is kept of the pieces that it was fed, or why it has stopped.
-- This project's own words.
use Rattle.std.specs.Prelude.{ℕ, Bool, List, cond, Result, Ok, Err}
use Rattle.gk_base.specs.declared.term.Triple.{Triple}
use Rattle.gk_base.specs.declared.limits.Limits.{Limits}
use Rattle.gk_base.specs.Answers.{ReadStop}
use Rattle.nt_reader.specs.declared.state.State.{State}

-- what is kept of the bytes that were fed, none of which is refused
pub record Front : Type 0 where
  -- how many bytes were fed
  pub bytes : ℕ
  -- the number of the line that comes next or has begun, from 1
  pub line : ℕ
  -- what has come of that line
  pub rest : List ℕ
  -- whether a carriage return came last
  pub returned : Bool
  -- of the lines that have ended, less those that were taken
  pub triples : List Triple
  -- how many triples there may be beside those that were taken
  pub room : ℕ

-- a file that is being read
pub record Reading : Type 0 where
  pub limits : Limits
  -- what was fed, or why the reader has stopped
  pub so_far : Result Front ReadStop

-- a state as clauses see it
abbrev pub front_of : State → Front
front_of state = record { bytes = state.bytes; line = state.line; rest = state.kept.items; returned = state.after_return; triples = state.triples; room = state.room }

-- a running reader has a state, and another one has stopped
abbrev pub so_far_of : Bool → State → ReadStop → Result Front ReadStop
so_far_of running state stop = cond running (Ok (front_of state)) (Err stop)
