-- What the judgement of one line comes to, as the private functions answer it: this project's own words.
use Rattle.std.specs.Prelude.{◌≡◌, ℕ, ◌≤◌, List, [], ◌∷◌, ◌++◌, length, Option, Result, Ok, Err}
use Rattle.gk_base.specs.declared.term.Triple.{Triple}
use Rattle.gk_base.specs.declared.read_fault.ReadRefusal.{ReadRefusal}
use Rattle.nt_reader.specs.Line.{LineSays}
use Rattle.nt_reader.specs.File.{triples_of, RefusesLine}

-- a line was judged good: what it adds
pub record AddsLine (most : ℕ) (old new : List Triple) (line : List ℕ) : Type 0 where
  pub answer : Option Triple
  pub says : LineSays line (Ok answer)
  pub grown : new ≡ old ++ triples_of (answer ∷ [])
  pub few : length old ≤ most → length new ≤ most

-- a line was refused with its number
pub record IsRefusedWith (most : ℕ) (old : List Triple) (line : List ℕ) (number : ℕ) (refusal : ReadRefusal) : Type 0 where
  pub number_is : refusal.line ≡ number
  pub refused : RefusesLine most old line refusal.fault

-- what is to be answered to a line with this number, where the triples were the old ones and are the new ones
abbrev pub Judges : {A : Type 0} → ℕ → List Triple → List Triple → List ℕ → ℕ → Result A ReadRefusal → Type 0
Judges most old new line number (Ok x) = AddsLine most old new line
Judges most old new line number (Err refusal) = IsRefusedWith most old line number refusal
