-- What the private functions answer: this project's own words.
use Rattle.std.specs.Prelude.{◌≡◌, ℕ, Bool, List, Some, Result, Ok, Err}
use Rattle.gk_base.specs.declared.term.Term.{Term}
use Rattle.gk_base.specs.Answers.{LexStop}
use Rattle.gk_base.specs.declared.stop.Stop.TheVariants as lex
use Rattle.nt_lex.specs.Chars.{is_blank}
use Rattle.nt_lex.specs.Scans.{IsRunAt}
use Rattle.key_lang.specs.Faults.{fault_of_term}
use Rattle.key_lang.specs.Answers.{LineStop}
use Rattle.gk_base.specs.declared.stop.Stop.TheVariants.{NoMemory, Fault}
use Rattle.key_file.specs.KeyShape.{KeyShape}
use Rattle.key_lang.specs.OpenKey.{OpenShape, KeyState}
use Rattle.key_lang.specs.Tokens.{is_over}

-- whether nothing but a comment comes after tabs and spaces
pub record ClosesHere (line : List ℕ) (at : ℕ) (answer : Bool) : Type 0 where
  pub next : ℕ
  pub skips : IsRunAt is_blank line at next
  pub is : answer ≡ is_over line next

-- what a reader of N-Triples answers, in a key file
abbrev pub in_key_file : Result (Term × ℕ) LexStop → Result (Term × ℕ) LineStop
in_key_file (Ok read) = Ok read
in_key_file (Err lex.NoMemory) = Err NoMemory
in_key_file (Err (lex.Fault fault)) = Err (Fault (fault_of_term fault))

-- the file with the open key as a statement changed it
abbrev pub reopened_by : List KeyShape → Result OpenShape LineStop → Result KeyState LineStop
reopened_by keys (Ok key) = Ok (record { keys = keys; current = Some key })
reopened_by keys (Err stop) = Err stop
