-- What a call answers, against a relation that says which answer is to be given: a value or a fault. Want of memory may come
-- at any time. This project's own words.
use Rattle.std.specs.Prelude.{◌≡◌, Result, Ok, Err}
use Rattle.gk_base.specs.declared.lex_fault.LexFault.{LexFault}
use Rattle.gk_base.specs.declared.read_fault.ReadRefusal.{ReadRefusal}
use Rattle.gk_base.specs.declared.stop.Stop.{Stop}
use Rattle.gk_base.specs.declared.stop.Stop.TheVariants.{NoMemory, Fault}

-- why a term or a line was not read
abbrev pub LexStop : Type 0
LexStop = Stop LexFault

-- why a graph file was not read
abbrev pub ReadStop : Type 0
ReadStop = Stop ReadRefusal

-- what was answered is to be answered
abbrev pub IsSo : {A F : Type 0} → (Result A F → Type 0) → Result A (Stop F) → Type 0
IsSo Says (Ok x) = Says (Ok x)
IsSo Says (Err NoMemory) = Unit {0}
IsSo Says (Err (Fault fault)) = Says (Err fault)

-- this is what was answered
abbrev pub Gives : {A F : Type 0} → Result A (Stop F) → Result A F → Type 0
Gives (Ok x) answer = Ok x ≡ answer
Gives (Err NoMemory) answer = Unit {0}
Gives (Err (Fault fault)) answer = Err fault ≡ answer

-- at most one answer is to be given
abbrev pub HasOne : {A F : Type 0} → (Result A F → Type 0) → Type 0
HasOne {A} {F} Says = (a b : Result A F) → Says a → Says b → a ≡ b
