-- How answers are put together: each part of a line, and each line of a file, has a value or a fault. A relation says which
-- answer is to be given. This project's own words.
use Rattle.std.specs.Prelude.{◌≡◌, Bool, true, false, Result, Ok, Err}
use Rattle.gk_base.specs.declared.lex_fault.LexFault.{LexFault}
use Rattle.gk_base.specs.declared.stop.Stop.{Stop}
use Rattle.key_lang.specs.declared.fault.KeyFault.{KeyFault}
use Rattle.key_lang.specs.declared.fault.KeyRefusal.{KeyRefusal}
use Rattle.key_lang.specs.Faults.{fault_of_term}

-- this very answer
abbrev pub Is : {A F : Type 0} → Result A F → Result A F → Type 0
Is computed answer = answer ≡ computed

-- first the one and then the other, which depends on the first one's value: where the first has a fault, it is the fault
pub data Then {A B F : Type 0} (First : Result A F → Type 0) (After : A → Result B F → Type 0) : Result B F → Type 0 where
  stops : {fault : F} → First (Err fault) → Then First After (Err fault)
  goes_on : {x : A} {answer : Result B F} → First (Ok x) → After x answer → Then First After answer

-- the one where the test holds, and the other where it fails
pub data Where {A F : Type 0} (test : Bool) (Yes No : Result A F → Type 0) (answer : Result A F) : Type 0 where
  yes : test ≡ true → Yes answer → Where test Yes No answer
  no : test ≡ false → No answer → Where test Yes No answer

-- a term or a fault of N-Triples, in a key file
pub data Lexed {A : Type 0} (Says : Result A LexFault → Type 0) : Result A KeyFault → Type 0 where
  reads : {x : A} → Says (Ok x) → Lexed Says (Ok x)
  fails : {fault : LexFault} → Says (Err fault) → Lexed Says (Err (fault_of_term fault))

-- why a key file was not read
abbrev pub KeyStop : Type 0
KeyStop = Stop KeyRefusal

-- why a line, or a part of it, was not read
abbrev pub LineStop : Type 0
LineStop = Stop KeyFault
