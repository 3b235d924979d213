-- What holds of each value that is answered.
use Rattle.std.proofs.Common.{◌≡◌, ℕ, ◌<◌, Bool, true, false, cond, List, length, slice_range, Result, Ok, Err, refl, sym, subst}
use Rattle.gk_base.specs.declared.term.Term.{Term}
use Rattle.nt_lex.specs.Scans.{IsRunAt}
use Rattle.key_file.specs.declared.slot.KeySlot.{KeySlot}
use Rattle.key_lang.specs.declared.fault.KeyFault.{KeyFault}
use Rattle.key_lang.specs.declared.open_key.End.TheVariants.{Constant}
use Rattle.key_lang.specs.Answers.{Is, Then, stops, goes_on, Where, yes, no}
use Rattle.key_lang.specs.Tokens.{Skipping, is_word_byte, WithWord, is_over, Closes}
use Rattle.key_lang.specs.OpenKey.{OpenShape, add, link_constant}

-- the value is so, where there is one
abbrev pub Good : {A F : Type 0} → (A → Type 0) → Result A F → Type 0
Good P (Ok x) = P x
Good P (Err fault) = Unit {0}

-- each value that may be answered is so
abbrev pub Keeps : {A F : Type 0} → (A → Type 0) → (Result A F → Type 0) → Type 0
Keeps {A} {F} P Says = (answer : Result A F) → Says answer → Good P answer

pub good_if : {A F : Type 0} (P : A → Type 0) (b : Bool) (x y : Result A F) → (b ≡ true → Good P x) → (b ≡ false → Good P y) → Good P (cond b x y)
good_if P true x y s t = s refl
good_if P false x y s t = t refl

pub keeps_is : {A F : Type 0} (P : A → Type 0) (computed : Result A F) → Good P computed → Keeps P (Is computed)
keeps_is P computed g answer e = subst (Good P) (sym e) g

pub keeps_then : {A B F : Type 0} (P : B → Type 0) (First : Result A F → Type 0) (After : A → Result B F → Type 0)
    → ((x : A) → First (Ok x) → Keeps P (After x)) → Keeps P (Then First After)
keeps_then P First After h answer (stops x) = tt
keeps_then P First After h answer (goes_on {x = v} y z) = h v y answer z

pub keeps_where : {A F : Type 0} (P : A → Type 0) (test : Bool) (Yes No : Result A F → Type 0) → (test ≡ true → Keeps P Yes) → (test ≡ false → Keeps P No)
    → Keeps P (Where test Yes No)
keeps_where P test Yes No h k answer (yes t x) = h t answer x
keeps_where P test Yes No h k answer (no t x) = k t answer x

pub keeps_skip : {A : Type 0} (P : A → Type 0) (line : List ℕ) (at : ℕ) (Says : ℕ → Result A KeyFault → Type 0) → ((n : ℕ) → Keeps P (Says n)) → Keeps P (Skipping line at Says)
keeps_skip P line at Says h answer s = h s.next answer s.says

pub keeps_word : {A : Type 0} (P : A → Type 0) (line : List ℕ) (at : ℕ) (Says : List ℕ → ℕ → Result A KeyFault → Type 0)
    → ((n : ℕ) → IsRunAt is_word_byte line at n → Keeps P (Says (slice_range line at n) n)) → Keeps P (WithWord line at Says)
keeps_word P line at Says h answer s = h s.end s.run answer s.says

pub keeps_close : {A : Type 0} (P : A → Type 0) (line : List ℕ) (at : ℕ) (Says : Result A KeyFault → Type 0) → Keeps P Says → Keeps P (Closes line at Says)
keeps_close P line at Says h = keeps_skip P line at _ (λ n. keeps_where P (is_over line n) Says _ (λ _. h) (λ _. keeps_is P _ tt))

-- what leads to a placed constant
pub good_link_constant : (r : Result (OpenShape × ℕ) KeyFault) (from : ℕ) (pred : Term) (P : OpenShape → Type 0) {Q : OpenShape → Type 0} {variables : List KeySlot}
    → Good (λ p. Q p.0 × (p.1 < length p.0.constants) × (p.0.variables ≡ variables)) r
    → ((k : OpenShape) (place : ℕ) → Q k → place < length k.constants → k.variables ≡ variables → Good P (add k (record { from = from; pred = pred; to = Constant place })))
    → Good P (link_constant from pred r)
good_link_constant (Ok p) from pred P g h = h p.0 p.1 g.0 g.1 g.2
good_link_constant (Err f) from pred P g h = tt
