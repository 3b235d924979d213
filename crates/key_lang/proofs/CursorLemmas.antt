-- Tokens of a line whose text from a place on is known.
use Rattle.std.proofs.Common.{◌≡◌, ℕ, ◌+◌, ◌-◌, ◌<◌, Bool, true, false, eqb, List, [], ◌∷◌, ◌++◌, length, take, drop, get_or, slice_range, Result, Ok, refl, sym, ap, ◌∙◌, subst, arith, length-append}
use Rattle.std.proofs.lemmas.Bool.{and_parts, and_from, or_left, eq-eqb, not-true, true≢false}
use Rattle.std.proofs.lemmas.Bool.Decides.{nat_tests}
use Rattle.std.proofs.lemmas.List.{get_or-drop, get_or_append_left, drop_at, take_at, drop-drop}
use Rattle.std.proofs.lemmas.List.Sums.{AllPass-from_list_all}
use Rattle.std.specs.List.{list_all}
use Rattle.gk_base.specs.declared.term.Term.{Term}
use Rattle.nt_lex.specs.Chars.{is_blank}
use Rattle.nt_lex.specs.Scans.{IsRunAt, NextFails}
use Rattle.nt_lex.specs.Spelling.{Spells}
use Rattle.nt_lex.specs.Reading.{Says, TermStops}
use Rattle.key_lang.specs.declared.fault.KeyFault.{KeyFault}
use Rattle.key_lang.specs.Answers.{yes, reads}
use Rattle.key_file.specs.Name.{is_name_byte, is_name}
use Rattle.key_lang.specs.Tokens.{Skipping, is_word_byte, WithWord, Closes, TokenSays}

-- the line has this text from this place on
pub record At (line : List ℕ) (at : ℕ) (rest : List ℕ) : Type 0 where
  pub here : drop at line ≡ rest
  pub inside : at + length rest ≡ length line

pub at_first : (line : List ℕ) → At line 0 line
at_first line = record { here = refl; inside = omega arith }

pub at_byte : (line : List ℕ) (at b : ℕ) (rest : List ℕ) → At line at (b ∷ rest) → get_or line at 0 ≡ b
at_byte line at b rest a = ap (λ n. get_or line n 0) (omega arith) ∙ sym (get_or-drop at line 0 0) ∙ ap (λ (l : List ℕ). get_or l 0 0) a.here

pub at_more : (line : List ℕ) (at : ℕ) (w rest : List ℕ) → At line at (w ++ rest) → At line (at + length w) rest
at_more line at w rest a = record {
  here = sym (drop-drop (length w) at line) ∙ ap (drop (length w)) a.here ∙ drop_at w rest (length w) refl;
  inside = omega (arith, a.inside, length-append w rest);
}

pub run_here : (p : ℕ → Bool) (line : List ℕ) (at : ℕ) (w rest : List ℕ) → At line at (w ++ rest) → list_all p w ≡ true → NextFails p rest → IsRunAt p line (at) (at + length w)
run_here p line at w rest a all next = record {
  ordered = omega arith;
  in_range = omega (arith, a.inside, length-append w rest);
  pass = λ k from below.
      let place : at + (k - at) ≡ k = omega (arith, from) in
      let inside : k - at < length w = omega (arith, from, below) in
      ap p (ap (λ n. get_or line n 0) (sym place) ∙ sym (get_or-drop at line (k - at) 0) ∙ ap (λ (l : List ℕ). get_or l (k - at) 0) a.here ∙ get_or_append_left w rest 0 (k - at) inside)
      ∙ AllPass-from_list_all p w all (k - at) 0 inside;
  stops = λ more. ends rest next (at_more line at w rest a) more;
}
  where
    ends : (rest : List ℕ) → NextFails p rest → At line (at + length w) rest → at + length w < length line → p (get_or line (at + length w) 0) ≡ false
    ends [] next b more = absurd (omega (arith, b.inside, more))
    ends (c ∷ rest) next b more = ap p (at_byte line (at + length w) c rest b) ∙ next

-- one space, and then something else
pub says_skip : {A : Type 0} (line : List ℕ) (at b : ℕ) (rest : List ℕ) (Says : ℕ → Result A KeyFault → Type 0) (answer : Result A KeyFault)
    → At line at (0x20 ∷ b ∷ rest) → is_blank b ≡ false → Says (at + 1) answer → Skipping line at Says answer
says_skip line at b rest Says answer a other says = record { next = at + 1; skips = run_here is_blank line at (0x20 ∷ []) (b ∷ rest) a refl other; says = says }

-- a word
pub says_word : {A : Type 0} (line : List ℕ) (at : ℕ) (w rest : List ℕ) (Says : List ℕ → ℕ → Result A KeyFault → Type 0) (answer : Result A KeyFault)
    → At line at (w ++ rest) → list_all is_word_byte w ≡ true → NextFails is_word_byte rest → Says w (at + length w) answer → WithWord line at Says answer
says_word line at w rest Says answer a all next says =
    let end = at + length w in
    let word : slice_range line at end ≡ w = ap (λ n. take n (drop at line)) (omega arith) ∙ ap (take (length w)) a.here ∙ take_at w rest (length w) refl in
    record { end = end; run = run_here is_word_byte line at w rest a all next; says = subst (λ (v : List ℕ). Says v end answer) (sym word) says }

-- the end of the line
pub says_close : {A : Type 0} (line : List ℕ) (at : ℕ) (Says : Result A KeyFault → Type 0) (answer : Result A KeyFault) → At line at [] → Says answer → Closes line at Says answer
says_close line at Says answer a says = record {
  next = at;
  skips = subst (IsRunAt is_blank line at) (omega arith) (run_here is_blank line at [] [] a refl tt);
  says = yes (or_left (eqb at (length line)) (eqb (get_or line at 0) 0x23) (eq-eqb at (length line) (omega (arith, a.inside)))) says;
}

-- a term with its canonical spelling
pub says_term : (begins : ℕ → Bool) (expected : KeyFault) (line : List ℕ) (at b : ℕ) (piece more rest : List ℕ) (t : Term) (s : Spells piece t) → TermStops s rest
    → piece ≡ b ∷ more → begins b ≡ true → At line at (piece ++ rest) → TokenSays begins expected line at (Ok (t, at + length piece))
says_term begins expected line at b piece more rest t s stops first begin a =
    let whole : At line at (b ∷ (more ++ rest)) = subst (λ (l : List ℕ). At line at (l ++ rest)) first a in
    yes (ap begins (at_byte line at b (more ++ rest) whole) ∙ begin)
    (reads (record { piece = piece; rest = rest; spells = s; stops = stops; here = a.here; ends = refl }))

name_word : (b : ℕ) → is_name_byte b ≡ true → is_word_byte b ≡ true
name_word b h = grind (arith, nat_tests)

-- the bytes of a name are those of a word
pub name_bytes : (name : List ℕ) → list_all is_name_byte name ≡ true → list_all is_word_byte name ≡ true
name_bytes [] a = refl
name_bytes (b ∷ name) a = let parts = and_parts _ _ a in and_from _ _ (name_word b parts.0) (name_bytes name parts.1)

pub name_all : (name : List ℕ) → is_name name ≡ true → list_all is_word_byte name ≡ true
name_all name n = name_bytes name (and_parts _ _ n).1

-- a name is not empty, and does not begin with a blank
pub name_first : (name : List ℕ) → is_name name ≡ true → (b : ℕ) × (more : List ℕ) × (name ≡ b ∷ more) × (is_blank b ≡ false)
name_first [] n = absurd (true≢false (sym n))
name_first (b ∷ more) n = (b, more, refl, blank_not b (and_parts _ _ (name_all (b ∷ more) n)).0)
  where
    blank_not : (b : ℕ) → is_word_byte b ≡ true → is_blank b ≡ false
    blank_not b h = not-true _ h
