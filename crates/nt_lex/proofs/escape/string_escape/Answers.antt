use Rattle.std.proofs.Common.{◌≡◌, ℕ, ◌+◌, ◌<◌, Bool, true, false, cond, List, length, drop, get_or, get_or-drop, Option, Some, None, IfSome, IfNone, unwrap_or, refl, sym, ap, subst, ◌∙◌, inl, inr}
use Rattle.std.proofs.lemmas.Bool.{cases_lt}
use Rattle.std.proofs.lemmas.List.{get_or_past}
use Rattle.nt_lex.specs.Chars.{is_string_excluded, is_escape_letter}
use Rattle.nt_lex.specs.Written.{in_string, is_uchar, meant_by_letter, Stops, EscapeAt}
use Rattle.nt_lex.proofs.WrittenLemmas.{true_false}
use Rattle.nt_lex.proofs.RunningLemmas.{escape_allowed, letter_at, stops_escape}
use Rattle.nt_lex.proofs.CharLemmas.{high_string}
use Rattle.nt_lex.proofs.escape.string_escape.Goals as goal

some_chosen : (b : Bool) (x y : ℕ) → Some y ≡ cond b (Some x) None → (b ≡ true) × (y ≡ x)
some_chosen true x y e = (refl, ap (λ o. unwrap_or o 0) e)
some_chosen false x y e = absurd (cc)

none_chosen : (b : Bool) (x : ℕ) → None ≡ cond b (Some x) None → b ≡ false
none_chosen true x e = absurd (cc)
none_chosen false x e = refl

known : (line : List ℕ) (at : ℕ) → is_escape_letter (get_or line at 0) ≡ true → at < length line
known line at e = elim (cases_lt at (length line)) [
  | inl inside ↦ inside
  | inr past ↦ absurd (true_false (sym e ∙ ap is_escape_letter (get_or_past line at 0 past)))
]

module _ (line : List ℕ) (at : ℕ) (inside : at < length line) (slash : get_or line at 0 ≡ 0x5C) where
  uchar_found : (o : Option (ℕ × ℕ)) → IfSome o (λ r. EscapeAt is_uchar line at r.0 r.1) → IfSome o (λ r. EscapeAt in_string line at r.0 r.1)
  uchar_found None h = tt
  uchar_found (Some r) h = escape_allowed is_string_excluded is_escape_letter refl refl refl high_string line at r.0 r.1 h

  none_found : (o : Option (ℕ × ℕ)) → is_escape_letter (get_or line (at + 1) 0) ≡ false → IfNone o (Stops is_uchar (drop at line)) → IfNone o (Stops in_string (drop at line))
  none_found (Some r) isnt h = tt
  none_found None isnt h = stops_escape is_string_excluded is_escape_letter refl refl refl high_string line at inside slash h
      (λ l more m e. true_false (sym m ∙ ap is_escape_letter (sym (sym (get_or-drop at line 1 0) ∙ ap (λ b. get_or b 1 0) e)) ∙ isnt))

pub returns-in-Some-clause-found : goal.returns-in-Some-clause-found
returns-in-Some-clause-found c =
    let line = c.args.line.now in
    let at = c.args.at in
    let p = some_chosen (is_escape_letter c.byte_at.result) (meant_by_letter c.byte_at.result) c.in-Some.c c.in-Some.ensures in
    let m : is_escape_letter (get_or line (at + 1) 0) ≡ true = ap is_escape_letter (sym c.byte_at.ensures) ∙ p.0 in
    subst (λ v. EscapeAt in_string line at v (at + 2)) (ap meant_by_letter (sym c.byte_at.ensures) ∙ sym p.1)
    (letter_at is_string_excluded is_escape_letter refl refl refl high_string line at (known line (at + 1) m) c.requires.back m)

pub returns-in-None-clause-found : goal.returns-in-None-clause-found
returns-in-None-clause-found c = uchar_found c.args.line.now c.args.at c.requires.inside c.requires.back _ c.uchar.ensures.found

pub returns-in-None-clause-none : goal.returns-in-None-clause-none
returns-in-None-clause-none c =
    let isnt = none_chosen (is_escape_letter c.byte_at.result) (meant_by_letter c.byte_at.result) c.in-None.ensures in
    none_found c.args.line.now c.args.at c.requires.inside c.requires.back _ (ap is_escape_letter (sym c.byte_at.ensures) ∙ isnt) c.uchar.ensures.none
