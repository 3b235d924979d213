-- Words that spell a number in decimal.
use Rattle.std.proofs.Common.{◌≡◌, ℕ, zero, suc, ◌<◌, ◌≤◌, ◌^◌, List, length, get_or, Some, None, Ok, Err, sym, subst, ap, ◌∙◌, arith}
use Rattle.std.specs.Fmt.{decimal}
use Rattle.std.specs.List.{slice_get}
use Rattle.std.specs.Str.{IsUtf8}
use Rattle.std.specs.Str.Parse.{AllDigits, digits_value, ParsesUnsigned}
use Rattle.std.proofs.lemmas.Fmt.{decimal_nonempty, first_decimal, IsAscii-decimal, parse-decimal, decimal-digits_value, decimal_digit}
use Rattle.std.proofs.lemmas.Option.{slice_get-get_or, get_or_from_slice_get}
use Rattle.std.proofs.lemmas.Str.{IsUtf8-from_ascii}
use Rattle.std.proofs.lemmas.Str.Parse.{IsNumeralModel, numerals_by_value, tells_digits, parse_plain}

own : IsNumeralModel (AllDigits 10) (digits_value 10)
own = numerals_by_value (AllDigits 10) tells_digits

-- an empty word spells none
pub none_by_nothing : (word : List ℕ) (n : ℕ) → n < 2 ^ 32 → slice_get word 0 ≡ None → word ≡ decimal n → ⊥
none_by_nothing word n small none e =
    let some : 0 < length word = subst (λ w. 0 < length w) (sym e) (decimal_nonempty n (omega arith)) in
    let read = slice_get-get_or word 0 0 some in
    cc

-- a word that begins with a sign or a zero spells none from 1 on
pub none_by_a_low_byte : (word : List ℕ) (n first : ℕ) → 1 ≤ n → n < 2 ^ 32 → slice_get word 0 ≡ Some first → first ≤ 48 → word ≡ decimal n → ⊥
none_by_a_low_byte word n first least small begins low e =
    let high : 48 < get_or word 0 0 = subst (λ w. 48 < get_or w 0 0) (sym e) (first_decimal n (omega arith) (omega arith)) in
    let read : get_or word 0 0 ≡ first = get_or_from_slice_get word 0 first 0 begins in
    omega arith

-- what spells a number is UTF-8
pub text_by_digits : (word : List ℕ) (n : ℕ) → n < 2 ^ 32 → word ≡ decimal n → IsUtf8 word
text_by_digits word n small e = subst IsUtf8 (sym e) (IsUtf8-from_ascii (decimal n) (IsAscii-decimal n (omega arith)))

-- what does not parse spells none
pub none_by_an_error : {E : Type 0} (word : List ℕ) (error : E) (n : ℕ) → n < 2 ^ 32 → ParsesUnsigned 32 10 word (Err error) → word ≡ decimal n → ⊥
none_by_an_error word error n small parses e =
    let is = parse-decimal 32 n word (Err error) small (omega arith) e parses in
    cc

-- what parses spells no other number
pub one_number : (word : List ℕ) (number n : ℕ) → n < 2 ^ 32 → ParsesUnsigned {E = ℕ} 32 10 word (Ok number) → word ≡ decimal n → number ≡ n
one_number word number n small parses e =
    let is = parse-decimal {E = ℕ} 32 n word (Ok number) small (omega arith) e parses in
    cc

-- what parses and begins with neither a sign nor a zero spells the number
pub spelled : (word : List ℕ) (first number : ℕ) → ParsesUnsigned {E = ℕ} 32 10 word (Ok number) → slice_get word 0 ≡ Some first → 49 ≤ first
    → (1 ≤ number) × (word ≡ decimal number)
spelled word first number parses begins high =
    let read : get_or word 0 0 ≡ first = get_or_from_slice_get word 0 first 0 begins in
    let own_value = parse_plain own {E = ℕ} 32 word (Ok number) parses (λ e. low 43 (sym read ∙ e) (omega arith)) in
    let is : number ≡ digits_value 10 word = own_value.1 in
    let back = decimal-digits_value own word own_value.0.0 own_value.0.1 (λ e. absurd (low 48 (sym read ∙ e) (omega arith))) (omega (arith, own_value.0.2)) in
    let words : word ≡ decimal number = sym back ∙ ap decimal (sym is) in
    (from_one number (omega (arith, own_value.0.2)) words, words)
  where
    low : (byte : ℕ) → first ≡ byte → byte < 49 → ⊥
    low byte e below = omega arith

    from_one : (m : ℕ) → m < 2 ^ 32 → word ≡ decimal m → 1 ≤ m
    from_one zero small e =
        absurd (low 48 (sym (get_or_from_slice_get word 0 first 0 begins) ∙ ap (λ w. get_or w 0 0) (e ∙ decimal_digit 0 (omega arith))) (omega arith))
    from_one (suc m) small e = omega arith
