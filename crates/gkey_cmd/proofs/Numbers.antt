-- The number that a word is in decimal.
use Rattle.std.proofs.Common.{ℕ, zero, suc, List, Option, Some, None, MatchOption, ◌≡◌, ◌≢◌, ◌≤◌, ◌<◌, ◌^◌, refl, sym, ◌∙◌, subst, arith, inl, inr}
use Rattle.std.proofs.lemmas.Bool.{cases_lt, cond-true, cond-false, false_from_ne_true}
use Rattle.std.proofs.lemmas.Fmt.{decimal_injective}
use Rattle.std.proofs.lemmas.Slice.Eq.{bytes_eq-Decides}
use Rattle.std.specs.Fmt.{decimal}
use Rattle.std.specs.Str.{bytes_eq}
use Rattle.gkey_cmd.specs.Commands.{number_to}

-- a word that is none of the numbers
no_number : (most : ℕ) (word : List ℕ) → ((n : ℕ) → 1 ≤ n → n ≤ most → word ≢ decimal n) → number_to most word ≡ None
unfolding number_to
no_number zero word none = refl
no_number (suc m) word none =
    cond-false (bytes_eq (decimal (suc m)) word) (Some (suc m)) (number_to m word)
    (false_from_ne_true _ (λ same. none (suc m) (omega arith) (omega arith) (sym ((bytes_eq-Decides (decimal (suc m)) word).0 same))))
    ∙ no_number m word (λ n some within. none n some (omega arith))

-- a word that is one of them
one_number : (most n : ℕ) (word : List ℕ) → most < 2 ^ 64 → 1 ≤ n → n ≤ most → word ≡ decimal n → number_to most word ≡ Some n
unfolding number_to
one_number zero n word small some within is = absurd (omega arith)
one_number (suc m) n word small some within is = elim (cases_lt m n) [
  | inl last ↦
      let same : suc m ≡ n = omega arith in
      cond-true (bytes_eq (decimal (suc m)) word) (Some (suc m)) (number_to m word)
      ((bytes_eq-Decides (decimal (suc m)) word).1 (subst (λ k. decimal k ≡ word) (sym same) (sym is)))
      ∙ subst (λ k. Some (suc m) ≡ Some k) same refl
  | inr before ↦
      cond-false (bytes_eq (decimal (suc m)) word) (Some (suc m)) (number_to m word)
      (false_from_ne_true _ (λ same.
      let other : suc m ≡ n = decimal_injective (suc m) n small (omega arith) ((bytes_eq-Decides (decimal (suc m)) word).0 same ∙ is) in absurd (omega arith)))
      ∙ one_number m n word (omega arith) some before is
]

-- what was found is the number
pub number_is : (most : ℕ) (word : List ℕ) (found : Option ℕ) → most < 2 ^ 64 →
    MatchOption found ((n : ℕ) → 1 ≤ n → n ≤ most → word ≢ decimal n) (λ n. (1 ≤ n) × (n ≤ most) × (word ≡ decimal n)) →
    found ≡ number_to most word
number_is most word None small none = sym (no_number most word none)
number_is most word (Some n) small one = sym (one_number most n word small one.0 one.1 one.2)
