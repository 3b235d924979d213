-- Every character that is excluded somewhere is ASCII, and so is every letter of an escape.
use Rattle.std.proofs.Common.{◌≡◌, ℕ, ◌<◌, ◌≤◌, true, false, arith}
use Rattle.std.proofs.lemmas.Bool.Decides.{nat_tests}
use Rattle.nt_lex.specs.Chars.{is_iri_excluded, is_string_excluded, is_escape_letter}

pub high_iri : (c : ℕ) → 128 ≤ c → is_iri_excluded c ≡ false
high_iri c h = grind (arith, nat_tests)

pub high_string : (c : ℕ) → 128 ≤ c → is_string_excluded c ≡ false
high_string c h = grind (arith, nat_tests)

pub low_letter : (l : ℕ) → is_escape_letter l ≡ true → l < 128
low_letter l h = grind (arith, nat_tests)
