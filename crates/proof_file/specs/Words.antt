-- Words of a line: the longest runs without tabs and spaces; and numbers (this project's own).
use Rattle.std.specs.Prelude.{List, [], ◌∷◌, ◌++◌, ℕ, ◌+◌, ◌-◌, ◌*◌, ◌^◌, Bool, ◌&&◌, nat_le, nat_lt, not, fold, Option, Some, None, bytes_eq, if◌then◌else◌}
use Rattle.std.specs.Fmt.{decimal}
use Rattle.nt_lex.specs.Chars.{is_blank}
use Rattle.nt_lex.specs.Scans.{IsRunAt}

-- a byte of a word: neither tab nor space
abbrev pub no_blank : ℕ → Bool
no_blank b = not (is_blank b)

-- a word as far as it has come, where it has, and the words after it
abbrev pub word_then : List ℕ → List (List ℕ) → List (List ℕ)
word_then [] words = words
word_then (b ∷ word) words = (b ∷ word) ∷ words

-- the words of a line of which the first part of a word has come
abbrev pub words_from : List ℕ → List ℕ → List (List ℕ)
words_from word [] = word_then word []
words_from word (b ∷ line) = if is_blank b then word_then word (words_from [] line) else words_from (word ++ b ∷ []) line

-- the words of a line
abbrev pub words_of : List ℕ → List (List ℕ)
words_of line = words_from [] line

-- the two words of a line, if there are two
abbrev pub two_of : List (List ℕ) → Option (List ℕ × List ℕ)
two_of [] = None
two_of (first ∷ []) = None
two_of (first ∷ second ∷ []) = Some (first, second)
two_of (first ∷ second ∷ third ∷ more) = None

-- the number that digits stand for
abbrev pub value_of : List ℕ → ℕ
value_of word = fold (λ n b. 10 * n + (b - 0x30)) 0 word

-- the number that a word is, from `low` on and below 2 ^ 32: its decimal digits, without sign and leading zero
abbrev pub decimal_number : ℕ → List ℕ → Option ℕ
decimal_number low word =
    let n = value_of word in
    if nat_le low n && nat_lt n (2 ^ 32) && bytes_eq (decimal n) word then Some n else None

-- the first word of a line, from the one place to the other; an empty one at the end where there is none
pub record FirstWord (line : List ℕ) (begin end : ℕ) : Type 0 where
  pub blanks : IsRunAt is_blank line 0 begin
  pub run : IsRunAt no_blank line begin end
