-- Words and numbers of a line.
use Rattle.std.proofs.Common.{List, [], ◌∷◌, ◌++◌, ℕ, ◌+◌, ◌-◌, ◌*◌, ◌%◌, ◌^◌, ◌<◌, ◌≤◌, Bool, true, not, ◌&&◌, nat_le, nat_lt, Some, None, All, bytes_eq, length, slice_index, slice_range, take, drop, if◌then◌else◌, ◌≡◌, ◌⊎◌, inl, inr, refl, sym, ap, subst, ◌∙◌, arith, true≢false, append-nil, append_assoc, length-append}
use Rattle.std.specs.List.{list_all}
use Rattle.std.specs.Fmt.{decimal}
use Rattle.std.proofs.lemmas.Fmt.{decimal_by_steps}
use Rattle.std.proofs.lemmas.Bool.{cases_lt, and_parts, and_from, not-true, not-false, cond-true, cond-false, le-leb, lt-ltb, ne_eqb, or_from}
use Rattle.std.proofs.lemmas.List.{drop_more, drop_all, take_all, length-drop}
use Rattle.std.proofs.lemmas.List.Elements.{All-head, All-tail}
use Rattle.std.proofs.lemmas.List.Folds.{list_all-append, drop_split}
use Rattle.std.proofs.lemmas.List.Sums.{fold-append}
use Rattle.std.proofs.lemmas.Slice.Eq.{bytes_eq-Decides}
use Rattle.nt_lex.specs.Chars.{is_blank}
use Rattle.nt_lex.specs.Scans.{IsRunAt, NextFails}
use Rattle.nt_reader.proofs.CallerLemmas.{range_passes, length-range}
use Rattle.proof_file.specs.Words.{no_blank, word_then, words_from, words_of, value_of, decimal_number}

-- ---- words

-- bytes that are not blank are of the word
pub word_grows : (word more rest : List ℕ) → list_all no_blank more ≡ true → words_from word (more ++ rest) ≡ words_from (word ++ more) rest
word_grows word [] rest h = ap (λ w. words_from w rest) (sym (append-nil word))
word_grows word (b ∷ more) rest h =
    let parts = and_parts (no_blank b) (list_all no_blank more) h in
    cond-false (is_blank b) (word_then word (words_from [] (more ++ rest))) (words_from (word ++ b ∷ []) (more ++ rest)) (not-true (is_blank b) parts.0)
    ∙ word_grows (word ++ b ∷ []) more rest parts.1 ∙ ap (λ w. words_from w rest) (append_assoc word (b ∷ []) more)

pub some_word : (word : List ℕ) (words : List (List ℕ)) → 0 < length word → word_then word words ≡ word ∷ words
some_word [] words h = absurd (omega arith)
some_word (b ∷ word) words h = refl

-- a word ends before a blank, or at the end
pub word_ends : (word rest : List ℕ) → NextFails no_blank rest → words_from word rest ≡ word_then word (words_of rest)
word_ends word [] h = refl
word_ends word (b ∷ rest) h =
    let blank : is_blank b ≡ true = not-false (is_blank b) h in
    cond-true (is_blank b) (word_then word (words_from [] rest)) (words_from (word ++ b ∷ []) rest) blank
    ∙ ap (word_then word) (sym (cond-true (is_blank b) (words_from [] rest) (words_from (b ∷ []) rest) blank))

-- blanks say nothing
pub words_blanks : (blanks rest : List ℕ) → list_all is_blank blanks ≡ true → words_of (blanks ++ rest) ≡ words_of rest
words_blanks [] rest h = refl
words_blanks (b ∷ blanks) rest h =
    let parts = and_parts (is_blank b) (list_all is_blank blanks) h in
    cond-true (is_blank b) (words_from [] (blanks ++ rest)) (words_from (b ∷ []) (blanks ++ rest)) parts.0 ∙ words_blanks blanks rest parts.1

-- a word, and those after it
pub words_word : (word rest : List ℕ) → list_all no_blank word ≡ true → 0 < length word → NextFails no_blank rest → words_of (word ++ rest) ≡ word ∷ words_of rest
words_word word rest pass some ends = word_grows [] word rest pass ∙ word_ends word rest ends ∙ some_word word (words_of rest) some

-- ---- words by their places

all_passes : (test : ℕ → Bool) (xs : List ℕ) → All (λ b. test b ≡ true) xs → list_all test xs ≡ true
all_passes test [] h = refl
all_passes test (b ∷ xs) h = let P : ℕ → Type 0 = λ v. test v ≡ true in and_from (test b) (list_all test xs) (All-head P b xs h) (all_passes test xs (All-tail P b xs h))

pub run_passes : (test : ℕ → Bool) (line : List ℕ) (at end : ℕ) → IsRunAt test line at end → list_all test (slice_range line at end) ≡ true
run_passes test line at end run = all_passes test (slice_range line at end) (range_passes test line at end run.in_range run.pass)

pub run_stops : (test : ℕ → Bool) (line : List ℕ) (at end : ℕ) → IsRunAt test line at end → NextFails test (drop end line)
run_stops test line at end run = elim (at_end line end) [
  | inl past ↦ subst (NextFails test) (sym (drop_all end line past)) tt
  | inr inside ↦ subst (NextFails test) (sym (drop_more line end 0 inside)) (run.stops inside)
]
  where
    at_end : (line : List ℕ) (end : ℕ) → (length line ≤ end) ⊎ (end < length line)
    at_end line end = elim (cases_lt end (length line)) [ inl l ↦ inr l | inr g ↦ inl g ]

-- a line from a run on
split_run : (test : ℕ → Bool) (line : List ℕ) (at end : ℕ) → IsRunAt test line at end → drop at line ≡ slice_range line at end ++ drop end line
split_run test line at end run = drop_split line at end run.ordered

-- the range up to the end of a line
pub to_the_end : (line : List ℕ) (at : ℕ) → take (length line - at) (drop at line) ≡ drop at line
to_the_end line at = let n = length-drop at line in take_all (length line - at) (drop at line) (omega arith)

-- no word comes after blanks alone
pub no_words : (line : List ℕ) (end : ℕ) → IsRunAt is_blank line 0 end → end ≡ length line → words_of line ≡ []
no_words line end run whole =
    ap words_of (split_run is_blank line 0 end run ∙ ap (λ l. slice_range line 0 end ++ l) (drop_all end line (omega arith)))
    ∙ words_blanks (slice_range line 0 end) [] (run_passes is_blank line 0 end run)

-- the first word of a line that has one
pub first_of_words : (line : List ℕ) (begin end : ℕ) → IsRunAt is_blank line 0 begin → IsRunAt no_blank line begin end → begin < length line → words_of line ≡ slice_range line begin end ∷ words_of (drop end line)
first_of_words line begin end blanks run inside =
    let stop = blanks.stops inside in
    let more : begin < end = longer begin end run.ordered (λ same. true≢false (sym (ap not stop) ∙ ap (λ i. no_blank (slice_index line i)) same ∙ run.stops (omega arith))) in
    let count = length-range line begin end run.in_range in
    ap words_of (split_run is_blank line 0 begin blanks ∙ ap (λ l. slice_range line 0 begin ++ l) (split_run no_blank line begin end run))
    ∙ words_blanks (slice_range line 0 begin) (slice_range line begin end ++ drop end line) (run_passes is_blank line 0 begin blanks)
    ∙ words_word (slice_range line begin end) (drop end line) (run_passes no_blank line begin end run) (omega arith) (run_stops no_blank line begin end run)
  where
    longer : (begin end : ℕ) → begin ≤ end → (begin ≡ end → ⊥) → begin < end
    longer begin end le ne = omega arith

-- ---- decimal digits

-- the digits are a word that stands for the number
pub record IsDigits (n : ℕ) (ds : List ℕ) : Type 0 where
  pub value : value_of ds ≡ n
  pub pass : list_all no_blank ds ≡ true
  pub some : 0 < length ds

digit_passes : (n : ℕ) → n < 10 → no_blank (48 + n) ≡ true
digit_passes n h = ap not (or_from _ _ (ne_eqb (48 + n) 0x20 (λ e. absurd (omega arith))) (ne_eqb (48 + n) 0x09 (λ e. absurd (omega arith))))

pub decimal_digits : (n : ℕ) → n < 2 ^ 64 → IsDigits n (decimal n)
decimal_digits = decimal_by_steps IsDigits
    (λ n h. record { value = omega arith; pass = and_from _ _ (digit_passes n h) refl; some = omega arith })
    (λ n ds h p. let l = length-append ds ((48 + n % 10) ∷ []) in let s = p.some in record {
      value = fold-append (λ n b. 10 * n + (b - 0x30)) 0 ds ((48 + n % 10) ∷ []) ∙ ap (λ v. 10 * v + (48 + n % 10 - 0x30)) p.value ∙ omega arith;
      pass = list_all-append no_blank ds ((48 + n % 10) ∷ []) ∙ and_from _ _ p.pass (and_from _ _ (digit_passes (n % 10) (omega arith)) refl);
      some = omega arith;
    })

-- a number is read again
pub number_back : (low n : ℕ) → low ≤ n → n < 2 ^ 32 → decimal_number low (decimal n) ≡ Some n
number_back low n le small =
    let d = decimal_digits n (omega arith) in
    ap (λ v. if nat_le low v && nat_lt v (2 ^ 32) && bytes_eq (decimal v) (decimal n) then Some v else None) d.value
    ∙ cond-true (nat_le low n && nat_lt n (2 ^ 32) && bytes_eq (decimal n) (decimal n)) (Some n) None
    (and_from _ _ (and_from _ _ (le-leb low n le) (lt-ltb n (2 ^ 32) small)) ((bytes_eq-Decides (decimal n) (decimal n)).1 refl))
