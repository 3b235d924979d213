-- Lines of the canonical text of a proof, as their words say them.
use Rattle.std.proofs.Common.{List, [], ◌∷◌, ◌++◌, ℕ, ◌+◌, ◌-◌, ◌%◌, ◌^◌, ◌<◌, true, ◌&&◌, nat_le, nat_lt, Some, Ok, Err, All, bytes_eq, codes, map, length, slice_get, ◌≡◌, refl, sym, ap, ap₂, ◌∙◌, arith, lit<, append-nil}
use Rattle.std.specs.List.{list_all}
use Rattle.std.specs.Fmt.{decimal}
use Rattle.std.proofs.lemmas.Fmt.{decimal_by_steps}
use Rattle.std.proofs.lemmas.Bool.{and_parts, and_from, cond-true, leb-true, lt-ltb}
use Rattle.std.proofs.lemmas.Bool.Decides.{nat_tests}
use Rattle.std.proofs.lemmas.List.Elements.{All-nil, All-cons, All-head, All-tail, All-weaker}
use Rattle.std.proofs.lemmas.Slice.Eq.{bytes_eq-Decides}
use Rattle.gk_base.specs.declared.term.Term.{Term}
use Rattle.nt_lex.specs.Scans.{NextFails}
use Rattle.nt_reader.specs.Lines.{is_line_byte}
use Rattle.nt_reader.proofs.CallerLemmas.{IsText, text_append, text_byte, text_cons, text_low, text_nil}
use Rattle.key_file.specs.Name.{is_name_byte, is_name}
use Rattle.term_table.specs.Numbering.{is_named, place_of}
use Rattle.term_table.proofs.CallerLemmas.{place_of-within, slice_get-place_of}
use Rattle.proof_file.specs.Steps.{SupportShape}
use Rattle.proof_file.specs.CanonicalProof.{numbers_text, HasSupportForm}
use Rattle.proof_file.specs.Words.{no_blank, words_of, two_of, decimal_number}
use Rattle.proof_file.specs.ProofText.{or_out_of_range, numbered_one, one_before, numbered_all, numbered_side, number_before, step_numbers, support_of, support_or_done_of, or_bad_line, count_of, step_or_end_of, end_of}
use Rattle.proof_file.specs.declared.step_or_end.StepOrEnd.TheVariants.{Begins, Ends}
use Rattle.proof_file.specs.declared.fault.ProofFault.TheVariants.{BadLine}
use Rattle.proof_file.proofs.WordLemmas.{words_word, number_back, decimal_digits}
use Rattle.proof_file.proofs.InNumbers.{AreNamedIn}
use Rattle.proof_file.proofs.ReadableLemmas.{AreStepNumbers}

-- ---- texts

pub decimal_text : (n : ℕ) → n < 2 ^ 64 → IsText (decimal n)
decimal_text = decimal_by_steps (λ n ds. IsText ds)
    (λ n h. text_byte (48 + n) (omega arith) (digit_plain n h))
    (λ n ds h t. text_append ds ((48 + n % 10) ∷ []) t (text_byte (48 + n % 10) (omega arith) (digit_plain (n % 10) (omega arith))))
  where
    digit_plain : (n : ℕ) → n < 10 → is_line_byte (48 + n) ≡ true
    digit_plain n h = grind (arith, nat_tests)

-- numbers are below 2 ^ 64
abbrev pub AreSmall : List ℕ → Type 0
AreSmall ns = All (λ n. n < 2 ^ 64) ns

pub numbers_plain : (ns : List ℕ) → AreSmall ns → IsText (numbers_text ns)
numbers_plain [] small = text_nil
numbers_plain (n ∷ ns) small =
    let P : ℕ → Type 0 = λ m. m < 2 ^ 64 in
    text_cons 0x20 (decimal n ++ numbers_text ns) (lit< tt) refl (text_append (decimal n) (numbers_text ns) (decimal_text n (All-head P n ns small)) (numbers_plain ns (All-tail P n ns small)))

name_low : (b : ℕ) → is_name_byte b ≡ true → b < 128
name_low b h = grind (arith, nat_tests)

name_plain : (b : ℕ) → is_name_byte b ≡ true → is_line_byte b ≡ true
name_plain b h = grind (arith, nat_tests)

name_dark : (b : ℕ) → is_name_byte b ≡ true → no_blank b ≡ true
name_dark b h = grind (arith, nat_tests)

-- the bytes of a name
pub name_bytes : (name : List ℕ) → is_name name ≡ true → (list_all is_name_byte name ≡ true) × (0 < length name)
name_bytes name h =
    let parts = and_parts (nat_le 1 (length name) && nat_le (length name) 32) (list_all is_name_byte name) h in
    (parts.1, leb-true 1 (length name) (and_parts (nat_le 1 (length name)) (nat_le (length name) 32) parts.0).0)

pub name_text : (name : List ℕ) → is_name name ≡ true → IsText name
name_text name h = text_low is_name_byte name_low name_plain name (name_bytes name h).0

all_dark : (bytes : List ℕ) → list_all is_name_byte bytes ≡ true → list_all no_blank bytes ≡ true
all_dark [] h = refl
all_dark (b ∷ bytes) h = let parts = and_parts (is_name_byte b) (list_all is_name_byte bytes) h in and_from (no_blank b) (list_all no_blank bytes) (name_dark b parts.0) (all_dark bytes parts.1)

-- ---- words

-- numbers, or nothing, come after a space
numbers_next : (ns : List ℕ) → NextFails no_blank (numbers_text ns)
numbers_next [] = tt
numbers_next (n ∷ ns) = refl

pub numbers_words : (ns : List ℕ) → AreSmall ns → words_of (numbers_text ns) ≡ map decimal ns
numbers_words [] small = refl
numbers_words (n ∷ ns) small =
    let P : ℕ → Type 0 = λ m. m < 2 ^ 64 in
    let d = decimal_digits n (All-head P n ns small) in
    words_word (decimal n) (numbers_text ns) d.pass d.some (numbers_next ns) ∙ ap (λ ws. decimal n ∷ ws) (numbers_words ns (All-tail P n ns small))

-- a word and numbers
pub line_words : (word : List ℕ) (ns : List ℕ) → list_all no_blank word ≡ true → 0 < length word → AreSmall ns → words_of (word ++ numbers_text ns) ≡ word ∷ map decimal ns
line_words word ns dark some small = words_word word (numbers_text ns) dark some (numbers_next ns) ∙ ap (λ ws. word ∷ ws) (numbers_words ns small)

-- a word and another
pub two_words : (word other : List ℕ) → list_all no_blank word ≡ true → 0 < length word → list_all no_blank other ≡ true → 0 < length other → words_of (word ++ 0x20 ∷ other) ≡ word ∷ other ∷ []
two_words word other dark some dark_too some_too =
    words_word word (0x20 ∷ other) dark some refl
    ∙ ap (λ ws. word ∷ ws) (ap words_of (sym (append-nil other)) ∙ words_word other [] dark_too some_too tt)

-- ---- what the lines say

pub count_says : (n : ℕ) → n < 2 ^ 32 → count_of (two_of (words_of (codes "terms" ++ 0x20 ∷ decimal n))) ≡ Ok n
count_says n small =
    let d = decimal_digits n (omega arith) in
    ap (λ ws. count_of (two_of ws)) (two_words (codes "terms") (decimal n) refl (lit< tt) d.pass d.some) ∙ ap or_bad_line (number_back 0 n (omega arith) small)

pub step_says : (name : List ℕ) → is_name name ≡ true → step_or_end_of (two_of (words_of (codes "step" ++ 0x20 ∷ name))) ≡ Ok (Begins name)
step_says name h =
    let bytes = name_bytes name h in
    ap (λ ws. step_or_end_of (two_of ws)) (two_words (codes "step") name refl (lit< tt) (all_dark name bytes.0) bytes.1) ∙ cond-true (is_name name) (Ok (Begins name)) (Err BadLine) h

pub end_says : (n : ℕ) → n < 2 ^ 32 → step_or_end_of (two_of (words_of (codes "end" ++ 0x20 ∷ decimal n))) ≡ Ok (Ends n)
end_says n small =
    let d = decimal_digits n (omega arith) in
    ap (λ ws. step_or_end_of (two_of ws)) (two_words (codes "end") (decimal n) refl (lit< tt) d.pass d.some) ∙ ap end_of (number_back 0 n (omega arith) small)

-- a term by its number
named_one : (terms : List Term) (t : Term) → length terms < 2 ^ 32 → is_named terms t ≡ true → numbered_one terms (decimal_number 1 (decimal (place_of terms t + 1))) ≡ Ok t
named_one terms t few named =
    let within = place_of-within terms t named in
    ap (numbered_one terms) (number_back 1 (place_of terms t + 1) (omega arith) (omega arith)) ∙ ap (λ n. or_out_of_range (slice_get terms n)) (back (place_of terms t)) ∙ ap or_out_of_range (slice_get-place_of terms t named)
  where
    back : (n : ℕ) → n + 1 - 1 ≡ n
    back n = omega arith

-- the numbers of places
abbrev pub from_one : List ℕ → List ℕ
from_one places = map (λ p. p + 1) places

pub named_all : (terms side : List Term) → length terms < 2 ^ 32 → AreNamedIn terms side → numbered_all terms (map decimal (from_one (map (place_of terms) side))) ≡ Ok side
named_all terms [] few named = refl
named_all terms (t ∷ side) few named =
    let P : Term → Type 0 = λ u. is_named terms u ≡ true in
    ap₂ one_before (named_one terms t few (All-head P t side named)) (named_all terms side few (All-tail P t side named))

pub places_small : (terms side : List Term) → length terms < 2 ^ 32 → AreNamedIn terms side → AreSmall (from_one (map (place_of terms) side))
places_small terms [] few named = All-nil (λ n. n < 2 ^ 64)
places_small terms (t ∷ side) few named =
    let P : Term → Type 0 = λ u. is_named terms u ≡ true in
    let within = place_of-within terms t (All-head P t side named) in
    All-cons (λ n. n < 2 ^ 64) (place_of terms t + 1) (from_one (map (place_of terms) side)) (omega arith) (places_small terms side few (All-tail P t side named))

-- a side by its numbers
pub side_says : (word : List ℕ) (terms side : List Term) → list_all no_blank word ≡ true → 0 < length word → length terms < 2 ^ 32 → AreNamedIn terms side → 0 < length side →
    numbered_side word terms (words_of (word ++ numbers_text (from_one (map (place_of terms) side)))) ≡ Ok side
side_says word terms [] dark long few named some = absurd (omega arith)
side_says word terms (t ∷ side) dark long few named some =
    ap (numbered_side word terms) (line_words word (from_one (map (place_of terms) (t ∷ side))) dark long (places_small terms (t ∷ side) few named))
    ∙ cond-true (bytes_eq word word) (numbered_all terms (map decimal (from_one (map (place_of terms) (t ∷ side))))) (Err BadLine) ((bytes_eq-Decides word word).1 refl)
    ∙ named_all terms (t ∷ side) few named

-- the numbers of steps
steps_back : (ns : List ℕ) → AreStepNumbers ns → step_numbers (map decimal ns) ≡ Some ns
steps_back [] h = refl
steps_back (n ∷ ns) h =
    let P : ℕ → Type 0 = λ m. (0 < m) × (m < 2 ^ 32) in
    let one = All-head P n ns h in
    let low = one.0 in
    ap₂ number_before (number_back 1 n (omega arith) one.1) (steps_back ns (All-tail P n ns h))

steps_small : (ns : List ℕ) → AreStepNumbers ns → AreSmall ns
steps_small ns h = All-weaker (λ n. (0 < n) × (n < 2 ^ 32)) (λ n. n < 2 ^ 64) (λ n p. let l = p.1 in omega arith) ns h

pub support_small : (support : SupportShape) → HasSupportForm support → AreSmall (support.slot ∷ support.steps)
support_small support h = let l = h.0 in All-cons (λ n. n < 2 ^ 64) support.slot support.steps (omega arith) (steps_small support.steps h.1)

pub support_says : (support : SupportShape) → HasSupportForm support → support_or_done_of (words_of (codes "by" ++ numbers_text (support.slot ∷ support.steps))) ≡ Ok (Some support)
support_says support h =
    let l = h.0 in
    ap support_or_done_of (line_words (codes "by") (support.slot ∷ support.steps) refl (lit< tt) (support_small support h))
    ∙ ap₂ support_of (number_back 0 support.slot (omega arith) (omega arith)) (steps_back support.steps h.1)
    ∙ cond-true (nat_lt support.slot 16) (Ok (Some support)) (Err BadLine) (lt-ltb support.slot 16 h.0)
