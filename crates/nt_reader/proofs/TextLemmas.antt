-- What spells a term is text without line ends, and what such texts make as lines.
use Rattle.std.proofs.Common.{◌≡◌, ℕ, ◌+◌, ◌/◌, ◌%◌, ◌<◌, ◌≤◌, Bool, true, false, not, ◌||◌, ◌==◌, ltb, List, [], ◌∷◌, ◌++◌, IsUtf8, refl, sym, ap, ap₂, ◌∙◌, subst, arith, inl, inr, lit<, append_assoc, append-nil}
use Rattle.std.proofs.lemmas.Bool.{and_parts, and_from, cond_both, cases_lt, not-true, true≢false}
use Rattle.std.proofs.lemmas.Bool.Decides.{nat_tests}
use Rattle.std.proofs.lemmas.List.Folds.{list_all-append}
use Rattle.std.proofs.lemmas.Str.{IsUtf8-append, IsUtf8-nil, IsUtf8-encode, encode_ascii}
use Rattle.std.specs.List.{flat_map, list_all}
use Rattle.std.specs.Char.{is_digit as is_digit_of}
use lib.Utf8.{encode, encodes, scalar, low_scalar}
use Rattle.gk_base.specs.declared.term.Term.{Term}
use Rattle.nt_lex.specs.Chars.{is_between, is_blank, is_digit, is_letter, is_letter_or_digit, is_pn_chars_u, is_label_first, is_label_inner, is_iri_excluded, is_string_excluded, is_escape_letter}
use Rattle.nt_lex.specs.Written.{Written, Raw, Short, Long, Letter, spelled, is_hex, is_code, is_no_letter, may_stand, spelling}
use Rattle.nt_lex.specs.Spelling.{SpellsIri, SpellsString, is_subtag, dashed, IsTag, SpellsSuffix, plain, typed, tagged, Spells, iri, blank, literal}
use Rattle.nt_lex.proofs.CallerLemmas.{subtag_all, primary_all}
use Rattle.nt_reader.specs.Lines.{is_line_byte, cut_of, last_of, lines, Lined, rest, feed}
use Rattle.nt_reader.proofs.LinedLemmas.{cut_lined, lined_once}

-- each of the list
abbrev pub AllOf : {X : Type 0} → (X → Type 0) → List X → Type 0
AllOf P [] = Unit {0}
AllOf P (x ∷ xs) = P x × AllOf P xs

-- text without line ends
pub record IsText (bytes : List ℕ) : Type 0 where
  pub utf8 : IsUtf8 bytes
  pub line : list_all is_line_byte bytes ≡ true

pub text_append : (a b : List ℕ) → IsText a → IsText b → IsText (a ++ b)
text_append a b x y = record {
  utf8 = IsUtf8-append a b x.utf8 y.utf8;
  line = list_all-append is_line_byte a b ∙ and_from _ _ x.line y.line;
}

pub text_nil : IsText []
text_nil = record { utf8 = IsUtf8-nil; line = refl }

-- one ASCII byte
pub text_byte : (b : ℕ) → b < 128 → is_line_byte b ≡ true → IsText (b ∷ [])
text_byte b low fit = record {
  utf8 = subst IsUtf8 (encode_ascii b low) (IsUtf8-encode b (low_scalar_of b low));
  line = and_from _ _ fit refl;
}
  where
    low_scalar_of : (b : ℕ) → b < 128 → scalar b ≡ true
    low_scalar_of b l = low_scalar b (omega arith)

pub text_cons : (b : ℕ) (bytes : List ℕ) → b < 128 → is_line_byte b ≡ true → IsText bytes → IsText (b ∷ bytes)
text_cons b bytes low fit t = text_append (b ∷ []) bytes (text_byte b low fit) t

-- bytes that pass a test which ASCII bytes other than line ends pass
pub text_low : (p : ℕ → Bool) → ((b : ℕ) → p b ≡ true → b < 128) → ((b : ℕ) → p b ≡ true → is_line_byte b ≡ true) → (bytes : List ℕ) → list_all p bytes ≡ true → IsText bytes
text_low p low fit [] a = text_nil
text_low p low fit (b ∷ bytes) a = let parts = and_parts _ _ a in text_cons b bytes (low b parts.0) (fit b parts.0) (text_low p low fit bytes parts.1)

hex_low : (c : ℕ) → is_digit_of c 16 ≡ true → c < 128
hex_low c h = grind (arith, nat_tests)

hex_plain : (c : ℕ) → is_digit_of c 16 ≡ true → is_line_byte c ≡ true
hex_plain c h = grind (arith, nat_tests)

text_hex : (digits : List ℕ) → list_all is_hex digits ≡ true → IsText digits
text_hex digits a = text_low is_hex hex_low hex_plain digits a

code_hex : (n : ℕ) (ds : List ℕ) → is_code n ds ≡ true → list_all is_hex ds ≡ true
unfolding is_code
code_hex n ds a = (and_parts _ _ (and_parts _ _ a).0).1

high_plain : (b : ℕ) → 128 ≤ b → is_line_byte b ≡ true
high_plain b h = grind (arith, nat_tests)

-- the bytes of a character from 128 on
high_bytes : (c : ℕ) → 128 ≤ c → list_all is_line_byte (encode c) ≡ true
unfolding encode
high_bytes c h =
    let P : List ℕ → Type 0 = λ l. list_all is_line_byte l ≡ true in
    let more : (a : ℕ) (l : List ℕ) → 128 ≤ a → P l → P (a ∷ l) = λ a l g e. and_from _ _ (high_plain a g) e in
    let low : (n : ℕ) → 128 ≤ 128 + n = λ n. omega arith in
    let last : ℕ = 128 + c % 64 in
    let third : ℕ = 128 + c / 64 % 64 in
    let second : ℕ = 128 + c / 4096 % 64 in
    let one : P (last ∷ []) = more last [] (low (c % 64)) refl in
    let two : P (third ∷ last ∷ []) = more third (last ∷ []) (low (c / 64 % 64)) one in
    let three : P (second ∷ third ∷ last ∷ []) = more second (third ∷ last ∷ []) (low (c / 4096 % 64)) two in
    cond_both (ltb c 128) _ _ P
    (λ _. more c [] h refl)
    (λ _. cond_both (ltb c 2048) _ _ P
    (λ _. more (192 + c / 64) (last ∷ []) (omega arith) one)
    (λ _. cond_both (ltb c 65536) _ _ P
    (λ _. more (224 + c / 4096) (third ∷ last ∷ []) (omega arith) two)
    (λ _. more (240 + c / 262144) (second ∷ third ∷ last ∷ []) (omega arith) three)))

module _ (excluded letters : ℕ → Bool) (ends : (c : ℕ) → is_line_byte c ≡ false → excluded c ≡ true) (low : (l : ℕ) → letters l ≡ true → l < 128)
    (fit : (l : ℕ) → letters l ≡ true → is_line_byte l ≡ true) where
  text_raw : (c : ℕ) → scalar c ≡ true → excluded c ≡ false → IsText (encode c)
  text_raw c s e = record {
    utf8 = IsUtf8-encode c s;
    line = elim (cases_lt c 128) [
      | inl small ↦ ap (list_all is_line_byte) (encode_ascii c small) ∙ and_from _ _ (line_byte c e) refl
      | inr large ↦ high_bytes c large
    ];
  }
    where
      line_byte : (c : ℕ) → excluded c ≡ false → is_line_byte c ≡ true
      line_byte c e = either (is_line_byte c) refl
        where
          either : (b : Bool) → is_line_byte c ≡ b → is_line_byte c ≡ true
          either true h = h
          either false h = absurd (true≢false (sym (ends c h) ∙ e))

  text_written : (w : Written) → may_stand excluded letters w ≡ true → IsText (spelled w)
  text_written (Raw c) m = let parts = and_parts _ _ m in text_raw c parts.0 (not-true _ parts.1)
  text_written (Short ds) m = text_cons 0x5C _ (lit< tt) refl (text_cons 0x75 ds (lit< tt) refl (text_hex ds (code_hex 4 ds m)))
  text_written (Long ds) m = text_cons 0x5C _ (lit< tt) refl (text_cons 0x55 ds (lit< tt) refl (text_hex ds (code_hex 8 ds m)))
  text_written (Letter l) m = text_cons 0x5C _ (lit< tt) refl (text_byte l (low l m) (fit l m))

  pub text_spelling : (ws : List Written) → list_all (may_stand excluded letters) ws ≡ true → IsText (spelling ws)
  text_spelling [] a = text_nil
  text_spelling (w ∷ ws) a = let parts = and_parts _ _ a in text_append (spelled w) (spelling ws) (text_written w parts.0) (text_spelling ws parts.1)

iri_ends : (c : ℕ) → is_line_byte c ≡ false → is_iri_excluded c ≡ true
iri_ends c h = grind (arith, nat_tests)

string_ends : (c : ℕ) → is_line_byte c ≡ false → is_string_excluded c ≡ true
string_ends c h = grind (arith, nat_tests)

letter_low : (l : ℕ) → is_escape_letter l ≡ true → l < 128
letter_low l h = grind (arith, nat_tests)

letter_plain : (l : ℕ) → is_escape_letter l ≡ true → is_line_byte l ≡ true
letter_plain l h = grind (arith, nat_tests)

text_iri : (piece text : List ℕ) → SpellsIri piece text → IsText piece
text_iri piece text s =
    subst IsText (sym s.whole) (text_cons 0x3C _ (lit< tt) refl (text_append (spelling s.written) (0x3E ∷ [])
    (text_spelling is_iri_excluded is_no_letter iri_ends (λ l e. absurd (true≢false (sym e))) (λ l e. absurd (true≢false (sym e))) s.written s.each) (text_byte 0x3E (lit< tt) refl)))

text_string : (piece text : List ℕ) → SpellsString piece text → IsText piece
text_string piece text s =
    subst IsText (sym s.whole) (text_cons 0x22 _ (lit< tt) refl (text_append (spelling s.written) (0x22 ∷ [])
    (text_spelling is_string_excluded is_escape_letter string_ends letter_low letter_plain s.written s.each) (text_byte 0x22 (lit< tt) refl)))

blank_low : (b : ℕ) → is_blank b ≡ true → b < 128
blank_low b h = grind (arith, nat_tests)

blank_plain : (b : ℕ) → is_blank b ≡ true → is_line_byte b ≡ true
blank_plain b h = grind (arith, nat_tests)

text_blanks : (bytes : List ℕ) → list_all is_blank bytes ≡ true → IsText bytes
text_blanks bytes a = text_low is_blank blank_low blank_plain bytes a

alpha_low : (b : ℕ) → is_letter b ≡ true → b < 128
alpha_low b h = grind (arith, nat_tests)

alpha_plain : (b : ℕ) → is_letter b ≡ true → is_line_byte b ≡ true
alpha_plain b h = grind (arith, nat_tests)

alnum_low : (b : ℕ) → is_letter_or_digit b ≡ true → b < 128
alnum_low b h = grind (arith, nat_tests)

alnum_plain : (b : ℕ) → is_letter_or_digit b ≡ true → is_line_byte b ≡ true
alnum_plain b h = grind (arith, nat_tests)

text_dashed : (groups : List (List ℕ)) → list_all is_subtag groups ≡ true → IsText (dashed groups)
text_dashed [] a = text_nil
text_dashed (g ∷ gs) a =
    let parts = and_parts _ _ a in
    text_cons 0x2D (g ++ dashed gs) (lit< tt) refl (text_append g (dashed gs) (text_low is_letter_or_digit alnum_low alnum_plain g (subtag_all g parts.0)) (text_dashed gs parts.1))

text_tag : (tag : List ℕ) → IsTag tag → IsText tag
text_tag tag is =
    subst IsText (sym is.whole) (text_append is.primary (dashed is.subtags) (text_low is_letter alpha_low alpha_plain is.primary (primary_all is.primary is.letters)) (text_dashed is.subtags is.groups))

text_suffix : (piece form : List ℕ) (t : Term) → SpellsSuffix piece form t → IsText piece
text_suffix piece form t (plain e) = subst IsText (sym e) text_nil
text_suffix piece form t (typed {iri = i} {datatype = d} carets spells has) =
    subst IsText (sym carets.whole) (text_append carets.gap _ (text_blanks carets.gap carets.before)
    (text_cons 0x5E _ (lit< tt) refl (text_cons 0x5E _ (lit< tt) refl (text_append carets.space i (text_blanks carets.space carets.between) (text_iri i d spells)))))
text_suffix piece form t (tagged {tag = tag} at is) =
    subst IsText (sym at.whole) (text_append at.gap _ (text_blanks at.gap at.before) (text_cons 0x40 tag (lit< tt) refl (text_tag tag is)))

-- a label
label_scalar : (c : ℕ) → is_label_inner c ≡ true → scalar c ≡ true
label_scalar c h = grind (arith, nat_tests)

label_ends : (c : ℕ) → is_line_byte c ≡ false → not (is_label_inner c) ≡ true
label_ends c h = grind (arith, nat_tests)

label_begins : (c : ℕ) → is_label_first c ≡ true → is_label_inner c ≡ true
label_begins c h = wider (is_pn_chars_u c) (c == 0x2D) (is_digit c) (c == 0xB7) (is_between 0x300 0x36F c) (is_between 0x203F 0x2040 c) (c == 0x2E) h
  where
    wider : (u a d e f g z : Bool) → (u || d) ≡ true → (u || a || d || e || f || g || z) ≡ true
    wider true a d e f g z h = refl
    wider false true d e f g z h = refl
    wider false false true e f g z h = refl
    wider false false false e f g z h = absurd (true≢false (sym h))

text_label : (cs : List ℕ) → list_all is_label_inner cs ≡ true → IsText (encodes cs)
text_label [] a = text_nil
text_label (c ∷ cs) a =
    let parts = and_parts _ _ a in
    text_append (encode c) (encodes cs)
    (text_raw (λ b. not (is_label_inner b)) is_no_letter label_ends (λ l e. absurd (true≢false (sym e))) (λ l e. absurd (true≢false (sym e))) c (label_scalar c parts.0) (ap not parts.0))
    (text_label cs parts.1)

-- a term
pub text_term : (piece : List ℕ) (t : Term) → Spells piece t → IsText piece
text_term piece t (iri {text = text} s) = text_iri piece text s
text_term piece t (blank {label = label} s) =
    subst IsText (sym (s.whole ∙ ap (λ l. 0x5F ∷ 0x3A ∷ l) s.says))
    (text_cons 0x5F _ (lit< tt) refl (text_cons 0x3A _ (lit< tt) refl (text_label (s.first ∷ s.others) (and_from _ _ (label_begins s.first s.begins) s.each))))
text_term piece t (literal {string = string} {form = form} {suffix = suffix} s after whole) =
    subst IsText (sym whole) (text_append string suffix (text_string string form s) (text_suffix suffix form t after))

-- ---- lines

-- a line with its end, and lines
abbrev pub with_end : List ℕ → List ℕ
with_end line = line ++ 0x0A ∷ []

abbrev pub joined : List (List ℕ) → List ℕ
joined content = flat_map with_end content

pub joined_lined : (content : List (List ℕ)) → AllOf IsText content → Lined content [] (joined content)
joined_lined [] a = rest refl
joined_lined (line ∷ content) a = feed a.0.line (joined_lined content a.1) (append_assoc line (0x0A ∷ []) (joined content))

-- they are the lines of what they make
pub lines_joined : (content : List (List ℕ)) → AllOf IsText content → lines (joined content) ≡ content
lines_joined content a =
    let all = joined content in
    let same = lined_once (cut_of all).ended content (cut_of all).rest [] all (cut_lined all) (joined_lined content a) in
    ap₂ (λ (l : List (List ℕ)) r. l ++ last_of r) same.0 same.1 ∙ append-nil content
