-- The canonical text of a term spells the term.
use Rattle.std.proofs.Common.{◌≡◌, ℕ, ◌+◌, ◌/◌, ◌%◌, ◌<◌, ◌≤◌, Bool, true, false, cond, not, ◌&&◌, ◌||◌, eqb, leb, ltb, List, [], ◌∷◌, ◌++◌, length, drop, map, refl, sym, ap, ◌∙◌, subst, arith, ⊎_elim, append-nil, true≢false}
use Rattle.std.proofs.lemmas.Bool.{cases_Bool, cases_lt, and_parts, and_from, and_right, eqb-true, ne_eqb, lt-leb, agree_below_at, cond_both}
use Rattle.std.proofs.lemmas.List.{drop_at, length-append, map-append}
use Rattle.std.proofs.lemmas.List.Concat.{flat_map-append}
use Rattle.std.proofs.lemmas.Str.{encode_ascii}
use Rattle.std.proofs.lemmas.Str.Ascii.{lowercase-lowercase}
use Rattle.std.specs.Char.{to_ascii_lowercase}
use Rattle.std.specs.Cmp.Lexicographic.{bytes_decides}
use Rattle.std.specs.List.{flat_map, list_all}
use Rattle.std.specs.Str.Parse.{digits_value}
use Rattle.std.specs.Prelude.{bytes_eq}
use lib.Utf8.{encode, scalar}
use Rattle.gk_base.specs.declared.term.Term.{Term}
use Rattle.gk_base.specs.declared.term.Term.TheVariants.{Plain, Typed, Lang}
use Rattle.nt_lex.specs.Chars.{is_iri_excluded, is_string_excluded, is_escape_letter, is_letter, is_letter_or_digit, is_between}
use Rattle.nt_lex.specs.Written.{Written, Raw, Short, Long, Letter, spelled, meant, meant_by_letter, is_code, in_iri, in_string, spelling, meaning}
use Rattle.nt_lex.specs.Spelling.{SpellsIri, SpellsString, IsTag, is_subtag, is_primary, dashed, xsd_string, AfterCarets, AfterAt, SpellsSuffix, plain, typed, tagged, Spells, iri, blank, literal}
use Rattle.nt_lex.specs.Reading.{SuffixStops, TermStops, Reads}
use Rattle.term_text.specs.CanonicalText.{unicode_escape, iri_byte, string_byte, iri_text, string_text, term_text}
use Rattle.term_text.specs.ReadBack.{CanBeSpelled}

-- ---- characters

-- the digits of the escape of a character
abbrev four : ℕ → List ℕ
four c = drop 2 (unicode_escape c)

-- a character as it is written in an IRI, and in a string
abbrev iri_char : ℕ → Written
iri_char c = cond (is_iri_excluded c) (Short (four c)) (Raw c)

abbrev pick : {A : Type 0} → Bool → Bool → Bool → Bool → A → A → A → A → A → A
pick a b c d v w x y z = cond a v (cond b w (cond c x (cond d y z)))

abbrev string_char : ℕ → Written
string_char c = pick (eqb c 0x22) (eqb c 0x5C) (eqb c 0x0A) (eqb c 0x0D) (Letter 0x22) (Letter 0x5C) (Letter 0x6E) (Letter 0x72) (Raw c)

high_iri : (c : ℕ) → 128 ≤ c → is_iri_excluded c ≡ false
high_iri c h =
    let none : leb c 0x20 ≡ false = lt-leb c 0x20 (omega arith) in
    let apart : (k : ℕ) → k < 128 → eqb c k ≡ false = λ k l. ne_eqb c k (λ e. absurd (omega arith)) in
    let a = apart 0x3C (omega arith) in
    let b = apart 0x3E (omega arith) in
    let d = apart 0x22 (omega arith) in
    let e = apart 0x7B (omega arith) in
    let f = apart 0x7D (omega arith) in
    let g = apart 0x7C (omega arith) in
    let j = apart 0x5E (omega arith) in
    let k = apart 0x60 (omega arith) in
    let l = apart 0x5C (omega arith) in
    λ i. none i || a i || b i || d i || e i || f i || g i || j i || k i || l i

low_iri : (c : ℕ) → is_iri_excluded c ≡ true → c < 128
low_iri c e = ⊎_elim (λ l. l) (λ h. absurd (true≢false (sym e ∙ high_iri c h))) (cases_lt c 128)

-- the four digits of a character below 128 name it
abbrev names_it : ℕ → Bool
names_it c = is_code 4 (four c) && eqb (digits_value 16 (four c)) c

named : (c : ℕ) → c < 128 → names_it c ≡ true
unfolding is_code
named c l = agree_below_at names_it (λ _. true) 128 c refl l

-- bytes of a character from 128 on are 128 and more
high_bytes : (f : ℕ → List ℕ) → ((b : ℕ) → 128 ≤ b → f b ≡ b ∷ []) → (c : ℕ) → 128 ≤ c → flat_map f (encode c) ≡ encode c
unfolding encode
high_bytes f raw c h =
    let P : List ℕ → Type 0 = λ l. flat_map f l ≡ l in
    let more : (a : ℕ) (l : List ℕ) → 128 ≤ a → flat_map f l ≡ l → flat_map f (a ∷ l) ≡ a ∷ l = λ a l g e. λ i. raw a g i ++ e i in
    let low : (n : ℕ) → 128 ≤ 128 + n = λ n. omega arith in
    cond_both (ltb c 128) _ _ P
    (λ _. more c [] h refl)
    (λ _. cond_both (ltb c 2048) _ _ P
    (λ _. more (192 + c / 64) _ (omega arith) (more _ [] (low (c % 64)) refl))
    (λ _. cond_both (ltb c 65536) _ _ P
    (λ _. more (224 + c / 4096) _ (omega arith) (more _ _ (low (c / 64 % 64)) (more _ [] (low (c % 64)) refl)))
    (λ _. more (240 + c / 262144) _ (omega arith) (more _ _ (low (c / 4096 % 64)) (more _ _ (low (c / 64 % 64)) (more _ [] (low (c % 64)) refl))))))

-- a character has bytes
no_char : (c : ℕ) (more : List ℕ) → [] ≡ encode c ++ more → ⊥
unfolding encode
no_char c more =
    let P : List ℕ → Type 0 = λ l. [] ≡ l ++ more → ⊥ in
    cond_both (ltb c 128) _ _ P (λ _ e. cc) (λ _. cond_both (ltb c 2048) _ _ P (λ _ e. cc) (λ _. cond_both (ltb c 65536) _ _ P (λ _ e. cc) (λ _ e. cc)))

-- ---- writing characters anew

rewritten_each : (may may' : Written → Bool) (canon : ℕ → Written) → ((w : Written) → may w ≡ true → scalar (meant w) ≡ true) → ((c : ℕ) → scalar c ≡ true → may' (canon c) ≡ true) → (ws : List Written) → list_all may ws ≡ true → list_all may' (map (λ w. canon (meant w)) ws) ≡ true
rewritten_each may may' canon s h [] e = refl
rewritten_each may may' canon s h (w ∷ ws) e =
    let parts = and_parts (may w) (list_all may ws) e in
    and_from (may' (canon (meant w))) (list_all may' (map (λ v. canon (meant v)) ws)) (h (meant w) (s w parts.0)) (rewritten_each may may' canon s h ws parts.1)

rewritten_spelling : (canon : ℕ → Written) (byte : ℕ → List ℕ) → ((c : ℕ) → spelled (canon c) ≡ flat_map byte (encode c)) → (ws : List Written) → spelling (map (λ w. canon (meant w)) ws) ≡ flat_map byte (meaning ws)
rewritten_spelling canon byte h [] = refl
rewritten_spelling canon byte h (w ∷ ws) =
    (λ i. h (meant w) i ++ rewritten_spelling canon byte h ws i) ∙ sym (flat_map-append byte (encode (meant w)) (meaning ws))

rewritten_meaning : (canon : ℕ → Written) → ((c : ℕ) → meant (canon c) ≡ c) → (ws : List Written) → meaning (map (λ w. canon (meant w)) ws) ≡ meaning ws
rewritten_meaning canon h [] = refl
rewritten_meaning canon h (w ∷ ws) = λ i. encode (h (meant w) i) ++ rewritten_meaning canon h ws i

-- ---- IRIs

iri_scalar : (w : Written) → in_iri w ≡ true → scalar (meant w) ≡ true
unfolding is_code
iri_scalar (Raw c) e = (and_parts (scalar c) (not (is_iri_excluded c)) e).0
iri_scalar (Short digits) e = (and_parts _ (scalar (digits_value 16 digits)) e).1
iri_scalar (Long digits) e = (and_parts _ (scalar (digits_value 16 digits)) e).1
iri_scalar (Letter l) e = absurd (true≢false (sym e))

iri_may : (c : ℕ) → scalar c ≡ true → in_iri (iri_char c) ≡ true
iri_may c s =
    ⊎_elim
    (λ e. ap (λ b. in_iri (cond b (Short (four c)) (Raw c))) e ∙ (and_parts (is_code 4 (four c)) (eqb (digits_value 16 (four c)) c) (named c (low_iri c e))).0)
    (λ e. ap (λ b. in_iri (cond b (Short (four c)) (Raw c))) e ∙ and_from (scalar c) (not (is_iri_excluded c)) s (ap not e))
    (cases_Bool (is_iri_excluded c))

iri_meant : (c : ℕ) → meant (iri_char c) ≡ c
iri_meant c =
    ⊎_elim
    (λ e. ap (λ b. meant (cond b (Short (four c)) (Raw c))) e ∙ eqb-true (digits_value 16 (four c)) c (and_parts (is_code 4 (four c)) (eqb (digits_value 16 (four c)) c) (named c (low_iri c e))).1)
    (λ e. ap (λ b. meant (cond b (Short (four c)) (Raw c))) e)
    (cases_Bool (is_iri_excluded c))

raw_iri : (b : ℕ) → 128 ≤ b → iri_byte b ≡ b ∷ []
raw_iri b h = ap (λ x. cond x (unicode_escape b) (b ∷ [])) (high_iri b h)

iri_spelled : (c : ℕ) → spelled (iri_char c) ≡ flat_map iri_byte (encode c)
iri_spelled c =
    ⊎_elim
    (λ l. ⊎_elim
    (λ e. ap (λ b. spelled (cond b (Short (four c)) (Raw c))) e ∙ sym (ap (flat_map iri_byte) (encode_ascii c l) ∙ (append-nil (iri_byte c) ∙ ap (λ b. cond b (unicode_escape c) (c ∷ [])) e)))
    (λ e. ap (λ b. spelled (cond b (Short (four c)) (Raw c))) e ∙ (encode_ascii c l ∙ sym (ap (flat_map iri_byte) (encode_ascii c l) ∙ (append-nil (iri_byte c) ∙ ap (λ b. cond b (unicode_escape c) (c ∷ [])) e))))
    (cases_Bool (is_iri_excluded c)))
    (λ h. ap (λ b. spelled (cond b (Short (four c)) (Raw c))) (high_iri c h) ∙ sym (high_bytes iri_byte raw_iri c h))
    (cases_lt c 128)

iri_again : (piece text : List ℕ) → SpellsIri piece text → SpellsIri (iri_text text) text
iri_again piece text s = record {
  written = map (λ w. iri_char (meant w)) s.written;
  each = rewritten_each in_iri in_iri iri_char iri_scalar iri_may s.written s.each;
  whole = ap (λ (l : List ℕ). 0x3C ∷ (l ++ 0x3E ∷ [])) (ap (flat_map iri_byte) s.says ∙ sym (rewritten_spelling iri_char iri_byte iri_spelled s.written));
  says = s.says ∙ sym (rewritten_meaning iri_char iri_meant s.written);
  absolute = s.absolute;
}

-- ---- strings

picked : {A B : Type 0} (f : A → B) (a b c d : Bool) (v w x y z : A) → f (pick a b c d v w x y z) ≡ pick a b c d (f v) (f w) (f x) (f y) (f z)
picked f true b c d v w x y z = refl
picked f false true c d v w x y z = refl
picked f false false true d v w x y z = refl
picked f false false false true v w x y z = refl
picked f false false false false v w x y z = refl

-- what holds at each choice that is taken
picks : {A : Type 0} (P : A → Type 0) (a b c d : Bool) (v w x y z : A) → (a ≡ true → P v) → (b ≡ true → P w) → (c ≡ true → P x) → (d ≡ true → P y) → ((a || b || c || d) ≡ false → P z) → P (pick a b c d v w x y z)
picks P true b c d v w x y z f g h j k = f refl
picks P false true c d v w x y z f g h j k = g refl
picks P false false true d v w x y z f g h j k = h refl
picks P false false false true v w x y z f g h j k = j refl
picks P false false false false v w x y z f g h j k = k refl

string_may : (c : ℕ) → scalar c ≡ true → in_string (string_char c) ≡ true
string_may c s =
    picks (λ w. in_string w ≡ true) (eqb c 0x22) (eqb c 0x5C) (eqb c 0x0A) (eqb c 0x0D) (Letter 0x22) (Letter 0x5C) (Letter 0x6E) (Letter 0x72) (Raw c)
    (λ _. refl) (λ _. refl) (λ _. refl) (λ _. refl) (λ e. and_from (scalar c) (not (is_string_excluded c)) s (ap not e))

string_meant : (c : ℕ) → meant (string_char c) ≡ c
string_meant c =
    picks (λ w. meant w ≡ c) (eqb c 0x22) (eqb c 0x5C) (eqb c 0x0A) (eqb c 0x0D) (Letter 0x22) (Letter 0x5C) (Letter 0x6E) (Letter 0x72) (Raw c)
    (λ e. sym (eqb-true c 0x22 e)) (λ e. sym (eqb-true c 0x5C e)) (λ e. sym (eqb-true c 0x0A e)) (λ e. sym (eqb-true c 0x0D e)) (λ _. refl)

high_string : (c : ℕ) → 128 ≤ c → (k : ℕ) → k < 128 → eqb c k ≡ false
high_string c h k l = ne_eqb c k (λ e. absurd (omega arith))

raw_string : (b : ℕ) → 128 ≤ b → string_byte b ≡ b ∷ []
raw_string b h =
    let a0 = high_string b h 0x22 (omega arith) in
    let a1 = high_string b h 0x5C (omega arith) in
    let a2 = high_string b h 0x0A (omega arith) in
    let a3 = high_string b h 0x0D (omega arith) in
    λ i. pick (a0 i) (a1 i) (a2 i) (a3 i) (0x5C ∷ 0x22 ∷ []) (0x5C ∷ 0x5C ∷ []) (0x5C ∷ 0x6E ∷ []) (0x5C ∷ 0x72 ∷ []) (b ∷ [])

raw_char : (c : ℕ) → 128 ≤ c → string_char c ≡ Raw c
raw_char c h =
    let a0 = high_string c h 0x22 (omega arith) in
    let a1 = high_string c h 0x5C (omega arith) in
    let a2 = high_string c h 0x0A (omega arith) in
    let a3 = high_string c h 0x0D (omega arith) in
    λ i. pick (a0 i) (a1 i) (a2 i) (a3 i) (Letter 0x22) (Letter 0x5C) (Letter 0x6E) (Letter 0x72) (Raw c)

string_spelled : (c : ℕ) → spelled (string_char c) ≡ flat_map string_byte (encode c)
string_spelled c =
    ⊎_elim
    (λ l.
    picked spelled (eqb c 0x22) (eqb c 0x5C) (eqb c 0x0A) (eqb c 0x0D) (Letter 0x22) (Letter 0x5C) (Letter 0x6E) (Letter 0x72) (Raw c)
    ∙ (ap (λ (z : List ℕ). pick (eqb c 0x22) (eqb c 0x5C) (eqb c 0x0A) (eqb c 0x0D) (0x5C ∷ 0x22 ∷ []) (0x5C ∷ 0x5C ∷ []) (0x5C ∷ 0x6E ∷ []) (0x5C ∷ 0x72 ∷ []) z) (encode_ascii c l)
    ∙ sym (ap (flat_map string_byte) (encode_ascii c l) ∙ append-nil (string_byte c))))
    (λ h. ap spelled (raw_char c h) ∙ sym (high_bytes string_byte raw_string c h))
    (cases_lt c 128)

high_letter : (l : ℕ) → 128 ≤ l → is_escape_letter l ≡ false
high_letter l h =
    let a = high_string l h 0x74 (omega arith) in
    let b = high_string l h 0x62 (omega arith) in
    let c = high_string l h 0x6E (omega arith) in
    let d = high_string l h 0x72 (omega arith) in
    let e = high_string l h 0x66 (omega arith) in
    let f = high_string l h 0x22 (omega arith) in
    let g = high_string l h 0x27 (omega arith) in
    let j = high_string l h 0x5C (omega arith) in
    λ i. a i || b i || c i || d i || e i || f i || g i || j i

string_scalar : (w : Written) → in_string w ≡ true → scalar (meant w) ≡ true
unfolding is_code
string_scalar (Raw c) e = (and_parts (scalar c) (not (is_string_excluded c)) e).0
string_scalar (Short digits) e = (and_parts _ (scalar (digits_value 16 digits)) e).1
string_scalar (Long digits) e = (and_parts _ (scalar (digits_value 16 digits)) e).1
string_scalar (Letter l) e =
    ⊎_elim
    (λ low. agree_below_at (λ k. scalar (meant_by_letter k)) (λ _. true) 128 l refl low)
    (λ h. absurd (true≢false (sym e ∙ high_letter l h)))
    (cases_lt l 128)

string_again : (piece form : List ℕ) → SpellsString piece form → SpellsString (string_text form) form
string_again piece form s = record {
  written = map (λ w. string_char (meant w)) s.written;
  each = rewritten_each in_string in_string string_char string_scalar string_may s.written s.each;
  whole = ap (λ (l : List ℕ). 0x22 ∷ (l ++ 0x22 ∷ [])) (ap (flat_map string_byte) s.says ∙ sym (rewritten_spelling string_char string_byte string_spelled s.written));
  says = s.says ∙ sym (rewritten_meaning string_char string_meant s.written);
}

-- ---- tags

above : (lo hi c : ℕ) → hi < c → is_between lo hi c ≡ false
above lo hi c h = and_right (leb lo c) (leb c hi) (lt-leb c hi h)

lower_letter : (c : ℕ) → is_letter c ≡ true → is_letter (to_ascii_lowercase c) ≡ true
lower_letter c e =
    ⊎_elim
    (λ low. sym (ap (λ b. not b || is_letter (to_ascii_lowercase c)) e) ∙ agree_below_at (λ k. not (is_letter k) || is_letter (to_ascii_lowercase k)) (λ _. true) 128 c refl low)
    (λ h. let upper = above 0x41 0x5A c (omega arith) in
    let lower = above 0x61 0x7A c (omega arith) in
    let none : is_letter c ≡ false = λ i. upper i || lower i in
    absurd (true≢false (sym e ∙ none)))
    (cases_lt c 128)

lower_both : (c : ℕ) → is_letter_or_digit c ≡ true → is_letter_or_digit (to_ascii_lowercase c) ≡ true
lower_both c e =
    ⊎_elim
    (λ low. sym (ap (λ b. not b || is_letter_or_digit (to_ascii_lowercase c)) e) ∙ agree_below_at (λ k. not (is_letter_or_digit k) || is_letter_or_digit (to_ascii_lowercase k)) (λ _. true) 128 c refl low)
    (λ h. let upper = above 0x41 0x5A c (omega arith) in
    let lower = above 0x61 0x7A c (omega arith) in
    let digit = above 0x30 0x39 c (omega arith) in
    let none : is_letter_or_digit c ≡ false = λ i. upper i || lower i || digit i in
    absurd (true≢false (sym e ∙ none)))
    (cases_lt c 128)

all_map : {X Y : Type 0} (p : X → Bool) (q : Y → Bool) (f : X → Y) → ((x : X) → p x ≡ true → q (f x) ≡ true) → (xs : List X) → list_all p xs ≡ true → list_all q (map f xs) ≡ true
all_map p q f h [] e = refl
all_map p q f h (x ∷ xs) e =
    let parts = and_parts (p x) (list_all p xs) e in
    and_from (q (f x)) (list_all q (map f xs)) (h x parts.0) (all_map p q f h xs parts.1)

lower_subtag : (cs : List ℕ) → is_subtag cs ≡ true → is_subtag (map to_ascii_lowercase cs) ≡ true
lower_subtag [] e = e
lower_subtag (c ∷ cs) e = all_map is_letter_or_digit is_letter_or_digit to_ascii_lowercase lower_both (c ∷ cs) e

lower_primary : (cs : List ℕ) → is_primary cs ≡ true → is_primary (map to_ascii_lowercase cs) ≡ true
lower_primary [] e = e
lower_primary (c ∷ cs) e = all_map is_letter is_letter to_ascii_lowercase lower_letter (c ∷ cs) e

lower_dashed : (subtags : List (List ℕ)) → map to_ascii_lowercase (dashed subtags) ≡ dashed (map (map to_ascii_lowercase) subtags)
lower_dashed [] = refl
lower_dashed (s ∷ ss) = ap (λ (l : List ℕ). 0x2D ∷ l) (map-append to_ascii_lowercase s (dashed ss) ∙ ap (λ l. map to_ascii_lowercase s ++ l) (lower_dashed ss))

lower_tag : (tag : List ℕ) → IsTag tag → IsTag (map to_ascii_lowercase tag)
lower_tag tag is = record {
  primary = map to_ascii_lowercase is.primary;
  subtags = map (map to_ascii_lowercase) is.subtags;
  letters = lower_primary is.primary is.letters;
  groups = all_map is_subtag is_subtag (map to_ascii_lowercase) lower_subtag is.subtags is.groups;
  whole = ap (map to_ascii_lowercase) is.whole ∙ (map-append to_ascii_lowercase is.primary (dashed is.subtags) ∙ ap (λ l. map to_ascii_lowercase is.primary ++ l) (lower_dashed is.subtags));
}

lower_twice : (cs : List ℕ) → map to_ascii_lowercase (map to_ascii_lowercase cs) ≡ map to_ascii_lowercase cs
lower_twice [] = refl
lower_twice (c ∷ cs) = λ i. lowercase-lowercase c i ∷ lower_twice cs i

-- ---- terms

-- the canonical text spells the term, and ends there
pub record SpelledWhole (term : Term) : Type 0 where
  pub spells : Spells (term_text term) term
  pub stops : TermStops spells []

-- what follows the string of a literal
record SuffixWhole (form : List ℕ) (term : Term) : Type 0 where
  suffix : List ℕ
  spells : SpellsSuffix suffix form term
  stops : SuffixStops spells []
  whole : term_text term ≡ string_text form ++ suffix

no_carets : (more : List ℕ) → AfterCarets [] more → ⊥
no_carets more a = absurd (omega (arith, ap length a.whole, length-append a.gap (0x5E ∷ 0x5E ∷ (a.space ++ more))))

no_at : (more : List ℕ) → AfterAt [] more → ⊥
no_at more a = absurd (omega (arith, ap length a.whole, length-append a.gap (0x40 ∷ more)))

plain_whole : (form : List ℕ) → SuffixWhole form (Plain form)
plain_whole form = record {
  suffix = [];
  spells = plain refl;
  stops = record { no_datatype = no_carets; no_tag = no_at };
  whole = sym (append-nil (string_text form));
}

typed_whole : (form iri_piece datatype : List ℕ) → SpellsIri iri_piece datatype → (datatype ≡ xsd_string → ⊥) → SuffixWhole form (Typed form datatype)
typed_whole form iri_piece datatype s other = record {
  suffix = 0x5E ∷ 0x5E ∷ iri_text datatype;
  spells = typed (record { gap = []; space = []; before = refl; between = refl; whole = refl }) (iri_again iri_piece datatype s) (record { plain = λ e. absurd (other e); typed = λ _. refl });
  stops = tt;
  whole = refl;
}

tagged_whole : (form tag : List ℕ) → IsTag tag → SuffixWhole form (Lang form (map to_ascii_lowercase tag))
tagged_whole form tag is =
    let low : List ℕ = map to_ascii_lowercase tag in
    subst (λ t. SuffixWhole form (Lang form t)) (lower_twice tag) (record {
      suffix = 0x40 ∷ map to_ascii_lowercase tag;
      spells = tagged {tag = map to_ascii_lowercase tag} (record { gap = []; before = refl; whole = refl }) (lower_tag tag is);
      stops = record { last = tt; dash = tt };
      whole = ap (λ t. string_text form ++ 0x40 ∷ t) (lower_twice tag);
    })

suffix_whole : (suffix form : List ℕ) (term : Term) → SpellsSuffix suffix form term → SuffixWhole form term
suffix_whole suffix form term (plain whole) = plain_whole form
suffix_whole suffix form term (typed {iri = piece} {datatype = datatype} carets spells has) =
    ⊎_elim
    (λ e. subst (SuffixWhole form) (sym (has.plain ((bytes_decides datatype xsd_string).0 e))) (plain_whole form))
    (λ e. let other : datatype ≡ xsd_string → ⊥ = λ g. true≢false (sym ((bytes_decides datatype xsd_string).1 g) ∙ e) in
    subst (SuffixWhole form) (sym (has.typed other)) (typed_whole form piece datatype spells other))
    (cases_Bool (bytes_eq datatype xsd_string))
suffix_whole suffix form term (tagged {tag = tag} at is) = tagged_whole form tag is

pub spelled_whole : (piece : List ℕ) (term : Term) → Spells piece term → SpelledWhole term
spelled_whole piece term (iri {text = text} s) = record { spells = iri (iri_again piece text s); stops = tt }
spelled_whole piece term (blank {label = label} s) = record {
  spells = blank (record { first = s.first; others = s.others; begins = s.begins; each = s.each; ends = s.ends; whole = refl; says = s.says });
  stops = record { dots = []; after = []; each = refl; whole = refl; none = λ c more _ h. no_char c more h };
}
spelled_whole piece term (literal {string = string} {form = form} {suffix = suffix} spells rest whole) =
    let w = suffix_whole suffix form term rest in
    record { spells = literal (string_again string form spells) w.spells w.whole; stops = w.stops }

-- what was appended is read as the term
pub read_again : (term : Term) (old new : List ℕ) → new ≡ old ++ term_text term → CanBeSpelled term → Reads new (length old) term (length new)
read_again term old new e can =
    let w = spelled_whole can.piece term can.spells in
    record {
      piece = term_text term;
      rest = [];
      spells = w.spells;
      stops = w.stops;
      here = ap (drop (length old)) e ∙ (drop_at old (term_text term) (length old) refl ∙ sym (append-nil (term_text term)));
      ends = ap length e ∙ length-append old (term_text term);
    }
