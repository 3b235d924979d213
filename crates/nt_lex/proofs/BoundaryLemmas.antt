-- What spells a term ends where a character ends.
use Rattle.std.proofs.Common.{◌≡◌, ℕ, ◌+◌, ◌<◌, ◌≤◌, Bool, true, List, [], ◌∷◌, ◌++◌, length, drop, get_or, Result, Ok, Err, IfOk, IsUtf8, refl, sym, ap, ◌∙◌, subst, arith, append_assoc, lit<}
use Rattle.std.proofs.lemmas.Bool.{and_parts}
use Rattle.std.proofs.lemmas.Bool.Decides.{nat_tests}
use Rattle.std.proofs.lemmas.List.{length-append, length-drop, drop_at, drop-drop, get_or-drop}
use Rattle.std.proofs.lemmas.Str.{IsUtf8-drop, IsUtf8-past_char, IsCharBoundary-from_drop, IsCharBoundary-before_ascii}
use Rattle.std.specs.List.{list_all}
use Rattle.std.specs.Str.{IsCharBoundary}
use lib.Utf8.{encode, encodes}
use Rattle.gk_base.specs.declared.term.Term.{Term}
use Rattle.gk_base.specs.Answers.{LexStop, IsSo}
use Rattle.nt_lex.specs.Chars.{is_blank, is_letter, is_letter_or_digit, is_iri_excluded, is_string_excluded, is_escape_letter}
use Rattle.nt_lex.specs.Written.{Written, may_stand, is_no_letter, spelling, spelled}
use Rattle.nt_lex.specs.Spelling.{SpellsIri, SpellsString, SpellsLabel, is_subtag, dashed, IsTag, AfterCarets, AfterAt, SpellsSuffix, plain, typed, tagged, Spells, iri, blank, literal}
use Rattle.nt_lex.specs.Reading.{Reads, Says}
use Rattle.nt_lex.proofs.CharLemmas.{low_letter}
use Rattle.nt_lex.proofs.RunningLemmas.{past_byte, past_written}
use Rattle.nt_lex.proofs.WrittenLemmas.{true_false}
use Rattle.nt_lex.proofs.ReadingLemmas.{iri_head, string_head, label_head, literal_bytes}
use Rattle.nt_lex.proofs.TagLemmas.{subtag_all, primary_all}

pub blank_low : (b : ℕ) → is_blank b ≡ true → b < 128
blank_low b h = grind (arith, nat_tests)

letter_low : (b : ℕ) → is_letter b ≡ true → b < 128
letter_low b h = grind (arith, nat_tests)

subtag_low : (b : ℕ) → is_letter_or_digit b ≡ true → b < 128
subtag_low b h = grind (arith, nat_tests)

pub past_low : (p : ℕ → Bool) (low : (b : ℕ) → p b ≡ true → b < 128) (bs r : List ℕ) → list_all p bs ≡ true → IsUtf8 (bs ++ r) → IsUtf8 r
past_low p low [] r a u = u
past_low p low (b ∷ bs) r a u = past_low p low bs r (and_parts _ _ a).1 (past_byte b (bs ++ r) (low b (and_parts _ _ a).0) u)

past_all : (excluded letters : ℕ → Bool) (low : (l : ℕ) → letters l ≡ true → l < 128) (ws : List Written) (r : List ℕ)
    → list_all (may_stand excluded letters) ws ≡ true → IsUtf8 (spelling ws ++ r) → IsUtf8 r
past_all excluded letters low [] r a u = u
past_all excluded letters low (w ∷ ws) r a u =
    past_all excluded letters low ws r (and_parts _ _ a).1
    (past_written excluded letters low w (spelling ws ++ r) (and_parts _ _ a).0 (subst IsUtf8 (append_assoc (spelled w) (spelling ws) r) u))

past_chars : (cs r : List ℕ) → IsUtf8 (encodes cs ++ r) → IsUtf8 r
past_chars [] r u = u
past_chars (c ∷ cs) r u = past_chars cs r (IsUtf8-past_char (encodes (c ∷ cs) ++ r) (encodes cs ++ r) c u (append_assoc (encode c) (encodes cs) r))

past_dashed : (gs : List (List ℕ)) (r : List ℕ) → list_all is_subtag gs ≡ true → IsUtf8 (dashed gs ++ r) → IsUtf8 r
past_dashed [] r a u = u
past_dashed (g ∷ gs) r a u =
    past_dashed gs r (and_parts _ _ a).1
    (past_low is_letter_or_digit subtag_low g (dashed gs ++ r) (subtag_all g (and_parts _ _ a).0)
    (subst IsUtf8 (append_assoc g (dashed gs) r) (past_byte 0x2D ((g ++ dashed gs) ++ r) (lit< tt) u)))

past_tag : (tag r : List ℕ) → IsTag tag → IsUtf8 (tag ++ r) → IsUtf8 r
past_tag tag r is u =
    past_dashed is.subtags r is.groups
    (past_low is_letter letter_low is.primary (dashed is.subtags ++ r) (primary_all is.primary is.letters)
    (subst IsUtf8 (ap (λ (l : List ℕ). l ++ r) is.whole ∙ append_assoc is.primary (dashed is.subtags) r) u))

past_iri : (p t r : List ℕ) → SpellsIri p t → IsUtf8 (p ++ r) → IsUtf8 r
past_iri p t r x u =
    past_byte 0x3E r (lit< tt)
    (past_all is_iri_excluded is_no_letter (λ l e. absurd (true_false (sym e))) x.written (0x3E ∷ r) x.each
    (subst IsUtf8 (append_assoc (spelling x.written) (0x3E ∷ []) r)
    (past_byte 0x3C ((spelling x.written ++ 0x3E ∷ []) ++ r) (lit< tt) (subst (λ (l : List ℕ). IsUtf8 (l ++ r)) x.whole u))))

past_string : (p t r : List ℕ) → SpellsString p t → IsUtf8 (p ++ r) → IsUtf8 r
past_string p t r x u =
    past_byte 0x22 r (lit< tt)
    (past_all is_string_excluded is_escape_letter low_letter x.written (0x22 ∷ r) x.each
    (subst IsUtf8 (append_assoc (spelling x.written) (0x22 ∷ []) r)
    (past_byte 0x22 ((spelling x.written ++ 0x22 ∷ []) ++ r) (lit< tt) (subst (λ (l : List ℕ). IsUtf8 (l ++ r)) x.whole u))))

past_label : (p l r : List ℕ) → SpellsLabel p l → IsUtf8 (p ++ r) → IsUtf8 r
past_label p l r x u =
    past_chars (x.first ∷ x.others) r
    (subst (λ (q : List ℕ). IsUtf8 (q ++ r)) x.says
    (past_byte 0x3A (l ++ r) (lit< tt) (past_byte 0x5F (0x3A ∷ l ++ r) (lit< tt) (subst (λ (q : List ℕ). IsUtf8 (q ++ r)) x.whole u))))

past_carets : (bytes more r : List ℕ) → AfterCarets bytes more → IsUtf8 (bytes ++ r) → IsUtf8 (more ++ r)
past_carets bytes more r x u =
    past_low is_blank blank_low x.space (more ++ r) x.between
    (subst IsUtf8 (append_assoc x.space more r)
    (past_byte 0x5E ((x.space ++ more) ++ r) (lit< tt) (past_byte 0x5E (0x5E ∷ (x.space ++ more) ++ r) (lit< tt)
    (past_low is_blank blank_low x.gap (0x5E ∷ 0x5E ∷ (x.space ++ more) ++ r) x.before
    (subst IsUtf8 (ap (λ (l : List ℕ). l ++ r) x.whole ∙ append_assoc x.gap (0x5E ∷ 0x5E ∷ (x.space ++ more)) r) u)))))

past_at : (bytes more r : List ℕ) → AfterAt bytes more → IsUtf8 (bytes ++ r) → IsUtf8 (more ++ r)
past_at bytes more r x u =
    past_byte 0x40 (more ++ r) (lit< tt)
    (past_low is_blank blank_low x.gap (0x40 ∷ more ++ r) x.before
    (subst IsUtf8 (ap (λ (l : List ℕ). l ++ r) x.whole ∙ append_assoc x.gap (0x40 ∷ more) r) u))

past_suffix : (p form r : List ℕ) (t : Term) → SpellsSuffix p form t → IsUtf8 (p ++ r) → IsUtf8 r
past_suffix p form r t (plain e) u = subst (λ (l : List ℕ). IsUtf8 (l ++ r)) e u
past_suffix p form r t (typed {iri} {datatype} carets x d) u = past_iri iri datatype r x (past_carets p iri r carets u)
past_suffix p form r t (tagged {tag} at is) u = past_tag tag r is (past_at p tag r at u)

-- what follows a term in a text is a text
pub past_term : (p r : List ℕ) (t : Term) → Spells p t → IsUtf8 (p ++ r) → IsUtf8 r
past_term p r t (iri {text} x) u = past_iri p text r x u
past_term p r t (blank {label} x) u = past_label p label r x u
past_term p r t (literal {string} {form} {suffix} x s w) u =
    past_suffix suffix form r t s
    (past_string string form (suffix ++ r) x (subst IsUtf8 (ap (λ (l : List ℕ). l ++ r) w ∙ append_assoc string suffix r) u))

-- what follows a term in a line
pub rest_is : (line : List ℕ) (at end : ℕ) (t : Term) (x : Reads line at t end) → drop end line ≡ x.rest
rest_is line at end t x = ap (λ n. drop n line) x.ends ∙ sym (drop-drop (length x.piece) at line) ∙ ap (drop (length x.piece)) x.here ∙ drop_at x.piece x.rest (length x.piece) refl

pub ends_within : (line : List ℕ) (at end : ℕ) (t : Term) → at ≤ length line → Reads line at t end → end ≤ length line
ends_within line at end t inside x = omega (arith, x.ends, ap length x.here, length-append x.piece x.rest, length-drop at line)

pub ends_at_a_character : (line : List ℕ) (at end : ℕ) (t : Term) → IsUtf8 line → IsCharBoundary line at → Reads line at t end → IsCharBoundary line end
ends_at_a_character line at end t u b x =
    let rest : IsUtf8 x.rest = past_term x.piece x.rest t x.spells (subst IsUtf8 x.here (IsUtf8-drop line at u b)) in
    IsCharBoundary-from_drop line end (ends_within line at end t b.0 x) (subst IsUtf8 (sym (rest_is line at end t x)) rest)

-- so does what a reader answers
pub answer_boundary : (line : List ℕ) (at : ℕ) (r : Result (Term × ℕ) LexStop) → IsUtf8 line → at < length line → get_or line at 0 < 128 → IsSo (Says line at) r
    → IfOk r (λ x. IsCharBoundary line x.1)
answer_boundary line at (Ok x) u inside low so = ends_at_a_character line at x.1 x.0 u (IsCharBoundary-before_ascii line at inside low) so
answer_boundary line at (Err e) u inside low so = tt

-- where a term stands begins an ASCII byte
first_low : (b : ℕ) (l m : List ℕ) → l ≡ b ∷ m → b < 128 → (0 < length l) × (get_or l 0 0 < 128)
first_low b l m e low = (omega (arith, ap length e), omega (arith, ap (λ (x : List ℕ). get_or x 0 0) e))

term_low : (p r : List ℕ) (t : Term) → Spells p t → (0 < length (p ++ r)) × (get_or (p ++ r) 0 0 < 128)
term_low p r t (iri x) = first_low 0x3C (p ++ r) _ (iri_head r x) (lit< tt)
term_low p r t (blank x) = first_low 0x5F (p ++ r) _ (label_head r x) (lit< tt)
term_low p r t (literal {string} {form} {suffix} x s w) = first_low 0x22 (p ++ r) _ (literal_bytes p string suffix r w ∙ string_head (suffix ++ r) x) (lit< tt)

pub reads_low : (line : List ℕ) (at end : ℕ) (t : Term) → Reads line at t end → (at < length line) × (get_or line at 0 < 128)
reads_low line at end t x =
    let low = term_low x.piece x.rest t x.spells in
    let place : at + 0 ≡ at = omega arith in
    let same : get_or line at 0 ≡ get_or (x.piece ++ x.rest) 0 0 = ap (λ n. get_or line n 0) (sym place) ∙ sym (get_or-drop at line 0 0) ∙ ap (λ (l : List ℕ). get_or l 0 0) x.here in
    (omega (arith, low.0, ap length x.here, length-drop at line), omega (arith, low.1, same))

pub object_boundary : (line : List ℕ) (at : ℕ) (r : Result (Term × ℕ) LexStop) → IsUtf8 line → IsSo (Says line at) r → IfOk r (λ x. IsCharBoundary line x.1)
object_boundary line at (Ok x) u so =
    let low = reads_low line at x.1 x.0 so in
    ends_at_a_character line at x.1 x.0 u (IsCharBoundary-before_ascii line at low.0 low.1) so
object_boundary line at (Err e) u so = tt
