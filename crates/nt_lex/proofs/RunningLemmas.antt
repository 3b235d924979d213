-- The steps of a loop over characters as they are written.
use Rattle.std.proofs.Common.{◌≡◌, ◌≢◌, ℕ, ◌+◌, ◌<◌, ◌≤◌, Bool, true, false, not, List, [], ◌∷◌, ◌++◌, length, get_or, drop, refl, sym, ap, ap₂, ◌∙◌, subst, inl, inr, arith, append_assoc, slice_range, IsUtf8, encode_utf8, lit<}
use Rattle.std.proofs.lemmas.Bool.{and_parts, and_from, not-true, not-false, cases_lt}
use Rattle.std.proofs.lemmas.Bool.Decides.{nat_tests}
use Rattle.std.proofs.lemmas.List.{append-nil, length-append, drop_more, drop_all}
use Rattle.std.proofs.lemmas.List.Concat.{flat_map-append}
use Rattle.std.proofs.lemmas.List.Folds.{list_all-append}
use Rattle.std.proofs.lemmas.Str.{char_from_byte, encode_ascii, IsUtf8-past_char, length-encode, len_utf8_bounds}
use Rattle.std.specs.List.{flat_map, list_all}
use Rattle.std.specs.Char.{is_digit}
use lib.Utf8.{scalar, encode}
use Rattle.nt_lex.specs.Scans.{IsRunAt}
use Rattle.nt_lex.specs.Written.{Written, Raw, Short, Long, Letter, spelled, meant, is_hex, is_code, is_uchar, may_stand, spelling, meaning, Stops, RunsTo, EscapeAt}
use Rattle.nt_lex.proofs.WrittenLemmas.{run_step, stop_byte, true_false}

-- as RunsTo, but the run may go on
pub record GoesTo (may : Written → Bool) (line : List ℕ) (from : ℕ) (text : List ℕ) (end : ℕ) : Type 0 where
  pub written : List Written
  pub each : list_all may written ≡ true
  pub whole : drop from line ≡ spelling written ++ drop end line
  pub says : text ≡ meaning written
  pub ordered : from ≤ end
  pub within : end ≤ length line

hex_low : (c : ℕ) → is_digit c 16 ≡ true → c < 128
hex_low c h = grind (arith, nat_tests)

pub past_byte : (b : ℕ) (rest : List ℕ) → b < 128 → IsUtf8 (b ∷ rest) → IsUtf8 rest
past_byte b rest low u = IsUtf8-past_char (b ∷ rest) rest b u (ap (λ (l : List ℕ). l ++ rest) (sym (encode_ascii b low)))

past_hex : (ds rest : List ℕ) → list_all is_hex ds ≡ true → IsUtf8 (ds ++ rest) → IsUtf8 rest
past_hex [] rest a u = u
past_hex (d ∷ ds) rest a u =
    let p = and_parts (is_hex d) (list_all is_hex ds) a in
    past_hex ds rest p.1 (past_byte d (ds ++ rest) (hex_low d p.0) u)

code_hex : (n : ℕ) (ds : List ℕ) → is_code n ds ≡ true → list_all is_hex ds ≡ true
unfolding is_code
code_hex n ds a = (and_parts _ _ (and_parts _ _ a).0).1

pub past_written : (excluded letters : ℕ → Bool) (low : (l : ℕ) → letters l ≡ true → l < 128) (w : Written) (rest : List ℕ)
    → may_stand excluded letters w ≡ true → IsUtf8 (spelled w ++ rest) → IsUtf8 rest
past_written excluded letters low (Raw c) rest m u = IsUtf8-past_char (encode c ++ rest) rest c u refl
past_written excluded letters low (Letter l) rest m u = past_byte l rest (low l m) (past_byte 0x5C (l ∷ rest) (lit< tt) u)
past_written excluded letters low (Short ds) rest m u = past_hex ds rest (code_hex 4 ds m) (past_byte 0x75 (ds ++ rest) (lit< tt) (past_byte 0x5C (0x75 ∷ ds ++ rest) (lit< tt) u))
past_written excluded letters low (Long ds) rest m u = past_hex ds rest (code_hex 8 ds m) (past_byte 0x55 (ds ++ rest) (lit< tt) (past_byte 0x5C (0x55 ∷ ds ++ rest) (lit< tt) u))

pub utf_past : (excluded letters : ℕ → Bool) (low : (l : ℕ) → letters l ≡ true → l < 128) (line : List ℕ) (at c end : ℕ)
    → EscapeAt (may_stand excluded letters) line at c end → IsUtf8 (drop at line) → IsUtf8 (drop end line)
utf_past excluded letters low line at c end e u = past_written excluded letters low e.written (drop end line) e.may_be (subst IsUtf8 e.whole u)

pub one_more : (f : Written → List ℕ) (ws : List Written) (w : Written) → flat_map f (ws ++ w ∷ []) ≡ flat_map f ws ++ f w
one_more f ws w = flat_map-append f ws (w ∷ []) ∙ ap (λ (l : List ℕ). flat_map f ws ++ l) (append-nil (f w))

module _ (excluded letters : ℕ → Bool) (ex : excluded 0x5C ≡ true) (small : letters 0x75 ≡ false) (large : letters 0x55 ≡ false)
    (high : (c : ℕ) → 128 ≤ c → excluded c ≡ false) where
  abbrev may : Written → Bool
  may = may_stand excluded letters

  allowed : (w : Written) → is_uchar w ≡ true → may w ≡ true
  allowed (Raw c) m = absurd (true_false (sym m))
  allowed (Short ds) m = m
  allowed (Long ds) m = m
  allowed (Letter l) m = absurd (true_false (sym m))

  pub escape_allowed : (line : List ℕ) (at c end : ℕ) → EscapeAt is_uchar line at c end → EscapeAt may line at c end
  escape_allowed line at c end e = record { written = e.written; may_be = allowed e.written e.may_be; whole = e.whole; means = e.means; ordered = e.ordered; within = e.within }

  -- a backslash and a letter
  pub letter_at : (line : List ℕ) (at : ℕ) → at + 1 < length line → get_or line at 0 ≡ 0x5C → letters (get_or line (at + 1) 0) ≡ true
      → EscapeAt may line at (meant (Letter (get_or line (at + 1) 0))) (at + 2)
  letter_at line at inside slash m = record {
    written = Letter (get_or line (at + 1) 0);
    may_be = m;
    whole = drop_more line at 0 (omega arith) ∙ ap₂ (λ x (xs : List ℕ). x ∷ xs) slash
        (drop_more line (at + 1) 0 inside ∙ (let e : at + 1 + 1 ≡ at + 2 = omega arith in ap (λ n. get_or line (at + 1) 0 ∷ drop n line) e));
    means = refl;
    ordered = omega arith;
    within = omega arith;
  }

  pub goes_start : (line : List ℕ) (from : ℕ) → from ≤ length line → GoesTo may line from [] from
  goes_start line from inside = record { written = []; each = refl; whole = refl; says = refl; ordered = omega arith; within = inside }

  pub goes_run : (line : List ℕ) (from : ℕ) (text : List ℕ) (mid end : ℕ) → GoesTo may line from text mid → IsUtf8 (drop mid line)
      → IsRunAt (λ b. not (excluded b)) line mid end → GoesTo may line from (text ++ slice_range line mid end) end
  goes_run line from text mid end g u run =
      let q = run_step excluded letters ex small large high line mid end u run in
      record {
        written = g.written ++ q.0;
        each = list_all-append may g.written q.0 ∙ and_from _ _ g.each q.1;
        whole = g.whole ∙ ap (λ (l : List ℕ). spelling g.written ++ l) q.2 ∙ sym (append_assoc (spelling g.written) (spelling q.0) (drop end line))
            ∙ ap (λ (l : List ℕ). l ++ drop end line) (sym (flat_map-append spelled g.written q.0));
        says = ap₂ (λ (a b : List ℕ). a ++ b) g.says q.3 ∙ sym (flat_map-append (λ w. encode_utf8 (meant w)) g.written q.0);
        ordered = omega (arith, g.ordered, run.ordered);
        within = run.in_range;
      }

  pub goes_escape : (line : List ℕ) (from : ℕ) (text : List ℕ) (mid c end : ℕ) → GoesTo may line from text mid
      → EscapeAt may line mid c end → GoesTo may line from (text ++ encode_utf8 c) end
  goes_escape line from text mid c end g e =
      record {
        written = g.written ++ e.written ∷ [];
        each = list_all-append may g.written (e.written ∷ []) ∙ and_from _ _ g.each (and_from _ _ e.may_be refl);
        whole = g.whole ∙ ap (λ (l : List ℕ). spelling g.written ++ l) e.whole ∙ sym (append_assoc (spelling g.written) (spelled e.written) (drop end line))
            ∙ ap (λ (l : List ℕ). l ++ drop end line) (sym (one_more spelled g.written e.written));
        says = ap₂ (λ (a b : List ℕ). a ++ b) g.says (ap encode_utf8 e.means) ∙ sym (one_more (λ w. encode_utf8 (meant w)) g.written e.written);
        ordered = omega (arith, g.ordered, e.ordered);
        within = e.within;
      }

  pub goes_end : (line : List ℕ) (from : ℕ) (text : List ℕ) (end : ℕ) → GoesTo may line from text end → Stops may (drop end line) → RunsTo may line from text end
  goes_end line from text end g stops = record {
    written = g.written;
    runs = record { each = g.each; whole = g.whole; stops = stops };
    says = g.says;
    ordered = g.ordered;
    within = g.within;
  }

  nothing : (w : Written) (more : List ℕ) → [] ≡ spelled w ++ more → ⊥
  nothing (Raw c) more e =
      let n : length (encode c ++ more) ≡ 0 = ap length (sym e) in
      omega (arith, n, length-append (encode c) more, length-encode c, (len_utf8_bounds c).0)
  nothing (Short ds) more e = cc
  nothing (Long ds) more e = cc
  nothing (Letter l) more e = cc

  pub stops_nil : (line : List ℕ) (end : ℕ) → length line ≤ end → Stops may (drop end line)
  stops_nil line end past = record { none = λ w more m e. nothing w more (sym (drop_all end line past) ∙ e) }

  pub stops_byte : (line : List ℕ) (end : ℕ) → end < length line → excluded (get_or line end 0) ≡ true → get_or line end 0 ≢ 0x5C → Stops may (drop end line)
  stops_byte line end inside out other = record {
    none = λ w more m e. stop_byte excluded letters ex small large high (get_or line end 0) (drop (end + 1) line) more w out other m (sym (drop_more line end 0 inside) ∙ e);
  }

  -- a run that no backslash follows stands for itself
  pub runs_raw : (line : List ℕ) (from end : ℕ) → from ≤ length line → IsUtf8 (drop from line) → IsRunAt (λ b. not (excluded b)) line from end
      → (end < length line → get_or line end 0 ≢ 0x5C) → RunsTo may line from (slice_range line from end) end
  runs_raw line from end inside u run other =
      goes_end line from (slice_range line from end) end (goes_run line from [] from end (goes_start line from inside) u run)
      (elim (cases_lt end (length line)) [
        | inl before ↦ stops_byte line end before (not-false _ (run.stops before)) (other before)
        | inr past ↦ stops_nil line end past
      ])

  no_escape : (line : List ℕ) (end : ℕ) → end < length line → get_or line end 0 ≡ 0x5C → Stops is_uchar (drop end line)
      → ((l : ℕ) (more : List ℕ) → letters l ≡ true → drop end line ≢ 0x5C ∷ l ∷ more)
      → (w : Written) (more : List ℕ) → may w ≡ true → drop end line ≡ spelled w ++ more → ⊥
  no_escape line end inside slash s none (Raw c) more m e =
      let is : c ≡ 0x5C = char_from_byte (0x5C ∷ drop (end + 1) line) more c (ap (λ b. b ∷ drop (end + 1) line) (sym slash) ∙ sym (drop_more line end 0 inside) ∙ e) (lit< tt) (omega arith) in
      let out : excluded c ≡ false = not-true _ (and_parts (scalar c) (not (excluded c)) m).1 in
      true_false (sym ex ∙ sym (ap excluded is) ∙ out)
  no_escape line end inside slash s none (Short ds) more m e = s.none (Short ds) more m e
  no_escape line end inside slash s none (Long ds) more m e = s.none (Long ds) more m e
  no_escape line end inside slash s none (Letter l) more m e = none l more m e

  pub stops_escape : (line : List ℕ) (end : ℕ) → end < length line → get_or line end 0 ≡ 0x5C → Stops is_uchar (drop end line)
      → ((l : ℕ) (more : List ℕ) → letters l ≡ true → drop end line ≢ 0x5C ∷ l ∷ more) → Stops may (drop end line)
  stops_escape line end inside slash s none = record { none = no_escape line end inside slash s none }
