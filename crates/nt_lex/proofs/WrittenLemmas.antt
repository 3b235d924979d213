-- One reading of characters as they are written, and runs of raw ones.
use Rattle.std.proofs.Common.{◌≡◌, ◌≢◌, ℕ, ◌+◌, ◌-◌, ◌<◌, ◌≤◌, Bool, true, false, not, ◌&&◌, List, [], ◌∷◌, ◌++◌, length, get_or, take, drop, map, refl, sym, ap, ap₂, ◌∙◌, subst, inl, inr, arith, append_assoc, slice_range, IsUtf8, lit<}
use Rattle.std.proofs.lemmas.Bool.{and_parts, and_from, not-true, not-false, cases_lt, eqb-true}
use Rattle.std.proofs.lemmas.List.{take_at, drop_more, length-take-le, get_or-take, get_or-drop, length-drop, drop-drop, take-append-drop}
use Rattle.std.proofs.lemmas.List.Elements.{All-head, All-tail, All-from_get_or}
use Rattle.std.proofs.lemmas.Str.{encode_same, char_from_byte, encode_ascii, IsUtf8-take, IsUtf8-drop, IsCharBoundary-before_ascii, IsCharBoundary-end}
use Rattle.std.specs.Str.{IsCharBoundary}
use Rattle.nt_lex.specs.Scans.{IsRunAt}
use Rattle.std.specs.List.{list_all, AllPass}
use lib.Utf8.{scalar, scalars, encode, encodes}
use Rattle.std.specs.Str.Parse.{digits_value}
use Rattle.nt_lex.specs.Written.{Written, Raw, Short, Long, Letter, spelled, is_code, is_uchar, may_stand, spelling, meaning, Stops, Runs, EscapeAt}

-- fronts of one length
pub same_front : (a b r t : List ℕ) → length a ≡ length b → a ++ r ≡ b ++ t → (a ≡ b) × (r ≡ t)
same_front [] [] r t l e = (refl, e)
same_front [] (y ∷ b) r t l e = absurd (cc)
same_front (x ∷ a) [] r t l e = absurd (cc)
same_front (x ∷ a) (y ∷ b) r t l e =
    let p = same_front a b r t (cc) (cc) in (cc, p.1)

code_length : (n : ℕ) (ds es : List ℕ) → is_code n ds ≡ true → is_code n es ≡ true → length ds ≡ length es
unfolding is_code
code_length n ds es a b =
    eqb-true _ _ (and_parts _ _ (and_parts _ _ a).0).0 ∙ sym (eqb-true _ _ (and_parts _ _ (and_parts _ _ b).0).0)

-- the bytes after a backslash
second : (x y : ℕ) (xs ys : List ℕ) → 0x5C ∷ x ∷ xs ≡ 0x5C ∷ y ∷ ys → x ≡ y
second x y xs ys e = ap (λ l. get_or l 1 0) e

All-append-right : (p : ℕ → Bool) (xs ys : List ℕ) → AllPass p (xs ++ ys) → AllPass p ys
All-append-right p [] ys h = h
All-append-right p (x ∷ xs) ys h = All-append-right p xs ys (All-tail (λ b. p b ≡ true) x (xs ++ ys) h)

apart : (a b : ℕ) → a ≡ b → a ≡ 0x75 → b ≡ 0x55 → ⊥
apart a b e p q = omega arith

pub true_false : true ≡ false → ⊥
true_false e = cc

module _ (excluded letters : ℕ → Bool) (ex : excluded 0x5C ≡ true) (small : letters 0x75 ≡ false) (large : letters 0x55 ≡ false) where
  abbrev may : Written → Bool
  may = may_stand excluded letters

  raw_is_no_escape : (c : ℕ) (r more : List ℕ) → (scalar c && not (excluded c)) ≡ true → encode c ++ r ≡ 0x5C ∷ more → ⊥
  raw_is_no_escape c r more a e =
      let is : c ≡ 0x5C = char_from_byte (0x5C ∷ more) r c (sym e) (lit< tt) (omega arith) in
      let out : excluded c ≡ false = not-true _ (and_parts (scalar c) (not (excluded c)) a).1 in
      true_false (sym ex ∙ sym (ap excluded is) ∙ out)

  pub one_char : (w v : Written) (r t : List ℕ) → may w ≡ true → may v ≡ true → spelled w ++ r ≡ spelled v ++ t → (w ≡ v) × (r ≡ t)
  one_char (Raw c) (Raw d) r t a b e = let p = encode_same c d r t e in (ap Raw p.0, p.1)
  one_char (Raw c) (Short ds) r t a b e = absurd (raw_is_no_escape c r _ a e)
  one_char (Raw c) (Long ds) r t a b e = absurd (raw_is_no_escape c r _ a e)
  one_char (Raw c) (Letter l) r t a b e = absurd (raw_is_no_escape c r _ a e)
  one_char (Short ds) (Raw d) r t a b e = absurd (raw_is_no_escape d t _ b (sym e))
  one_char (Short ds) (Short es) r t a b e = let p = same_front ds es r t (code_length 4 ds es a b) (ap (drop 2) e) in (ap Short p.0, p.1)
  one_char (Short ds) (Long es) r t a b e = absurd (apart _ _ (second _ _ _ _ e) refl refl)
  one_char (Short ds) (Letter l) r t a b e = absurd (true_false (sym b ∙ ap letters (sym (second _ _ _ _ e)) ∙ small))
  one_char (Long ds) (Raw d) r t a b e = absurd (raw_is_no_escape d t _ b (sym e))
  one_char (Long ds) (Short es) r t a b e = absurd (apart _ _ (sym (second _ _ _ _ e)) refl refl)
  one_char (Long ds) (Long es) r t a b e = let p = same_front ds es r t (code_length 8 ds es a b) (ap (drop 2) e) in (ap Long p.0, p.1)
  one_char (Long ds) (Letter l) r t a b e = absurd (true_false (sym b ∙ ap letters (sym (second _ _ _ _ e)) ∙ large))
  one_char (Letter l) (Raw d) r t a b e = absurd (raw_is_no_escape d t _ b (sym e))
  one_char (Letter l) (Short es) r t a b e = absurd (true_false (sym a ∙ ap letters (second _ _ _ _ e) ∙ small))
  one_char (Letter l) (Long es) r t a b e = absurd (true_false (sym a ∙ ap letters (second _ _ _ _ e) ∙ large))
  one_char (Letter l) (Letter k) r t a b e = (ap Letter (second _ _ _ _ e), ap (drop 2) e)

  pub one_run : (ws vs : List Written) (r t : List ℕ) → list_all may ws ≡ true → list_all may vs ≡ true
      → Stops may r → Stops may t → spelling ws ++ r ≡ spelling vs ++ t → (ws ≡ vs) × (r ≡ t)
  one_run [] [] r t a b sr st e = (refl, e)
  one_run [] (v ∷ vs) r t a b sr st e =
      absurd (sr.none v (spelling vs ++ t) (and_parts _ _ b).0 (e ∙ append_assoc (spelled v) (spelling vs) t))
  one_run (w ∷ ws) [] r t a b sr st e =
      absurd (st.none w (spelling ws ++ r) (and_parts _ _ a).0 (sym e ∙ append_assoc (spelled w) (spelling ws) r))
  one_run (w ∷ ws) (v ∷ vs) r t a b sr st e =
      let p = one_char w v (spelling ws ++ r) (spelling vs ++ t) (and_parts _ _ a).0 (and_parts _ _ b).0
      (sym (append_assoc (spelled w) (spelling ws) r) ∙ e ∙ append_assoc (spelled v) (spelling vs) t) in
      let q = one_run ws vs r t (and_parts _ _ a).1 (and_parts _ _ b).1 sr st p.1 in
      (ap₂ (λ x xs. x ∷ xs) p.0 q.0, q.1)

  -- there is one longest run
  pub Runs_once : (bytes : List ℕ) (ws vs : List Written) (r t : List ℕ) → Runs may bytes ws r → Runs may bytes vs t → (ws ≡ vs) × (r ≡ t)
  Runs_once bytes ws vs r t x y = one_run ws vs r t x.each y.each x.stops y.stops (sym x.whole ∙ y.whole)

  -- a run of bytes that are not excluded is raw characters
  module _ (high : (c : ℕ) → 128 ≤ c → excluded c ≡ false) where
    raw_run : (cs : List ℕ) → scalars cs ≡ true → AllPass (λ b. not (excluded b)) (encodes cs)
        → (list_all may (map Raw cs) ≡ true) × (spelling (map Raw cs) ≡ encodes cs) × (meaning (map Raw cs) ≡ encodes cs)
    raw_run [] s p = (refl, refl, refl)
    raw_run (c ∷ cs) s p =
        let parts = and_parts (scalar c) (scalars cs) s in
        let q = raw_run cs parts.1 (All-append-right (λ b. not (excluded b)) (encode c) (encodes cs) p) in
        let out : not (excluded c) ≡ true = elim (cases_lt c 128) [
          | inl low ↦ All-head (λ b. not (excluded b) ≡ true) c (encodes cs) (subst (λ (l : List ℕ). AllPass (λ b. not (excluded b)) (l ++ encodes cs)) (encode_ascii c low) p)
          | inr up ↦ ap not (high c up)
        ] in
        (and_from _ _ (and_from _ _ parts.0 out) q.0, ap (λ l. encode c ++ l) q.1, ap (λ l. encode c ++ l) q.2)

    low_stop : (b : ℕ) → excluded b ≡ true → b < 128
    low_stop b e = elim (cases_lt b 128) [ inl low ↦ low | inr up ↦ absurd (true_false (sym e ∙ high b up)) ]

    -- what is excluded, and begins no escape, stops a run
    pub stop_byte : (b : ℕ) (rest more : List ℕ) (w : Written) → excluded b ≡ true → b ≢ 0x5C → may w ≡ true → b ∷ rest ≡ spelled w ++ more → ⊥
    stop_byte b rest more (Raw c) ex other m e =
        let is : c ≡ b = char_from_byte (b ∷ rest) more c e (low_stop b ex) (omega arith) in
        let out : excluded c ≡ false = not-true _ (and_parts (scalar c) (not (excluded c)) m).1 in
        true_false (sym ex ∙ sym (ap excluded is) ∙ out)
    stop_byte b rest more (Short ds) ex other m e = other (ap (λ l. get_or l 0 0) e)
    stop_byte b rest more (Long ds) ex other m e = other (ap (λ l. get_or l 0 0) e)
    stop_byte b rest more (Letter l) ex other m e = other (ap (λ l. get_or l 0 0) e)

    -- the bytes between two places of a text, where the second is its end or has a byte that is excluded
    module _ (line : List ℕ) (from end : ℕ) (utf : IsUtf8 (drop from line)) (run : IsRunAt (λ b. not (excluded b)) line from end) where
      back : from + (end - from) ≡ end
      back = omega (arith, run.ordered)

      seam : IsCharBoundary (drop from line) (end - from)
      seam = elim (cases_lt end (length line)) [
        | inl inside ↦ IsCharBoundary-before_ascii (drop from line) (end - from) (omega (arith, run.ordered, length-drop from line))
            (rw (get_or-drop, back) (low_stop _ (not-false _ (run.stops inside))))
        | inr past ↦ subst (IsCharBoundary (drop from line)) (let e : length (drop from line) ≡ end - from = omega (arith, run.in_range, length-drop from line) in e) (IsCharBoundary-end (drop from line))
      ]

      pub utf_after : IsUtf8 (drop end line)
      utf_after = subst IsUtf8 (drop-drop (end - from) from line ∙ ap (λ n. drop n line) back) (IsUtf8-drop (drop from line) (end - from) utf seam)

      passes : AllPass (λ b. not (excluded b)) (slice_range line from end)
      passes = All-from_get_or (λ v. not (excluded v) ≡ true) _ 0 λ i below.
          let inside : i < end - from = omega (arith, length-take-le (end - from) (drop from line) (omega (arith, run.in_range, run.ordered, length-drop from line))) in
          rw (get_or-take, get_or-drop) (run.pass (from + i) (omega arith) (omega arith))

      pub run_step : (ws : List Written) × (list_all may ws ≡ true) × (drop from line ≡ spelling ws ++ drop end line) × (slice_range line from end ≡ meaning ws)
      run_step =
          let u = IsUtf8-take (drop from line) (end - from) utf seam in
          let q = raw_run u.0 u.1.0 (subst (AllPass (λ b. not (excluded b))) (sym u.1.1) passes) in (
            map Raw u.0,
            q.0,
            sym (take-append-drop (end - from) (drop from line)) ∙ ap₂ (λ (a b : List ℕ). a ++ b) (sym (q.1 ∙ u.1.1)) (drop-drop (end - from) from line ∙ ap (λ n. drop n line) back),
            sym (q.2 ∙ u.1.1),
          )

-- a UCHAR is where its letter and its digits are
module _ (line : List ℕ) (at : ℕ) (inside : at < length line) (slash : get_or line at 0 ≡ 0x5C) where
  front : (letter : ℕ) → at + 1 < length line → get_or line (at + 1) 0 ≡ letter → drop at line ≡ 0x5C ∷ letter ∷ drop (at + 2) line
  front letter more is =
      drop_more line at 0 inside ∙ ap₂ (λ x (xs : List ℕ). x ∷ xs) slash
      (drop_more line (at + 1) 0 more ∙ ap₂ (λ x (xs : List ℕ). x ∷ xs) is (let e : at + 1 + 1 ≡ at + 2 = omega arith in ap (λ n. drop n line) e))

  digits_then : (n : ℕ) → drop (at + 2) line ≡ take n (drop (at + 2) line) ++ drop (at + 2 + n) line
  digits_then n = sym (take-append-drop n (drop (at + 2) line)) ∙ ap (λ (r : List ℕ). take n (drop (at + 2) line) ++ r) (drop-drop n (at + 2) line)

  pub uchar_short : at + 2 + 4 ≤ length line → get_or line (at + 1) 0 ≡ 0x75 → is_code 4 (take 4 (drop (at + 2) line)) ≡ true
      → EscapeAt is_uchar line at (digits_value 16 (take 4 (drop (at + 2) line))) (at + 2 + 4)
  uchar_short room is code = record {
    written = Short (take 4 (drop (at + 2) line));
    may_be = code;
    whole = front 0x75 (omega arith) is ∙ ap (λ r. 0x5C ∷ 0x75 ∷ r) (digits_then 4);
    means = refl;
    ordered = omega arith;
    within = room;
  }

  pub uchar_long : at + 2 + 8 ≤ length line → get_or line (at + 1) 0 ≡ 0x55 → is_code 8 (take 8 (drop (at + 2) line)) ≡ true
      → EscapeAt is_uchar line at (digits_value 16 (take 8 (drop (at + 2) line))) (at + 2 + 8)
  uchar_long room is code = record {
    written = Long (take 8 (drop (at + 2) line));
    may_be = code;
    whole = front 0x55 (omega arith) is ∙ ap (λ r. 0x5C ∷ 0x55 ∷ r) (digits_then 8);
    means = refl;
    ordered = omega arith;
    within = room;
  }

  letter_is : (l : ℕ) (ds more : List ℕ) → drop at line ≡ 0x5C ∷ l ∷ ds ++ more → get_or line (at + 1) 0 ≡ l
  letter_is l ds more e = sym (get_or-drop at line 1 0) ∙ ap (λ b. get_or b 1 0) e

  digits_are : (n l : ℕ) (ds more : List ℕ) → length ds ≡ n → drop at line ≡ 0x5C ∷ l ∷ ds ++ more → take n (drop (at + 2) line) ≡ ds
  digits_are n l ds more long e = ap (take n) (sym (drop-drop 2 at line) ∙ ap (drop 2) e) ∙ take_at ds more n long

  code_long : (n : ℕ) (ds : List ℕ) → is_code n ds ≡ true → length ds ≡ n
  unfolding is_code
  code_long n ds a = eqb-true _ _ (and_parts _ _ (and_parts _ _ a).0).0

  no_uchar : (get_or line (at + 1) 0 ≡ 0x75 → is_code 4 (take 4 (drop (at + 2) line)) ≡ false)
      → (get_or line (at + 1) 0 ≡ 0x55 → is_code 8 (take 8 (drop (at + 2) line)) ≡ false)
      → (w : Written) (more : List ℕ) → is_uchar w ≡ true → drop at line ≡ spelled w ++ more → ⊥
  no_uchar short long (Raw c) more m e = true_false (sym m)
  no_uchar short long (Letter l) more m e = true_false (sym m)
  no_uchar short long (Short ds) more m e =
      true_false (sym m ∙ ap (is_code 4) (sym (digits_are 4 0x75 ds more (code_long 4 ds m) e)) ∙ short (letter_is 0x75 ds more e))
  no_uchar short long (Long ds) more m e =
      true_false (sym m ∙ ap (is_code 8) (sym (digits_are 8 0x55 ds more (code_long 8 ds m) e)) ∙ long (letter_is 0x55 ds more e))

  pub uchar_stops : (get_or line (at + 1) 0 ≡ 0x75 → is_code 4 (take 4 (drop (at + 2) line)) ≡ false)
      → (get_or line (at + 1) 0 ≡ 0x55 → is_code 8 (take 8 (drop (at + 2) line)) ≡ false)
      → Stops is_uchar (drop at line)
  uchar_stops short long = record { none = no_uchar short long }
