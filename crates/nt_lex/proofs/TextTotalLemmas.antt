-- IRIs and strings: each text reads or fails.
use Rattle.std.proofs.Common.{◌≡◌, ℕ, zero, suc, ◌+◌, ◌<◌, ◌≤◌, Bool, true, false, not, eqb, cond, List, [], ◌∷◌, ◌++◌, length, get_or, take, drop, IsUtf8, ◌⊎◌, inl, inr, refl, sym, ap, ◌∙◌, subst, arith, append_assoc, lit<}
use Rattle.std.proofs.lemmas.Bool.{and_parts, and_from, cases_Bool, cases_lt, cases_eq, eqb-true, ne_eqb}
use Rattle.std.proofs.lemmas.List.{length-append, length-drop, get_or_past, length-take}
use Rattle.std.proofs.lemmas.Str.{encode_ascii, length-encode, len_utf8_bounds}
use lib.Utf8.{scalars, encode, encodes}
use Rattle.gk_base.specs.declared.lex_fault.LexFault.{LexFault}
use Rattle.gk_base.specs.declared.lex_fault.LexFault.TheVariants.{BadIri, RelativeIri, BadEscape}
use Rattle.nt_lex.specs.Chars.{is_iri_excluded, is_string_excluded, is_escape_letter, is_absolute}
use Rattle.nt_lex.specs.Written.{Written, Raw, spelled, may_stand, is_no_letter, is_code, in_iri, in_string, spelling, meaning, Stops, Runs, EscapeAt}
use Rattle.nt_lex.specs.Spelling.{SpellsIri, SpellsString}
use Rattle.nt_lex.specs.Reading.{iri_fault, IriFails, string_fault, StringFails}
use Rattle.nt_lex.proofs.CharLemmas.{high_iri, high_string, low_letter}
use Rattle.nt_lex.proofs.WrittenLemmas.{true_false, stop_byte, uchar_short, uchar_long, uchar_stops}
use Rattle.nt_lex.proofs.RunningLemmas.{past_written, escape_allowed, letter_at, past_byte, stops_nil, stops_escape}

code_size : (n : ℕ) (digits : List ℕ) → is_code n digits ≡ true → length digits ≡ n
unfolding is_code
code_size n digits a = eqb-true _ _ (and_parts _ _ (and_parts _ _ a).0).0

-- a character that may stand there comes next, and a shorter text follows
record Next (may : Written → Bool) (bytes : List ℕ) : Type 0 where
  w : Written
  more : List ℕ
  may_be : may w ≡ true
  whole : bytes ≡ spelled w ++ more
  utf8 : IsUtf8 more
  shorter : length more < length bytes

-- the longest run, and the text that follows
record RunOf (may : Written → Bool) (bytes : List ℕ) : Type 0 where
  written : List Written
  rest : List ℕ
  runs : Runs may bytes written rest
  utf8 : IsUtf8 rest

module _ (excluded letters : ℕ → Bool) (ex : excluded 0x5C ≡ true) (small : letters 0x75 ≡ false) (large : letters 0x55 ≡ false)
    (high : (c : ℕ) → 128 ≤ c → excluded c ≡ false) (low : (l : ℕ) → letters l ≡ true → l < 128) (none : letters 0 ≡ false) where
  abbrev may : Written → Bool
  may = may_stand excluded letters

  escape_next : (bytes : List ℕ) (c end : ℕ) → IsUtf8 bytes → EscapeAt may bytes 0 c end → Next may bytes
  escape_next bytes c end u e = record {
    w = e.written;
    more = drop end bytes;
    may_be = e.may_be;
    whole = e.whole;
    utf8 = past_written excluded letters low e.written (drop end bytes) e.may_be (subst IsUtf8 e.whole u);
    shorter = omega (arith, e.ordered, e.within, length-drop end bytes);
  }

  room : (n : ℕ) (bytes : List ℕ) → is_code n (take n (drop 2 bytes)) ≡ true → 0 < n → 2 + n ≤ length bytes
  room n bytes code some = elim (cases_lt (length (drop 2 bytes)) n) [
    | inl short ↦ absurd (omega (arith, code_size n (take n (drop 2 bytes)) code, length-take n (drop 2 bytes), short))
    | inr long ↦ omega (arith, long, length-drop 2 bytes)
  ]

  uchar_next : (bytes : List ℕ) → IsUtf8 bytes → 0 < length bytes → get_or bytes 0 0 ≡ 0x5C → letters (get_or bytes 1 0) ≡ false → Next may bytes ⊎ Stops may bytes
  uchar_next bytes u some slash isnt =
      let stops = λ (short : get_or bytes 1 0 ≡ 0x75 → is_code 4 (take 4 (drop 2 bytes)) ≡ false) (long : get_or bytes 1 0 ≡ 0x55 → is_code 8 (take 8 (drop 2 bytes)) ≡ false).
      stops_escape excluded letters ex small large high bytes 0 some slash (uchar_stops bytes 0 some slash short long)
      (λ l more m e. true_false (sym m ∙ ap letters (sym (ap (λ (b : List ℕ). get_or b 1 0) e)) ∙ isnt)) in
      elim (cases_eq (get_or bytes 1 0) 0x75) [
        | inl is ↦ elim (cases_Bool (is_code 4 (take 4 (drop 2 bytes)))) [
          | inl code ↦ inl (escape_next bytes _ 6 u (escape_allowed excluded letters ex small large high bytes 0 _ 6 (uchar_short bytes 0 some slash (room 4 bytes code (lit< tt)) is code)))
          | inr bad ↦ inr (stops (λ _. bad) (λ other. absurd (omega (arith, is, other))))
        ]
        | inr other ↦ elim (cases_eq (get_or bytes 1 0) 0x55) [
          | inl is ↦ elim (cases_Bool (is_code 8 (take 8 (drop 2 bytes)))) [
            | inl code ↦ inl (escape_next bytes _ 10 u (escape_allowed excluded letters ex small large high bytes 0 _ 10 (uchar_long bytes 0 some slash (room 8 bytes code (lit< tt)) is code)))
            | inr bad ↦ inr (stops (λ is75. absurd (other is75)) (λ _. bad))
          ]
          | inr neither ↦ inr (stops (λ is. absurd (other is)) (λ is. absurd (neither is)))
        ]
      ]

  -- after a backslash
  slash_next : (bytes : List ℕ) → IsUtf8 bytes → 0 < length bytes → get_or bytes 0 0 ≡ 0x5C → Next may bytes ⊎ Stops may bytes
  slash_next bytes u some slash = elim (cases_Bool (letters (get_or bytes 1 0))) [
    | inl is ↦ inl (elim (cases_lt 1 (length bytes)) [
      | inl inside ↦ escape_next bytes _ 2 u (letter_at excluded letters ex small large high bytes 0 inside slash is)
      | inr past ↦ absurd (true_false (sym is ∙ ap letters (get_or_past bytes 1 0 past) ∙ none))
    ])
    | inr isnt ↦ uchar_next bytes u some slash isnt
  ]

  low_excluded : (c : ℕ) → excluded c ≡ true → c < 128
  low_excluded c is = elim (cases_lt c 128) [ inl less ↦ less | inr up ↦ absurd (true_false (sym is ∙ high c up)) ]

  next_of : (cs : List ℕ) → scalars cs ≡ true → (bytes : List ℕ) → encodes cs ≡ bytes → Next may bytes ⊎ Stops may bytes
  next_of [] s bytes e = inr (subst (Stops may) e (stops_nil excluded letters ex small large high [] 0 (omega arith)))
  next_of (c ∷ cs) s bytes e = elim (cases_Bool (excluded c)) [
    | inr isnt ↦ inl (record {
      w = Raw c;
      more = encodes cs;
      may_be = and_from _ _ (and_parts _ _ s).0 (ap not isnt);
      whole = sym e;
      utf8 = (cs, ((and_parts _ _ s).1, refl));
      shorter = omega (arith, ap length e, length-append (encode c) (encodes cs), length-encode c, (len_utf8_bounds c).0);
    })
    | inl is ↦
        let bytes_are : bytes ≡ c ∷ encodes cs = sym e ∙ ap (λ (l : List ℕ). l ++ encodes cs) (encode_ascii c (low_excluded c is)) in
        elim (cases_eq c 0x5C) [
          | inl slash ↦ slash_next bytes (c ∷ cs, (s, e)) (omega (arith, ap length bytes_are)) (ap (λ (l : List ℕ). get_or l 0 0) bytes_are ∙ slash)
          | inr other ↦ inr (record { none = λ w more m q. stop_byte excluded letters ex small large high c (encodes cs) more w is other m (sym bytes_are ∙ q) })
        ]
  ]

  ended : (bytes : List ℕ) → IsUtf8 bytes → Stops may bytes → RunOf may bytes
  ended bytes u s = record { written = []; rest = bytes; runs = record { each = refl; whole = refl; stops = s }; utf8 = u }

  longer : (bytes : List ℕ) (x : Next may bytes) → RunOf may x.more → RunOf may bytes
  longer bytes x r = record {
    written = x.w ∷ r.written;
    rest = r.rest;
    runs = record {
      each = and_from _ _ x.may_be r.runs.each;
      whole = x.whole ∙ ap (λ (l : List ℕ). spelled x.w ++ l) r.runs.whole ∙ sym (append_assoc (spelled x.w) (spelling r.written) r.rest);
      stops = r.runs.stops;
    };
    utf8 = r.utf8;
  }

  total_run : (n : ℕ) (bytes : List ℕ) → length bytes ≤ n → IsUtf8 bytes → RunOf may bytes
  total_run zero bytes le u = elim (next_of u.0 u.1.0 bytes u.1.1) [
    | inl x ↦ absurd (omega (arith, x.shorter, le))
    | inr s ↦ ended bytes u s
  ]
  total_run (suc n) bytes le u = elim (next_of u.0 u.1.0 bytes u.1.1) [
    | inl x ↦ longer bytes x (total_run n x.more (omega (arith, x.shorter, le)) x.utf8)
    | inr s ↦ ended bytes u s
  ]

-- after the `<` of an IRI
pub record IriFound (bytes : List ℕ) : Type 0 where
  pub text : List ℕ
  pub piece : List ℕ
  pub rest : List ℕ
  pub spells : SpellsIri piece text
  pub whole : 0x3C ∷ bytes ≡ piece ++ rest

no_relative : (x y : Bool) → y ≡ false → cond x BadEscape (cond y RelativeIri BadIri) ≡ RelativeIri → ⊥
no_relative true y n e = cc
no_relative false true n e = true_false n
no_relative false false n e = cc

iri_from : (bytes : List ℕ) (ws : List Written) (rest : List ℕ) → Runs in_iri bytes ws rest → IriFound bytes ⊎ ((f : LexFault) × IriFails bytes f)
iri_from bytes ws [] r = inr (BadIri, record { written = ws; rest = []; runs = r; cause = refl; relative = λ e. absurd (cc) })
iri_from bytes ws (b ∷ more) r = elim (cases_eq b 0x3E) [
  | inl is ↦ elim (cases_Bool (is_absolute (meaning ws))) [
    | inl abs ↦ inl (record {
      text = meaning ws;
      piece = 0x3C ∷ (spelling ws ++ 0x3E ∷ []);
      rest = more;
      spells = record { written = ws; each = r.each; whole = refl; says = refl; absolute = abs };
      whole = ap (λ (l : List ℕ). 0x3C ∷ l) (r.whole ∙ ap (λ x. spelling ws ++ x ∷ more) is ∙ sym (append_assoc (spelling ws) (0x3E ∷ []) more));
    })
    | inr relative ↦ inr (iri_fault (b ∷ more), record { written = ws; rest = b ∷ more; runs = r; cause = refl; relative = λ _. relative })
  ]
  | inr other ↦ inr (
    iri_fault (b ∷ more),
    record {
      written = ws;
      rest = b ∷ more;
      runs = r;
      cause = refl;
      relative = λ e. absurd (no_relative (eqb b 0x5C) (eqb b 0x3E) (ne_eqb _ _ other) e);
    },
  )
]

pub iri_total : (bytes : List ℕ) → IsUtf8 bytes → IriFound bytes ⊎ ((f : LexFault) × IriFails bytes f)
iri_total bytes u =
    let r = total_run is_iri_excluded is_no_letter refl refl refl high_iri (λ l e. absurd (true_false (sym e))) refl (length bytes) bytes (omega arith) u in
    iri_from bytes r.written r.rest r.runs

-- after the first `"` of a string
pub record StringFound (bytes : List ℕ) : Type 0 where
  pub form : List ℕ
  pub piece : List ℕ
  pub rest : List ℕ
  pub spells : SpellsString piece form
  pub whole : 0x22 ∷ bytes ≡ piece ++ rest
  pub utf8 : IsUtf8 rest

string_from : (bytes : List ℕ) (ws : List Written) (rest : List ℕ) → IsUtf8 rest → Runs in_string bytes ws rest → StringFound bytes ⊎ ((f : LexFault) × StringFails bytes f)
string_from bytes ws [] u r = inr (string_fault [], record { written = ws; rest = []; runs = r; open_still = λ more e. absurd (cc); cause = refl })
string_from bytes ws (b ∷ more) u r = elim (cases_eq b 0x22) [
  | inl is ↦ inl (record {
    form = meaning ws;
    piece = 0x22 ∷ (spelling ws ++ 0x22 ∷ []);
    rest = more;
    spells = record { written = ws; each = r.each; whole = refl; says = refl };
    whole = ap (λ (l : List ℕ). 0x22 ∷ l) (r.whole ∙ ap (λ x. spelling ws ++ x ∷ more) is ∙ sym (append_assoc (spelling ws) (0x22 ∷ []) more));
    utf8 = past_byte b more (omega (arith, is)) u;
  })
  | inr other ↦ inr (
    string_fault (b ∷ more),
    record {
      written = ws;
      rest = b ∷ more;
      runs = r;
      open_still = λ m e. other (ap (λ (l : List ℕ). get_or l 0 0) e);
      cause = refl;
    },
  )
]

pub string_total : (bytes : List ℕ) → IsUtf8 bytes → StringFound bytes ⊎ ((f : LexFault) × StringFails bytes f)
string_total bytes u =
    let r = total_run is_string_excluded is_escape_letter refl refl refl high_string low_letter refl (length bytes) bytes (omega arith) u in
    string_from bytes r.written r.rest r.utf8 r.runs
