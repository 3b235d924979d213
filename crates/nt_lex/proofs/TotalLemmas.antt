-- Labels and terms: each place of a text reads or fails.
use Rattle.std.proofs.Common.{◌≡◌, ◌≢◌, ℕ, ◌+◌, Bool, true, false, List, [], ◌∷◌, ◌++◌, length, get_or, drop, IsUtf8, Result, Ok, Err, ◌⊎◌, inl, inr, refl, sym, ap, ◌∙◌, subst, arith, append_assoc}
use Rattle.std.proofs.lemmas.Bool.{and_parts, and_from, or_from, cases_Bool, cases_eq, eq-eqb, ne_eqb}
use Rattle.std.proofs.lemmas.List.{length-append}
use Rattle.std.proofs.lemmas.List.Folds.{list_all-append}
use Rattle.std.proofs.lemmas.Str.{encode_same, encodes-append, length-encode, len_utf8_bounds, IsUtf8-drop}
use Rattle.std.specs.Str.{IsCharBoundary}
use Rattle.std.specs.List.{list_all}
use lib.Utf8.{encode, encodes}
use Rattle.gk_base.specs.declared.term.Term.{Term}
use Rattle.gk_base.specs.declared.term.Term.TheVariants.{Iri, Blank}
use Rattle.gk_base.specs.declared.lex_fault.LexFault.{LexFault}
use Rattle.gk_base.specs.declared.lex_fault.LexFault.TheVariants.{ObjectExpected, BadBlankNodeLabel}
use Rattle.nt_lex.specs.Chars.{is_label_first, is_label_inner}
use Rattle.nt_lex.specs.Spelling.{SpellsLabel, Spells, iri, blank, literal}
use Rattle.nt_lex.specs.Reading.{LabelStops, TermStops, LabelFails, FailsFrom, no_term, bad_iri, bad_label, bad_string, bad_suffix, Says}
use Rattle.nt_lex.proofs.WrittenLemmas.{true_false}
use Rattle.nt_lex.proofs.RunningLemmas.{past_byte}
use Rattle.nt_lex.proofs.LabelLemmas.{is_dot, NoChar, NoLastDot, encodes_dots}
use Rattle.nt_lex.proofs.OthersLemmas.{nothing_before}
use Rattle.nt_lex.proofs.TextTotalLemmas.{iri_total, StringFound, string_total}
use Rattle.nt_lex.proofs.SuffixTotalLemmas.{suffix_total}

-- the longest run of characters
record CharSpan (p : ℕ → Bool) (cs : List ℕ) : Type 0 where
  front : List ℕ
  back : List ℕ
  each : list_all p front ≡ true
  whole : cs ≡ front ++ back
  stops : NoChar p (encodes back)

no_char_left : (c : ℕ) (more : List ℕ) → [] ≡ encode c ++ more → ⊥
no_char_left c more e = omega (arith, ap length e, length-append (encode c) more, length-encode c, (len_utf8_bounds c).0)

other_char : (p : ℕ → Bool) (d : ℕ) (ds : List ℕ) → p d ≡ false → NoChar p (encodes (d ∷ ds))
other_char p d ds isnt c more m e = true_false (sym m ∙ ap p (encode_same c d more (encodes ds) (sym e)).0 ∙ isnt)

char_span : (p : ℕ → Bool) (cs : List ℕ) → CharSpan p cs
char_span p [] = record { front = []; back = []; each = refl; whole = refl; stops = λ c more m e. no_char_left c more e }
char_span p (c ∷ cs) = elim (cases_Bool (p c)) [
  | inl is ↦ let s = char_span p cs in record { front = c ∷ s.front; back = s.back; each = and_from _ _ is s.each; whole = ap (λ (l : List ℕ). c ∷ l) s.whole; stops = s.stops }
  | inr isnt ↦ record { front = []; back = c ∷ cs; each = refl; whole = refl; stops = other_char p c cs isnt }
]

-- without the dots at the end
record Trimmed (cs : List ℕ) : Type 0 where
  others : List ℕ
  dots : List ℕ
  ends : NoLastDot others
  each : list_all is_dot dots ≡ true
  whole : cs ≡ others ++ dots

no_last_dot : (c d : ℕ) (ds : List ℕ) → NoLastDot (d ∷ ds) → NoLastDot (c ∷ d ∷ ds)
no_last_dot c d ds n [] e = omega (arith, ap length e)
no_last_dot c d ds n (b ∷ before) e = n before (ap (drop 1) e)

no_dot : (c : ℕ) → c ≢ 0x2E → NoLastDot (c ∷ [])
no_dot c other [] e = other (ap (λ (l : List ℕ). get_or l 0 0) e)
no_dot c other (b ∷ before) e = nothing_before before (ap (drop 1) e)

trim_more : (c : ℕ) (cs others dots : List ℕ) → NoLastDot others → list_all is_dot dots ≡ true → cs ≡ others ++ dots → Trimmed (c ∷ cs)
trim_more c cs [] dots n each whole = elim (cases_eq c 0x2E) [
  | inl is ↦ record { others = []; dots = c ∷ dots; ends = nothing_before; each = and_from _ _ (eq-eqb _ _ is) each; whole = ap (λ (l : List ℕ). c ∷ l) whole }
  | inr other ↦ record { others = c ∷ []; dots = dots; ends = no_dot c other; each = each; whole = ap (λ (l : List ℕ). c ∷ l) whole }
]
trim_more c cs (d ∷ ds) dots n each whole =
    record { others = c ∷ d ∷ ds; dots = dots; ends = no_last_dot c d ds n; each = each; whole = ap (λ (l : List ℕ). c ∷ l) whole }

trim : (cs : List ℕ) → Trimmed cs
trim [] = record { others = []; dots = []; ends = nothing_before; each = refl; whole = refl }
trim (c ∷ cs) = let t = trim cs in trim_more c cs t.others t.dots t.ends t.each t.whole

-- after the `_` of a blank node
record LabelFound (bytes : List ℕ) : Type 0 where
  label : List ℕ
  piece : List ℕ
  rest : List ℕ
  spells : SpellsLabel piece label
  stops : LabelStops rest
  whole : 0x5F ∷ bytes ≡ piece ++ rest

label_found : (m : List ℕ) (c : ℕ) (cs : List ℕ) → is_label_first c ≡ true → encodes (c ∷ cs) ≡ m → LabelFound (0x3A ∷ m)
label_found m c cs first e =
    let s = char_span is_label_inner cs in
    let t = trim s.front in
    let label = encodes (c ∷ t.others) in
    let rest = t.dots ++ encodes s.back in
    let parts = and_parts _ _ (sym (list_all-append is_label_inner t.others t.dots) ∙ ap (list_all is_label_inner) (sym t.whole) ∙ s.each) in
    let bytes : encodes cs ≡ encodes t.others ++ rest =
    ap encodes (s.whole ∙ ap (λ (l : List ℕ). l ++ s.back) t.whole) ∙ encodes-append (t.others ++ t.dots) s.back
    ∙ ap (λ (l : List ℕ). l ++ encodes s.back) (encodes-append t.others t.dots ∙ ap (λ (l : List ℕ). encodes t.others ++ l) (encodes_dots t.dots t.each))
    ∙ append_assoc (encodes t.others) t.dots (encodes s.back) in
    record {
      label = label;
      piece = 0x5F ∷ 0x3A ∷ label;
      rest = rest;
      spells = record { first = c; others = t.others; begins = first; each = parts.0; ends = t.ends; whole = refl; says = refl };
      stops = record { dots = t.dots; after = encodes s.back; each = t.each; whole = refl; none = s.stops };
      whole = ap (λ (l : List ℕ). 0x5F ∷ 0x3A ∷ l) (sym e ∙ ap (λ (l : List ℕ). encode c ++ l) bytes ∙ sym (append_assoc (encode c) (encodes t.others) rest));
    }

label_of : (m cs : List ℕ) → encodes cs ≡ m → LabelFound (0x3A ∷ m) ⊎ LabelFails (0x3A ∷ m)
label_of m [] e = inr (record { none = λ c more i q. no_char_left c more (e ∙ ap (drop 1) q) })
label_of m (c ∷ cs) e = elim (cases_Bool (is_label_first c)) [
  | inl is ↦ inl (label_found m c cs is e)
  | inr isnt ↦ inr (record { none = λ d more i q. other_char is_label_first c cs isnt d more i (e ∙ ap (drop 1) q) })
]

label_total : (bytes : List ℕ) → IsUtf8 bytes → LabelFound bytes ⊎ LabelFails bytes
label_total [] u = inr (record { none = λ c more i e. absurd (cc) })
label_total (b ∷ m) u = elim (cases_eq b 0x3A) [
  | inl is ↦ let v = past_byte b m (omega (arith, is)) u in subst (λ x. LabelFound (x ∷ m) ⊎ LabelFails (x ∷ m)) (sym is) (label_of m v.0 v.1.1)
  | inr other ↦ inr (record { none = λ c more i e. other (ap (λ (l : List ℕ). get_or l 0 0) e) })
]

-- a term, which stops before the rest
record TermFound (bytes : List ℕ) : Type 0 where
  term : Term
  piece : List ℕ
  rest : List ℕ
  spells : Spells piece term
  stops : TermStops spells rest
  whole : bytes ≡ piece ++ rest

literal_found : (bytes : List ℕ) → StringFound bytes → TermFound (0x22 ∷ bytes) ⊎ ((f : LexFault) × FailsFrom (0x22 ∷ bytes) f)
literal_found bytes s = elim (suffix_total s.form s.rest s.utf8) [
  | inl x ↦ inl (record {
    term = x.term;
    piece = s.piece ++ x.piece;
    rest = x.rest;
    spells = literal s.spells x.spells refl;
    stops = x.stops;
    whole = s.whole ∙ ap (λ (l : List ℕ). s.piece ++ l) x.whole ∙ sym (append_assoc s.piece x.piece x.rest);
  })
  | inr f ↦ inr (f.0, bad_suffix s.spells s.whole f.1)
]

term_of : (b : ℕ) (more : List ℕ) → IsUtf8 (b ∷ more) → TermFound (b ∷ more) ⊎ ((f : LexFault) × FailsFrom (b ∷ more) f)
term_of b more u = elim (cases_eq b 0x3C) [
  | inl is ↦ subst (λ x. TermFound (x ∷ more) ⊎ ((f : LexFault) × FailsFrom (x ∷ more) f)) (sym is) (elim (iri_total more (past_byte b more (omega (arith, is)) u)) [
    | inl i ↦ inl (record { term = Iri i.text; piece = i.piece; rest = i.rest; spells = iri i.spells; stops = tt; whole = i.whole })
    | inr f ↦ inr (f.0, bad_iri refl f.1)
  ])
  | inr no_iri ↦ elim (cases_eq b 0x5F) [
    | inl is ↦ subst (λ x. TermFound (x ∷ more) ⊎ ((f : LexFault) × FailsFrom (x ∷ more) f)) (sym is) (elim (label_total more (past_byte b more (omega (arith, is)) u)) [
      | inl l ↦ inl (record { term = Blank l.label; piece = l.piece; rest = l.rest; spells = blank l.spells; stops = l.stops; whole = l.whole })
      | inr f ↦ inr (BadBlankNodeLabel, bad_label refl f)
    ])
    | inr no_label ↦ elim (cases_eq b 0x22) [
      | inl is ↦ subst (λ x. TermFound (x ∷ more) ⊎ ((f : LexFault) × FailsFrom (x ∷ more) f)) (sym is) (elim (string_total more (past_byte b more (omega (arith, is)) u)) [
        | inl s ↦ literal_found more s
        | inr f ↦ inr (f.0, bad_string refl f.1)
      ])
      | inr no_string ↦ inr (ObjectExpected, no_term (or_from _ _ (or_from _ _ (ne_eqb _ _ no_iri) (ne_eqb _ _ no_label)) (ne_eqb _ _ no_string)))
    ]
  ]
]

term_total : (bytes : List ℕ) → IsUtf8 bytes → TermFound bytes ⊎ ((f : LexFault) × FailsFrom bytes f)
term_total [] u = inr (ObjectExpected, no_term tt)
term_total (b ∷ more) u = term_of b more u

pub says_total : (line : List ℕ) (at : ℕ) → IsUtf8 line → IsCharBoundary line at → (answer : Result (Term × ℕ) LexFault) × Says line at answer
says_total line at u b = elim (term_total (drop at line) (IsUtf8-drop line at u b)) [
  | inl x ↦ (Ok (x.term, at + length x.piece), record { piece = x.piece; rest = x.rest; spells = x.spells; stops = x.stops; here = x.whole; ends = refl })
  | inr f ↦ (Err f.0, f.1)
]
