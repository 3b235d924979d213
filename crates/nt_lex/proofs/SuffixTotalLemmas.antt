-- What stands after the string of a literal: each text reads or fails.
use Rattle.std.proofs.Common.{◌≡◌, ◌≢◌, ℕ, zero, suc, ◌<◌, ◌≤◌, Bool, true, eqb, ◌||◌, List, [], ◌∷◌, ◌++◌, length, get_or, map, IsUtf8, ◌⊎◌, inl, inr, refl, sym, ap, ap₂, ◌∙◌, subst, arith, append_assoc, append-nil}
use Rattle.std.proofs.lemmas.Bool.{and_from, or_from, cases_Bool, cases_eq, ne_eqb}
use Rattle.std.proofs.lemmas.List.{length-append}
use Rattle.std.specs.Char.{to_ascii_lowercase}
use Rattle.std.proofs.lemmas.Bool.Decides.{not_from_Decides}
use Rattle.std.proofs.lemmas.Slice.Eq.{bytes_eq-Decides}
use Rattle.std.specs.Str.{bytes_eq}
use Rattle.std.specs.List.{list_all}
use Rattle.gk_base.specs.declared.term.Term.{Term}
use Rattle.gk_base.specs.declared.term.Term.TheVariants.{Plain, Typed, Lang}
use Rattle.gk_base.specs.declared.lex_fault.LexFault.{LexFault}
use Rattle.gk_base.specs.declared.lex_fault.LexFault.TheVariants.{BadIri, BadLanguageTag}
use Rattle.nt_lex.specs.Chars.{is_blank, is_letter, is_letter_or_digit}
use Rattle.nt_lex.specs.Scans.{NextFails}
use Rattle.nt_lex.specs.Spelling.{is_subtag, dashed, IsTag, xsd_string, HasDatatype, AfterCarets, SpellsSuffix, plain, typed, tagged}
use Rattle.nt_lex.specs.Reading.{lengthens, TagStops, SuffixStops, TagFails, no_letter, no_subtag, SuffixFails, no_datatype, bad_datatype, bad_tag}
use Rattle.nt_lex.proofs.RunningLemmas.{past_byte}
use Rattle.nt_lex.proofs.ScanLemmas.{span_once}
use Rattle.nt_lex.proofs.BoundaryLemmas.{past_low, blank_low}
use Rattle.nt_lex.proofs.TextTotalLemmas.{iri_total}

-- the longest run of bytes
record Span (p : ℕ → Bool) (bytes : List ℕ) : Type 0 where
  front : List ℕ
  back : List ℕ
  each : list_all p front ≡ true
  whole : bytes ≡ front ++ back
  stops : NextFails p back

span : (p : ℕ → Bool) (bytes : List ℕ) → Span p bytes
span p [] = record { front = []; back = []; each = refl; whole = refl; stops = tt }
span p (b ∷ bytes) = elim (cases_Bool (p b)) [
  | inl is ↦ let s = span p bytes in record { front = b ∷ s.front; back = s.back; each = and_from _ _ is s.each; whole = ap (λ (l : List ℕ). b ∷ l) s.whole; stops = s.stops }
  | inr isnt ↦ record { front = []; back = b ∷ bytes; each = refl; whole = refl; stops = isnt }
]

-- a tag: what may come after its last part
abbrev DashEnd : List ℕ → Type 0
DashEnd rest = NextFails (λ b. eqb b 0x2D) rest ⊎ ((more : List ℕ) × (rest ≡ 0x2D ∷ more) × NextFails is_letter_or_digit more)

record Subtag (bytes : List ℕ) : Type 0 where
  part : List ℕ
  more : List ℕ
  good : is_subtag part ≡ true
  whole : bytes ≡ 0x2D ∷ (part ++ more)
  stops : NextFails is_letter_or_digit more
  shorter : length more < length bytes

subtag_of : (m front back : List ℕ) → list_all is_letter_or_digit front ≡ true → m ≡ front ++ back → NextFails is_letter_or_digit back → DashEnd (0x2D ∷ m) ⊎ Subtag (0x2D ∷ m)
subtag_of m [] back each whole stops = inl (inr (m, refl, subst (NextFails is_letter_or_digit) (sym whole) stops))
subtag_of m (c ∷ cs) back each whole stops = inr (record {
  part = c ∷ cs;
  more = back;
  good = each;
  whole = ap (λ (l : List ℕ). 0x2D ∷ l) whole;
  stops = stops;
  shorter = omega (arith, ap length whole, length-append (c ∷ cs) back);
})

subtag_next : (bytes : List ℕ) → DashEnd bytes ⊎ Subtag bytes
subtag_next [] = inl (inl tt)
subtag_next (b ∷ m) = elim (cases_eq b 0x2D) [
  | inl is ↦ let s = span is_letter_or_digit m in subst (λ x. DashEnd (x ∷ m) ⊎ Subtag (x ∷ m)) (sym is) (subtag_of m s.front s.back s.each s.whole s.stops)
  | inr other ↦ inl (inl (ne_eqb _ _ other))
]

record Subtags (bytes : List ℕ) : Type 0 where
  subtags : List (List ℕ)
  rest : List ℕ
  groups : list_all is_subtag subtags ≡ true
  whole : bytes ≡ dashed subtags ++ rest
  last : NextFails is_letter_or_digit rest
  dash : DashEnd rest

subtags_end : (bytes : List ℕ) → NextFails is_letter_or_digit bytes → DashEnd bytes → Subtags bytes
subtags_end bytes n d = record { subtags = []; rest = bytes; groups = refl; whole = refl; last = n; dash = d }

subtags_more : (bytes : List ℕ) (s : Subtag bytes) → Subtags s.more → Subtags bytes
subtags_more bytes s t = record {
  subtags = s.part ∷ t.subtags;
  rest = t.rest;
  groups = and_from _ _ s.good t.groups;
  whole = s.whole ∙ ap (λ (l : List ℕ). 0x2D ∷ (s.part ++ l)) t.whole ∙ ap (λ (l : List ℕ). 0x2D ∷ l) (sym (append_assoc s.part (dashed t.subtags) t.rest));
  last = t.last;
  dash = t.dash;
}

subtags_total : (n : ℕ) (bytes : List ℕ) → length bytes ≤ n → NextFails is_letter_or_digit bytes → Subtags bytes
subtags_total zero bytes le stops = elim (subtag_next bytes) [
  | inl d ↦ subtags_end bytes stops d
  | inr s ↦ absurd (omega (arith, s.shorter, le))
]
subtags_total (suc n) bytes le stops = elim (subtag_next bytes) [
  | inl d ↦ subtags_end bytes stops d
  | inr s ↦ subtags_more bytes s (subtags_total n s.more (omega (arith, s.shorter, le)) s.stops)
]

record TagFound (bytes : List ℕ) : Type 0 where
  tag : List ℕ
  rest : List ℕ
  is : IsTag tag
  stops : TagStops is rest
  whole : bytes ≡ tag ++ rest

tag_ends : (bytes tag rest : List ℕ) (is : IsTag tag) → bytes ≡ tag ++ rest → NextFails (lengthens is.subtags) rest → DashEnd rest → TagFound bytes ⊎ TagFails bytes
tag_ends bytes tag rest is whole last (inl d) = inl (record { tag = tag; rest = rest; is = is; stops = record { last = last; dash = d }; whole = whole })
tag_ends bytes tag rest is whole last (inr d) = inr (no_subtag (record { tag = tag; more = d.0; is = is; whole = whole ∙ ap (λ (l : List ℕ). tag ++ l) d.1; none = d.2 }))

tag_of : (bytes front back : List ℕ) → list_all is_letter front ≡ true → bytes ≡ front ++ back → NextFails is_letter back → TagFound bytes ⊎ TagFails bytes
tag_of bytes [] back each whole stops = inr (no_letter (subst (NextFails is_letter) (sym whole) stops))
tag_of bytes (c ∷ cs) back each whole stops = elim (subtag_next back) [
  | inl d ↦
      tag_ends bytes (c ∷ cs) back (record { primary = c ∷ cs; subtags = []; letters = each; groups = refl; whole = sym (append-nil (c ∷ cs)) }) whole stops d
  | inr s ↦
      let t = subtags_total (length s.more) s.more (omega arith) s.stops in
      let all = subtags_more back s t in
      tag_ends bytes ((c ∷ cs) ++ dashed (s.part ∷ t.subtags)) t.rest
      (record { primary = c ∷ cs; subtags = s.part ∷ t.subtags; letters = each; groups = and_from _ _ s.good t.groups; whole = refl })
      (whole ∙ ap (λ (l : List ℕ). (c ∷ cs) ++ l) (s.whole ∙ ap (λ (l : List ℕ). 0x2D ∷ (s.part ++ l)) t.whole ∙ ap (λ (l : List ℕ). 0x2D ∷ l) (sym (append_assoc s.part (dashed t.subtags) t.rest)))
      ∙ sym (append_assoc (c ∷ cs) (dashed (s.part ∷ t.subtags)) t.rest))
      t.last t.dash
]

tag_total : (bytes : List ℕ) → TagFound bytes ⊎ TagFails bytes
tag_total bytes = let s = span is_letter bytes in tag_of bytes s.front s.back s.each s.whole s.stops

-- the literal of a lexical form and a datatype
datatype_of : (form datatype : List ℕ) → (term : Term) × HasDatatype form datatype term
datatype_of form datatype =
    let d = bytes_eq-Decides datatype xsd_string in
    elim (cases_Bool (bytes_eq datatype xsd_string)) [
      | inl is ↦ (Plain form, record { plain = λ _. refl; typed = λ other. absurd (other (d.0 is)) })
      | inr isnt ↦ (Typed form datatype, record { plain = λ is. absurd (not_from_Decides (bytes_eq datatype xsd_string) d isnt is); typed = λ _. refl })
    ]

-- what follows the string of a literal
pub record SuffixFound (form bytes : List ℕ) : Type 0 where
  pub term : Term
  pub piece : List ℕ
  pub rest : List ℕ
  pub spells : SpellsSuffix piece form term
  pub stops : SuffixStops spells rest
  pub whole : bytes ≡ piece ++ rest

module _ (form bytes gap back : List ℕ) (before : list_all is_blank gap ≡ true) (whole : bytes ≡ gap ++ back) where
  abbrev Found : Type 0
  Found = SuffixFound form bytes ⊎ ((f : LexFault) × SuffixFails bytes f)

  plain_found : NextFails is_blank back → ((m : List ℕ) → back ≢ 0x5E ∷ 0x5E ∷ m) → ((m : List ℕ) → back ≢ 0x40 ∷ m) → Found
  plain_found n carets at = inl (record {
    term = Plain form;
    piece = [];
    rest = bytes;
    spells = plain refl;
    stops = record {
      no_datatype = λ more x. carets (x.space ++ more) (span_once is_blank gap x.gap back (0x5E ∷ 0x5E ∷ (x.space ++ more)) before x.before n refl (sym whole ∙ x.whole)).1;
      no_tag = λ more x. at more (span_once is_blank gap x.gap back (0x40 ∷ more) before x.before n refl (sym whole ∙ x.whole)).1;
    };
    whole = refl;
  })

  tagged_found : (m : List ℕ) → back ≡ 0x40 ∷ m → Found
  tagged_found m is = elim (tag_total m) [
    | inl t ↦ inl (record {
      term = Lang form (map to_ascii_lowercase t.tag);
      piece = gap ++ 0x40 ∷ t.tag;
      rest = t.rest;
      spells = tagged (record { gap = gap; before = before; whole = refl }) t.is;
      stops = t.stops;
      whole = whole ∙ ap (λ (l : List ℕ). gap ++ l) (is ∙ ap (λ (l : List ℕ). 0x40 ∷ l) t.whole) ∙ sym (append_assoc gap (0x40 ∷ t.tag) t.rest);
    })
    | inr f ↦ inr (BadLanguageTag, bad_tag (record { gap = gap; before = before; whole = whole ∙ ap (λ (l : List ℕ). gap ++ l) is }) f)
  ]

  module _ (m : List ℕ) (is : back ≡ 0x5E ∷ 0x5E ∷ m) (space more : List ℕ) (between : list_all is_blank space ≡ true) (rest_is : m ≡ space ++ more) where
    carets_bytes : bytes ≡ gap ++ 0x5E ∷ 0x5E ∷ (space ++ more)
    carets_bytes = whole ∙ ap (λ (l : List ℕ). gap ++ l) (is ∙ ap (λ (l : List ℕ). 0x5E ∷ 0x5E ∷ l) rest_is)

    carets : AfterCarets bytes more
    carets = record { gap = gap; space = space; before = before; between = between; whole = carets_bytes }

    untyped_found : NextFails (λ b. is_blank b || eqb b 0x3C) more → Found
    untyped_found n = inr (BadIri, no_datatype (record { more = more; carets = carets; none = n }))

    typed_found : (inside : List ℕ) → more ≡ 0x3C ∷ inside → IsUtf8 inside → Found
    typed_found inside opens u = elim (iri_total inside u) [
      | inl i ↦
          let term = datatype_of form i.text in
          let piece = gap ++ 0x5E ∷ 0x5E ∷ (space ++ i.piece) in
          inl (record {
            term = term.0;
            piece = piece;
            rest = i.rest;
            spells = typed (record { gap = gap; space = space; before = before; between = between; whole = refl }) i.spells term.1;
            stops = tt;
            whole = carets_bytes ∙ ap (λ (l : List ℕ). gap ++ 0x5E ∷ 0x5E ∷ l)
                (ap (λ (l : List ℕ). space ++ l) (opens ∙ i.whole) ∙ sym (append_assoc space i.piece i.rest)) ∙ sym (append_assoc gap (0x5E ∷ 0x5E ∷ (space ++ i.piece)) i.rest);
          })
      | inr f ↦ inr (f.0, bad_datatype (subst (AfterCarets bytes) opens carets) f.1)
    ]

-- two bytes are not one
one_is_two : (b : ℕ) (m : List ℕ) → b ∷ [] ≡ 0x5E ∷ 0x5E ∷ m → ⊥
one_is_two b m e = omega (arith, ap length e)

datatype_found : (form bytes gap back m : List ℕ) → list_all is_blank gap ≡ true → bytes ≡ gap ++ back → back ≡ 0x5E ∷ 0x5E ∷ m
    → (space more : List ℕ) → list_all is_blank space ≡ true → m ≡ space ++ more → NextFails is_blank more → IsUtf8 more
    → SuffixFound form bytes ⊎ ((f : LexFault) × SuffixFails bytes f)
datatype_found form bytes gap back m before whole is space [] between rest_is n u = untyped_found form bytes gap back before whole m is space [] between rest_is tt
datatype_found form bytes gap back m before whole is space (b ∷ inside) between rest_is n u = elim (cases_eq b 0x3C) [
  | inl opens ↦
      typed_found form bytes gap back before whole m is space (b ∷ inside) between rest_is inside (ap (λ x. x ∷ inside) opens) (past_byte b inside (omega (arith, opens)) u)
  | inr other ↦ untyped_found form bytes gap back before whole m is space (b ∷ inside) between rest_is (or_from _ _ n (ne_eqb _ _ other))
]

suffix_of : (form bytes gap back : List ℕ) → list_all is_blank gap ≡ true → bytes ≡ gap ++ back → NextFails is_blank back → IsUtf8 back
    → SuffixFound form bytes ⊎ ((f : LexFault) × SuffixFails bytes f)
suffix_of form bytes gap [] before whole n u = plain_found form bytes gap [] before whole tt (λ m e. cc) (λ m e. cc)
suffix_of form bytes gap (b ∷ []) before whole n u = elim (cases_eq b 0x40) [
  | inl is ↦ tagged_found form bytes gap (b ∷ []) before whole [] (ap (λ x. x ∷ []) is)
  | inr other ↦ plain_found form bytes gap (b ∷ []) before whole n (λ m e. absurd (one_is_two b m e)) (λ m e. other (ap (λ (l : List ℕ). get_or l 0 0) e))
]
suffix_of form bytes gap (b ∷ c ∷ m) before whole n u = elim (cases_eq b 0x40) [
  | inl is ↦ tagged_found form bytes gap (b ∷ c ∷ m) before whole (c ∷ m) (ap (λ x. x ∷ c ∷ m) is)
  | inr other ↦ elim (cases_eq b 0x5E) [
    | inr neither ↦ plain_found form bytes gap (b ∷ c ∷ m) before whole n (λ k e. neither (ap (λ (l : List ℕ). get_or l 0 0) e)) (λ k e. other (ap (λ (l : List ℕ). get_or l 0 0) e))
    | inl first ↦ elim (cases_eq c 0x5E) [
      | inr single ↦ plain_found form bytes gap (b ∷ c ∷ m) before whole n (λ k e. single (ap (λ (l : List ℕ). get_or l 1 0) e)) (λ k e. other (ap (λ (l : List ℕ). get_or l 0 0) e))
      | inl second ↦
          let s = span is_blank m in
          let after : IsUtf8 m = past_byte c m (omega (arith, second)) (past_byte b (c ∷ m) (omega (arith, first)) u) in
          datatype_found form bytes gap (b ∷ c ∷ m) m before whole (ap₂ (λ x y. x ∷ y ∷ m) first second) s.front s.back s.each s.whole s.stops
          (past_low is_blank blank_low s.front s.back s.each (subst IsUtf8 s.whole after))
    ]
  ]
]

pub suffix_total : (form bytes : List ℕ) → IsUtf8 bytes → SuffixFound form bytes ⊎ ((f : LexFault) × SuffixFails bytes f)
suffix_total form bytes u =
    let s = span is_blank bytes in
    suffix_of form bytes s.front s.back s.each s.whole s.stops (past_low is_blank blank_low s.front s.back s.each (subst IsUtf8 s.whole u))
