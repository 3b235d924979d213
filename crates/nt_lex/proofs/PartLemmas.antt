-- From what the private functions find in a line to what is to be answered.
use Rattle.std.proofs.Common.{◌≡◌, ◌≢◌, ℕ, ◌+◌, ◌-◌, ◌<◌, ◌≤◌, true, eqb, List, [], ◌∷◌, ◌++◌, length, get_or, drop, slice_range, refl, sym, ap, ◌∙◌, subst, inl, inr, arith, append_assoc, append-nil}
use Rattle.std.proofs.lemmas.Bool.{cases_lt, ne_eqb, and_from}
use Rattle.std.proofs.lemmas.List.{length-append, length-drop, drop_more, get_or_past, length-take-le, append_cancel_right}
use Rattle.std.proofs.lemmas.List.Concat.{flat_map-append}
use Rattle.std.proofs.lemmas.List.Folds.{list_all-append}
use Rattle.std.specs.List.{list_all}
use Rattle.nt_lex.specs.Chars.{is_absolute, is_letter, is_letter_or_digit}
use Rattle.nt_lex.specs.Scans.{IsRunAt, NextFails}
use Rattle.nt_lex.specs.Written.{in_iri, spelling, RunsTo}
use Rattle.nt_lex.specs.Spelling.{is_subtag, is_primary, dashed}
use Rattle.nt_lex.specs.Reading.{lengthens, TagFails, no_subtag}
use Rattle.nt_lex.specs.Parts.{IriAt, TagAt}
use Rattle.nt_lex.proofs.ScanLemmas.{seam, run_passes, run_stops, next_at}

-- a place with a byte that is known is inside
pub known_inside : (line : List ℕ) (at b : ℕ) → get_or line at 0 ≡ b → 0 < b → at < length line
known_inside line at b is some = elim (cases_lt at (length line)) [
  | inl inside ↦ inside
  | inr past ↦ absurd (omega (arith, is, get_or_past line at 0 past))
]

-- a place and its byte
pub at_byte : (line : List ℕ) (at b : ℕ) → at < length line → get_or line at 0 ≡ b → drop at line ≡ b ∷ drop (at + 1) line
at_byte line at b inside is = drop_more line at 0 inside ∙ ap (λ x. x ∷ drop (at + 1) line) is

-- an IRI that is closed at the place and is absolute
pub iri_closed : (line : List ℕ) (at : ℕ) (text : List ℕ) (end : ℕ) → at < length line → get_or line at 0 ≡ 0x3C
    → RunsTo in_iri line (at + 1) text end → end < length line → get_or line end 0 ≡ 0x3E → is_absolute text ≡ true → IriAt line at text (end + 1)
iri_closed line at text end inside opens r before closes abs =
    let w = spelling r.written in
    record {
      piece = 0x3C ∷ (w ++ 0x3E ∷ []);
      spells = record { written = r.written; each = r.runs.each; whole = refl; says = r.says; absolute = abs };
      here = at_byte line at 0x3C inside opens ∙ ap (λ (l : List ℕ). 0x3C ∷ l)
          (r.runs.whole ∙ ap (λ (l : List ℕ). w ++ l) (at_byte line end 0x3E before closes) ∙ sym (append_assoc w (0x3E ∷ []) (drop (end + 1) line)));
      ends = omega (arith, r.ordered, ap length r.runs.whole, length-append w (drop end line), length-drop (at + 1) line, length-drop end line, length-append w (0x3E ∷ []));
      within = omega arith;
    }

-- a tag so far: its last part goes on no further
pub record TagSoFar (line : List ℕ) (from end : ℕ) : Type 0 where
  pub primary : List ℕ
  pub subtags : List (List ℕ)
  pub letters : is_primary primary ≡ true
  pub groups : list_all is_subtag subtags ≡ true
  pub whole : drop from line ≡ (primary ++ dashed subtags) ++ drop end line
  pub last : NextFails (lengthens subtags) (drop end line)
  pub ordered : from ≤ end
  pub within : end ≤ length line

primary_from : (xs : List ℕ) → list_all is_letter xs ≡ true → 0 < length xs → is_primary xs ≡ true
primary_from [] a some = absurd (omega arith)
primary_from (x ∷ xs) a some = a

subtag_from : (xs : List ℕ) → list_all is_letter_or_digit xs ≡ true → 0 < length xs → is_subtag xs ≡ true
subtag_from [] a some = absurd (omega arith)
subtag_from (x ∷ xs) a some = a

run_long : (line : List ℕ) (from end : ℕ) → from < end → end ≤ length line → 0 < length (slice_range line from end)
run_long line from end some within = omega (arith, length-take-le (end - from) (drop from line) (omega (arith, length-drop from line)))

pub tag_starts : (line : List ℕ) (from end : ℕ) → IsRunAt is_letter line from end → end ≢ from → TagSoFar line from end
tag_starts line from end run other = record {
  primary = slice_range line from end;
  subtags = [];
  letters = primary_from _ (run_passes is_letter line from end run) (run_long line from end (omega (arith, run.ordered)) run.in_range);
  groups = refl;
  whole = seam line from end run.ordered ∙ ap (λ (l : List ℕ). l ++ drop end line) (sym (append-nil (slice_range line from end)));
  last = run_stops is_letter line from end run;
  ordered = run.ordered;
  within = run.in_range;
}

lengthens_more : (gs : List (List ℕ)) (g rest : List ℕ) → NextFails is_letter_or_digit rest → NextFails (lengthens (gs ++ g ∷ [])) rest
lengthens_more [] g rest n = n
lengthens_more (h ∷ hs) g rest n = n

dashed_more : (gs : List (List ℕ)) (g : List ℕ) → dashed (gs ++ g ∷ []) ≡ dashed gs ++ 0x2D ∷ g
dashed_more gs g = flat_map-append (λ (s : List ℕ). 0x2D ∷ s) gs (g ∷ []) ∙ ap (λ (l : List ℕ). dashed gs ++ l) (append-nil (0x2D ∷ g))

pub tag_goes_on : (line : List ℕ) (from end next : ℕ) → TagSoFar line from end → get_or line end 0 ≡ 0x2D → IsRunAt is_letter_or_digit line (end + 1) next
    → next ≢ end + 1 → TagSoFar line from next
tag_goes_on line from end next t dash run other =
    let inside : end < length line = known_inside line end 0x2D dash (omega arith) in
    let g = slice_range line (end + 1) next in
    record {
      primary = t.primary;
      subtags = t.subtags ++ g ∷ [];
      letters = t.letters;
      groups = list_all-append is_subtag t.subtags (g ∷ []) ∙ and_from _ _ t.groups (and_from _ _ (subtag_from g (run_passes is_letter_or_digit line (end + 1) next run)
          (run_long line (end + 1) next (omega (arith, run.ordered)) run.in_range)) refl);
      whole = t.whole ∙ ap (λ (l : List ℕ). (t.primary ++ dashed t.subtags) ++ l) (at_byte line end 0x2D inside dash ∙ ap (λ (l : List ℕ). 0x2D ∷ l) (seam line (end + 1) next run.ordered))
          ∙ sym (append_assoc (t.primary ++ dashed t.subtags) (0x2D ∷ g) (drop next line))
          ∙ ap (λ (l : List ℕ). l ++ drop next line) (append_assoc t.primary (dashed t.subtags) (0x2D ∷ g) ∙ ap (λ (l : List ℕ). t.primary ++ l) (sym (dashed_more t.subtags g)));
      last = lengthens_more t.subtags g (drop next line) (run_stops is_letter_or_digit line (end + 1) next run);
      ordered = omega (arith, t.ordered, run.ordered);
      within = run.in_range;
    }

pub tag_stops : (line : List ℕ) (from end : ℕ) → TagSoFar line from end → get_or line end 0 ≢ 0x2D → TagAt line from end
tag_stops line from end t other = record {
  is = record {
    primary = t.primary;
    subtags = t.subtags;
    letters = t.letters;
    groups = t.groups;
    whole = append_cancel_right (slice_range line from end) (t.primary ++ dashed t.subtags) (drop end line) (sym (seam line from end t.ordered) ∙ t.whole);
  };
  here = seam line from end t.ordered;
  stops = record { last = t.last; dash = next_at (λ b. eqb b 0x2D) line end (λ inside. ne_eqb _ _ other) };
  ordered = t.ordered;
  within = t.within;
}

pub tag_fails : (line : List ℕ) (from end next : ℕ) → TagSoFar line from end → get_or line end 0 ≡ 0x2D → IsRunAt is_letter_or_digit line (end + 1) next
    → next ≡ end + 1 → TagFails (drop from line)
tag_fails line from end next t dash run same = no_subtag (record {
  tag = t.primary ++ dashed t.subtags;
  more = drop (end + 1) line;
  is = record { primary = t.primary; subtags = t.subtags; letters = t.letters; groups = t.groups; whole = refl };
  whole = t.whole ∙ ap (λ (l : List ℕ). (t.primary ++ dashed t.subtags) ++ l) (at_byte line end 0x2D (known_inside line end 0x2D dash (omega arith)) dash);
  none = subst (λ n. NextFails is_letter_or_digit (drop n line)) same (run_stops is_letter_or_digit line (end + 1) next run);
})
