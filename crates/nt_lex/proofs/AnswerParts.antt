-- The answers of the private functions are what is to be answered at a place.
use Rattle.std.proofs.Common.{◌≡◌, ◌≢◌, ℕ, ◌+◌, ◌-◌, ◌<◌, ◌≤◌, true, eqb, cond, ◌||◌, List, [], ◌∷◌, ◌++◌, length, get_or, take, drop, map, slice_range, Ok, Err, Result, refl, sym, ap, ◌∙◌, subst, inl, inr, arith, append_assoc}
use Rattle.std.proofs.lemmas.Bool.{cases_lt, ne_eqb, or_from}
use Rattle.std.proofs.lemmas.List.{length-append, length-drop, drop_more, drop_all, take_at, get_or-drop, get_or_past}
use Rattle.std.specs.Char.{to_ascii_lowercase}
use lib.Utf8.{encode, encodes}
use Rattle.gk_base.specs.declared.term.Term.{Term}
use Rattle.gk_base.specs.declared.term.Term.TheVariants.{Iri, Blank, Plain, Lang}
use Rattle.gk_base.specs.declared.lex_fault.LexFault.{LexFault}
use Rattle.gk_base.specs.declared.lex_fault.LexFault.TheVariants.{ObjectExpected, BadIri, BadEscape, StringNotClosed, BadBlankNodeLabel, BadLanguageTag}
use Rattle.gk_base.specs.Answers.{LexStop, IsSo}
use Rattle.gk_base.specs.declared.stop.Stop.TheVariants.{NoMemory, Fault}
use Rattle.nt_lex.specs.Chars.{is_blank, is_label_first}
use Rattle.nt_lex.specs.Scans.{IsRunAt}
use Rattle.nt_lex.specs.Written.{in_string, spelling, RunsTo}
use Rattle.nt_lex.specs.Spelling.{HasDatatype, SpellsString, AfterCarets, AfterAt, plain, typed, tagged, iri, blank, literal}
use Rattle.nt_lex.specs.Reading.{StringStops, string_fault, TagFails, SuffixFails, no_datatype, bad_datatype, bad_tag, begins_term, FailsFrom, no_term, bad_iri, bad_label, bad_string, bad_suffix, Reads, Says}
use Rattle.nt_lex.specs.Parts.{IriAt, IriTextSays, TagAt, LabelIn, SuffixAt, SuffixSays}
use Rattle.nt_lex.proofs.ScanLemmas.{seam, run_passes, run_stops, next_at, span_once}
use Rattle.nt_lex.proofs.PartLemmas.{known_inside, at_byte}

-- IRIs
pub iri_reads : (line : List ℕ) (at : ℕ) (text : List ℕ) (end : ℕ) → IriAt line at text end → Reads line at (Iri text) end
iri_reads line at text end i = record { piece = i.piece; rest = drop end line; spells = iri i.spells; stops = tt; here = i.here; ends = i.ends }

pub iri_stop : (line : List ℕ) (at : ℕ) (stop : LexStop) → at < length line → get_or line at 0 ≡ 0x3C → IsSo (IriTextSays {Z = Unit {0}} line at) (Err stop) → IsSo (Says line at) (Err stop)
iri_stop line at NoMemory inside opens s = tt
iri_stop line at (Fault f) inside opens s = bad_iri (at_byte line at 0x3C inside opens) s

-- blank nodes
pub blank_reads : (line : List ℕ) (at size : ℕ) → at < length line → get_or line at 0 ≡ 0x5F → get_or line (at + 1) 0 ≡ 0x3A → LabelIn (drop (at + 2) line) size
    → Reads line at (Blank (slice_range line (at + 2) (at + 2 + size))) (at + 2 + size)
blank_reads line at size inside opens colon l =
    let label = encodes (l.first ∷ l.others) in
    let next : at + 1 + 1 ≡ at + 2 = omega arith in
    let short : at + 2 + size - (at + 2) ≡ size = omega arith in
    let is : slice_range line (at + 2) (at + 2 + size) ≡ label =
    ap (λ n. take n (drop (at + 2) line)) short ∙ ap (take size) l.whole ∙ take_at label (drop size (drop (at + 2) line)) size (sym l.long) in
    record {
      piece = 0x5F ∷ 0x3A ∷ slice_range line (at + 2) (at + 2 + size);
      rest = drop size (drop (at + 2) line);
      spells = blank (record { first = l.first; others = l.others; begins = l.begins; each = l.each; ends = l.ends; whole = refl; says = is });
      stops = l.stops;
      here = at_byte line at 0x5F inside opens ∙ ap (λ (r : List ℕ). 0x5F ∷ r)
          (at_byte line (at + 1) 0x3A (known_inside line (at + 1) 0x3A colon (omega arith)) colon ∙ ap (λ (r : List ℕ). 0x3A ∷ r)
          (ap (λ n. drop n line) next ∙ l.whole ∙ ap (λ (r : List ℕ). r ++ drop size (drop (at + 2) line)) (sym is)));
      ends = omega (arith, l.long, ap length is);
    }

pub blank_fails : (line : List ℕ) (at : ℕ) → at < length line → get_or line at 0 ≡ 0x5F
    → ((c : ℕ) (more : List ℕ) → is_label_first c ≡ true → drop (at + 1) line ≢ 0x3A ∷ (encode c ++ more)) → FailsFrom (drop at line) BadBlankNodeLabel
blank_fails line at inside opens none = bad_label (at_byte line at 0x5F inside opens) (record { none = none })

-- strings
module _ (line : List ℕ) (at : ℕ) (inside : at < length line) (opens : get_or line at 0 ≡ 0x22) (text : List ℕ) (end : ℕ) (r : RunsTo in_string line (at + 1) text end) where
  abbrev string : List ℕ
  string = 0x22 ∷ (spelling r.written ++ 0x22 ∷ [])

  spells : SpellsString string text
  spells = record { written = r.written; each = r.runs.each; whole = refl; says = r.says }

  string_here : end < length line → get_or line end 0 ≡ 0x22 → drop at line ≡ string ++ drop (end + 1) line
  string_here before closes = at_byte line at 0x22 inside opens ∙ ap (λ (l : List ℕ). 0x22 ∷ l)
      (r.runs.whole ∙ ap (λ (l : List ℕ). spelling r.written ++ l) (at_byte line end 0x22 before closes) ∙ sym (append_assoc (spelling r.written) (0x22 ∷ []) (drop (end + 1) line)))

  string_ends : end < length line → get_or line end 0 ≡ 0x22 → end + 1 ≡ at + length string
  string_ends before closes = omega (arith, ap length (string_here before closes), length-append string (drop (end + 1) line), length-drop at line, length-drop (end + 1) line)

  pub closed_so : get_or line end 0 ≡ 0x22 → (a : Result (Term × ℕ) LexStop) → IsSo (SuffixSays line text (end + 1)) a → IsSo (Says line at) a
  closed_so closes (Ok x) s =
      let before : end < length line = known_inside line end 0x22 closes (omega arith) in
      record {
        piece = string ++ s.piece;
        rest = drop x.1 line;
        spells = literal spells s.spells refl;
        stops = s.stops;
        here = string_here before closes ∙ ap (λ (l : List ℕ). string ++ l) s.here ∙ sym (append_assoc string s.piece (drop x.1 line));
        ends = omega (arith, s.ends, string_ends before closes, length-append string s.piece);
      }
  closed_so closes (Err NoMemory) s = tt
  closed_so closes (Err (Fault f)) s = bad_suffix spells (string_here (known_inside line end 0x22 closes (omega arith)) closes) s

  fault_at : string_fault (drop end line) ≡ cond (eqb (get_or line end 0) 0x5C) BadEscape StringNotClosed
  fault_at = elim (cases_lt end (length line)) [
    | inl before ↦ ap string_fault (drop_more line end 0 before)
    | inr past ↦ ap string_fault (drop_all end line past) ∙ ap (λ b. cond (eqb b 0x5C) BadEscape StringNotClosed) (sym (get_or_past line end 0 past))
  ]

  pub open_fails : (fault : LexFault) → get_or line end 0 ≢ 0x22 → fault ≡ cond (eqb (get_or line end 0) 0x5C) BadEscape StringNotClosed → FailsFrom (drop at line) fault
  open_fails fault other cause = bad_string (at_byte line at 0x22 inside opens) (record {
    written = r.written;
    rest = drop end line;
    runs = r.runs;
    open_still = λ more e. other (sym (get_or-drop end line 0 0 ∙ ap (λ n. get_or line n 0) (let n : end + 0 ≡ end = omega arith in n)) ∙ ap (λ l. get_or l 0 0) e);
    cause = cause ∙ sym fault_at;
  })

-- what follows a string
module _ (line : List ℕ) (close next : ℕ) (gap : IsRunAt is_blank line close next) where
  second : (more : List ℕ) → drop next line ≡ 0x5E ∷ 0x5E ∷ more → (get_or line next 0 ≡ 0x5E) × (get_or line (next + 1) 0 ≡ 0x5E)
  second more e =
      let first : get_or line (next + 0) 0 ≡ 0x5E = sym (get_or-drop next line 0 0) ∙ ap (λ l. get_or l 0 0) e in
      let place : next + 0 ≡ next = omega arith in
      (ap (λ n. get_or line n 0) (sym place) ∙ first, sym (get_or-drop next line 1 0) ∙ ap (λ l. get_or l 1 0) e)

  pub string_stops : (get_or line next 0 ≡ 0x5E → get_or line (next + 1) 0 ≡ 0x5E → ⊥) → get_or line next 0 ≢ 0x40 → StringStops (drop close line)
  string_stops carets other = record {
    no_datatype = λ more x.
        let one = span_once is_blank (slice_range line close next) x.gap (drop next line) (0x5E ∷ 0x5E ∷ (x.space ++ more)) (run_passes is_blank line close next gap) x.before
        (run_stops is_blank line close next gap) refl (sym (seam line close next gap.ordered) ∙ x.whole) in
        let two = second (x.space ++ more) one.1 in
        carets two.0 two.1;
    no_tag = λ more x.
        let one = span_once is_blank (slice_range line close next) x.gap (drop next line) (0x40 ∷ more) (run_passes is_blank line close next gap) x.before
        (run_stops is_blank line close next gap) refl (sym (seam line close next gap.ordered) ∙ x.whole) in
        let place : next + 0 ≡ next = omega arith in
        other (ap (λ n. get_or line n 0) (sym place) ∙ sym (get_or-drop next line 0 0) ∙ ap (λ l. get_or l 0 0) one.1);
  }

  pub plain_so : (form : List ℕ) → close ≤ length line → (get_or line next 0 ≡ 0x5E → get_or line (next + 1) 0 ≡ 0x5E → ⊥) → get_or line next 0 ≢ 0x40
      → SuffixAt line form close (Plain form) close
  plain_so form inside carets other = record { piece = []; spells = plain refl; stops = string_stops carets other; here = refl; ends = omega arith; within = inside }

  at_bytes : get_or line next 0 ≡ 0x40 → drop close line ≡ slice_range line close next ++ 0x40 ∷ drop (next + 1) line
  at_bytes is = seam line close next gap.ordered ∙ ap (λ (l : List ℕ). slice_range line close next ++ l) (at_byte line next 0x40 (known_inside line next 0x40 is (omega arith)) is)

  at_follows : get_or line next 0 ≡ 0x40 → AfterAt (drop close line) (drop (next + 1) line)
  at_follows is = record { gap = slice_range line close next; before = run_passes is_blank line close next gap; whole = at_bytes is }

  pub tagged_so : (form : List ℕ) (end : ℕ) → close ≤ length line → get_or line next 0 ≡ 0x40 → TagAt line (next + 1) end
      → SuffixAt line form close (Lang form (map to_ascii_lowercase (slice_range line (next + 1) end))) end
  tagged_so form end inside is t =
      let tag = slice_range line (next + 1) end in
      let piece = slice_range line close next ++ 0x40 ∷ tag in
      let here : drop close line ≡ piece ++ drop end line = at_bytes is ∙ ap (λ (l : List ℕ). slice_range line close next ++ 0x40 ∷ l) t.here
      ∙ sym (append_assoc (slice_range line close next) (0x40 ∷ tag) (drop end line)) in
      record {
        piece = piece;
        spells = tagged (record { gap = slice_range line close next; before = run_passes is_blank line close next gap; whole = refl }) t.is;
        stops = t.stops;
        here = here;
        ends = omega (arith, ap length here, length-append piece (drop end line), length-drop close line, length-drop end line, t.within, t.ordered, gap.ordered);
        within = t.within;
      }

  pub untagged_so : get_or line next 0 ≡ 0x40 → TagFails (drop (next + 1) line) → SuffixFails (drop close line) BadLanguageTag
  untagged_so is f = bad_tag (at_follows is) f

  module _ (first : get_or line next 0 ≡ 0x5E) (other : get_or line (next + 1) 0 ≡ 0x5E) (begin : ℕ) (space : IsRunAt is_blank line (next + 2) begin) where
    carets_bytes : drop close line ≡ slice_range line close next ++ 0x5E ∷ 0x5E ∷ (slice_range line (next + 2) begin ++ drop begin line)
    carets_bytes =
        seam line close next gap.ordered ∙ ap (λ (l : List ℕ). slice_range line close next ++ l)
        (at_byte line next 0x5E (known_inside line next 0x5E first (omega arith)) first ∙ ap (λ (l : List ℕ). 0x5E ∷ l)
        (at_byte line (next + 1) 0x5E (known_inside line (next + 1) 0x5E other (omega arith)) other ∙ ap (λ (l : List ℕ). 0x5E ∷ l)
        (let place : next + 1 + 1 ≡ next + 2 = omega arith in ap (λ n. drop n line) place ∙ seam line (next + 2) begin space.ordered)))

    carets_follow : AfterCarets (drop close line) (drop begin line)
    carets_follow = record {
      gap = slice_range line close next;
      space = slice_range line (next + 2) begin;
      before = run_passes is_blank line close next gap;
      between = run_passes is_blank line (next + 2) begin space;
      whole = carets_bytes;
    }

    pub typed_so : (form datatype : List ℕ) (end : ℕ) (term : Term) → close ≤ length line → IriAt line begin datatype end → HasDatatype form datatype term
        → SuffixAt line form close term end
    typed_so form datatype end term inside i d =
        let gaps = slice_range line close next in
        let spaces = slice_range line (next + 2) begin in
        let piece = gaps ++ 0x5E ∷ 0x5E ∷ (spaces ++ i.piece) in
        let here : drop close line ≡ piece ++ drop end line = carets_bytes ∙ ap (λ (l : List ℕ). gaps ++ 0x5E ∷ 0x5E ∷ l)
        (ap (λ (l : List ℕ). spaces ++ l) i.here ∙ sym (append_assoc spaces i.piece (drop end line)))
        ∙ sym (append_assoc gaps (0x5E ∷ 0x5E ∷ (spaces ++ i.piece)) (drop end line)) in
        record {
          piece = piece;
          spells = typed (record { gap = gaps; space = spaces; before = run_passes is_blank line close next gap; between = run_passes is_blank line (next + 2) begin space; whole = refl }) i.spells d;
          stops = tt;
          here = here;
          ends = omega (arith, ap length here, length-append piece (drop end line), length-drop close line, length-drop end line, i.within, i.ends, gap.ordered, space.ordered);
          within = i.within;
        }

    pub mistyped_so : (form : List ℕ) (stop : LexStop) → get_or line begin 0 ≡ 0x3C → IsSo (IriTextSays {Z = Unit {0}} line begin) (Err stop) → IsSo (SuffixSays line form close) (Err stop)
    mistyped_so form NoMemory opens s = tt
    mistyped_so form (Fault f) opens s =
        bad_datatype (subst (AfterCarets (drop close line)) (at_byte line begin 0x3C (known_inside line begin 0x3C opens (omega arith)) opens) carets_follow) s

    pub untyped_so : get_or line begin 0 ≢ 0x3C → SuffixFails (drop close line) BadIri
    untyped_so other = no_datatype (record {
      more = drop begin line;
      carets = carets_follow;
      none = next_at (λ b. is_blank b || eqb b 0x3C) line begin (λ inside. or_from _ _ (space.stops inside) (ne_eqb _ _ other));
    })

-- no term begins with another byte
pub no_term_so : (line : List ℕ) (at : ℕ) → get_or line at 0 ≢ 0x3C → get_or line at 0 ≢ 0x5F → get_or line at 0 ≢ 0x22 → FailsFrom (drop at line) ObjectExpected
no_term_so line at a b c = no_term (next_at begins_term line at (λ inside. or_from _ _ (or_from _ _ (ne_eqb _ _ a) (ne_eqb _ _ b)) (ne_eqb _ _ c)))
