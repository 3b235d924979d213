-- The line of a triple says the triple.
use Rattle.std.proofs.Common.{◌≡◌, ℕ, ◌+◌, ◌-◌, ◌<◌, Bool, true, false, not, eqb, List, [], ◌∷◌, ◌++◌, length, drop, get_or, Ok, Some, refl, sym, ap, ◌∙◌, subst, arith, inl, lit<, length-append, append_assoc, ⊎_elim}
use Rattle.std.proofs.lemmas.Bool.{not-true, true≢false}
use Rattle.std.proofs.lemmas.Bool.Decides.{nat_tests}
use Rattle.std.proofs.lemmas.List.{get_or-drop, get_or_append_left, drop_at, drop-drop}
use Rattle.std.proofs.lemmas.List.Sums.{AllPass-from_list_all}
use Rattle.std.proofs.lemmas.Str.{char_from_byte}
use Rattle.std.specs.List.{list_all}
use Rattle.gk_base.specs.Term.{is_literal}
use Rattle.gk_base.specs.declared.term.Term.{Term}
use Rattle.gk_base.specs.declared.term.Term.TheVariants.{Iri, Blank, Plain, Typed, Lang}
use Rattle.gk_base.specs.declared.term.Triple.{Triple}
use Rattle.nt_lex.specs.Chars.{is_blank, is_label_inner}
use Rattle.nt_lex.specs.Scans.{IsRunAt, NextFails}
use Rattle.nt_lex.specs.Spelling.{SpellsSuffix, plain, typed, tagged, Spells, iri, blank, literal}
use Rattle.nt_lex.specs.Reading.{LabelStops, lengthens, SuffixStops, TermStops, Reads}
use Rattle.nt_lex.proofs.CallerLemmas.{heads_differ}
use Rattle.nt_reader.specs.Line.{Skips, begins_subject, begins_predicate, term, over, whole, predicate_reads, subject_reads, triple, FromObject, FromPredicate, FromSubject, LineSays}
use Rattle.nt_reader.proofs.CallerLemmas.{IsText, text_append, text_byte, text_cons, text_term, with_end}
use Rattle.term_text.specs.CanonicalText.{term_text, triple_text}
use Rattle.term_text.specs.ReadBack.{CanBeSpelled}
use Rattle.term_text.proofs.CallerLemmas.{spelled_whole}
use Rattle.merge_graph.specs.Saying.{is_iri}

-- a triple that a line can say
pub record IsSayable (t : Triple) : Type 0 where
  pub subject : CanBeSpelled t.subject
  pub predicate : CanBeSpelled t.predicate
  pub object : CanBeSpelled t.object
  pub no_literal : is_literal t.subject ≡ false
  pub an_iri : is_iri t.predicate ≡ true

-- the line without its end
abbrev pub line_of : Triple → List ℕ
line_of t = term_text t.subject ++ 0x20 ∷ (term_text t.predicate ++ 0x20 ∷ (term_text t.object ++ 0x20 ∷ 0x2E ∷ []))

pub line_ends : (t : Triple) → with_end (line_of t) ≡ triple_text t
line_ends t =
    let o = term_text t.object in
    let p = term_text t.predicate in
    let tail : List ℕ = 0x20 ∷ 0x2E ∷ [] in
    append_assoc (term_text t.subject) (0x20 ∷ (p ++ 0x20 ∷ (o ++ tail))) (0x0A ∷ [])
    ∙ ap (λ (l : List ℕ). term_text t.subject ++ 0x20 ∷ l)
    (append_assoc p (0x20 ∷ (o ++ tail)) (0x0A ∷ []) ∙ ap (λ (l : List ℕ). p ++ 0x20 ∷ l) (append_assoc o tail (0x0A ∷ [])))

-- ---- where terms stop

label_stops : (more : List ℕ) → LabelStops (0x20 ∷ more)
label_stops more = record {
  dots = [];
  after = 0x20 ∷ more;
  each = refl;
  whole = refl;
  none = λ c rest inner e. true≢false (sym inner ∙ ap is_label_inner (char_from_byte (0x20 ∷ more) rest c e (lit< tt) (omega arith)));
}

lengthens_space : (subtags : List (List ℕ)) → lengthens subtags 0x20 ≡ false
lengthens_space [] = refl
lengthens_space (s ∷ ss) = refl

-- neither of the marks stands after the object
no_mark : (b : ℕ) (gap rest : List ℕ) → eqb 0x20 b ≡ false → eqb 0x2E b ≡ false → 0x20 ∷ 0x2E ∷ [] ≡ gap ++ b ∷ rest → ⊥
no_mark b [] rest p q e = heads_differ 0x20 b (0x2E ∷ []) rest p e
no_mark b (g ∷ []) rest p q e = heads_differ 0x2E b [] rest q (ap (drop 1) e)
no_mark b (g ∷ h ∷ gs) rest p q e = absurd (omega (arith, ap length e, length-append gs (b ∷ rest)))

suffix_stops : (piece form : List ℕ) (t : Term) (s : SpellsSuffix piece form t) → SuffixStops s (0x20 ∷ 0x2E ∷ [])
suffix_stops piece form t (plain e) = record {
  no_datatype = λ more a. no_mark 0x5E a.gap _ refl refl a.whole;
  no_tag = λ more a. no_mark 0x40 a.gap _ refl refl a.whole;
}
suffix_stops piece form t (typed carets name has) = tt
suffix_stops piece form t (tagged at is) = record { last = lengthens_space is.subtags; dash = refl }

object_stops : (piece : List ℕ) (t : Term) (s : Spells piece t) → TermStops s (0x20 ∷ 0x2E ∷ [])
object_stops piece t (iri s) = tt
object_stops piece t (blank s) = label_stops (0x2E ∷ [])
object_stops piece t (literal {form = form} {suffix = suffix} s after w) = suffix_stops suffix form t after

-- what is no literal stops before a space
subject_stops : (piece : List ℕ) (t : Term) (s : Spells piece t) (more : List ℕ) → is_literal t ≡ false → TermStops s (0x20 ∷ more)
subject_stops piece t (iri s) more e = tt
subject_stops piece t (blank s) more e = label_stops more
subject_stops piece t (literal s after w) more e = suffix_of t after e
  where
    suffix_of : {suffix form : List ℕ} (t : Term) (after : SpellsSuffix suffix form t) → is_literal t ≡ false → SuffixStops after (0x20 ∷ more)
    suffix_of t (plain w) e = absurd (true≢false e)
    suffix_of t (typed carets name has) e = tt
    suffix_of t (tagged at is) e = absurd (true≢false e)

-- ---- with which bytes they begin

record Begins (p : ℕ → Bool) (text : List ℕ) : Type 0 where
  head : ℕ
  more : List ℕ
  whole : text ≡ head ∷ more
  passes : p head ≡ true

subject_begins : (t : Term) → is_literal t ≡ false → Begins begins_subject (term_text t)
subject_begins (Iri name) e = record { head = 0x3C; more = _; whole = refl; passes = refl }
subject_begins (Blank label) e = record { head = 0x5F; more = _; whole = refl; passes = refl }
subject_begins (Plain form) e = absurd (true≢false e)
subject_begins (Typed form datatype) e = absurd (true≢false e)
subject_begins (Lang form tag) e = absurd (true≢false e)

predicate_begins : (t : Term) → is_iri t ≡ true → Begins begins_predicate (term_text t)
predicate_begins (Iri name) e = record { head = 0x3C; more = _; whole = refl; passes = refl }
predicate_begins (Blank label) e = absurd (true≢false (sym e))
predicate_begins (Plain form) e = absurd (true≢false (sym e))
predicate_begins (Typed form datatype) e = absurd (true≢false (sym e))
predicate_begins (Lang form tag) e = absurd (true≢false (sym e))

iri_no_literal : (t : Term) → is_iri t ≡ true → is_literal t ≡ false
iri_no_literal (Iri name) e = refl
iri_no_literal (Blank label) e = refl
iri_no_literal (Plain form) e = absurd (true≢false (sym e))
iri_no_literal (Typed form datatype) e = absurd (true≢false (sym e))
iri_no_literal (Lang form tag) e = absurd (true≢false (sym e))

-- a term begins with no blank
term_begins : (t : Term) → Begins (λ b. not (is_blank b)) (term_text t)
term_begins (Iri name) = record { head = 0x3C; more = _; whole = refl; passes = refl }
term_begins (Blank label) = record { head = 0x5F; more = _; whole = refl; passes = refl }
term_begins (Plain form) = record { head = 0x22; more = _; whole = refl; passes = refl }
term_begins (Typed form datatype) = record { head = 0x22; more = _; whole = refl; passes = refl }
term_begins (Lang form tag) = record { head = 0x22; more = _; whole = refl; passes = refl }

-- ---- the line

-- the line has this text from this place on
record At (line : List ℕ) (at : ℕ) (rest : List ℕ) : Type 0 where
  here : drop at line ≡ rest
  inside : at + length rest ≡ length line

at_first : (line : List ℕ) → At line 0 line
at_first line = record { here = refl; inside = omega arith }

at_byte : (line : List ℕ) (at b : ℕ) (rest : List ℕ) → At line at (b ∷ rest) → get_or line at 0 ≡ b
at_byte line at b rest a = ap (λ n. get_or line n 0) (omega arith) ∙ sym (get_or-drop at line 0 0) ∙ ap (λ (l : List ℕ). get_or l 0 0) a.here

at_more : (line : List ℕ) (at : ℕ) (w rest : List ℕ) → At line at (w ++ rest) → At line (at + length w) rest
at_more line at w rest a = record {
  here = sym (drop-drop (length w) at line) ∙ ap (drop (length w)) a.here ∙ drop_at w rest (length w) refl;
  inside = omega (arith, a.inside, length-append w rest);
}

run_here : (p : ℕ → Bool) (line : List ℕ) (at : ℕ) (w rest : List ℕ) → At line at (w ++ rest) → list_all p w ≡ true → NextFails p rest → IsRunAt p line at (at + length w)
run_here p line at w rest a all next = record {
  ordered = omega arith;
  in_range = omega (arith, a.inside, length-append w rest);
  pass = λ k from below.
      let place : at + (k - at) ≡ k = omega (arith, from) in
      let inside : k - at < length w = omega (arith, from, below) in
      ap p (ap (λ n. get_or line n 0) (sym place) ∙ sym (get_or-drop at line (k - at) 0) ∙ ap (λ (l : List ℕ). get_or l (k - at) 0) a.here ∙ get_or_append_left w rest 0 (k - at) inside)
      ∙ AllPass-from_list_all p w all (k - at) 0 inside;
  stops = λ more. ends rest next (at_more line at w rest a) more;
}
  where
    ends : (rest : List ℕ) → NextFails p rest → At line (at + length w) rest → at + length w < length line → p (get_or line (at + length w) 0) ≡ false
    ends [] next b more = absurd (omega (arith, b.inside, more))
    ends (c ∷ rest) next b more = ap p (at_byte line (at + length w) c rest b) ∙ next

-- a term stands after a space
past_space : (line : List ℕ) (at : ℕ) (t : Term) (rest : List ℕ) → At line at (0x20 ∷ (term_text t ++ rest)) → Skips line at (at + 1)
past_space line at t rest a =
    let b = term_begins t in
    run_here is_blank line at (0x20 ∷ []) (b.head ∷ (b.more ++ rest)) (subst (λ (l : List ℕ). At line at (0x20 ∷ (l ++ rest))) b.whole a) refl (not-true _ b.passes)

reads_here : (line : List ℕ) (at : ℕ) (t : Term) (rest : List ℕ) (s : Spells (term_text t) t) → TermStops s rest → At line at (term_text t ++ rest) → Reads line at t (at + length (term_text t))
reads_here line at t rest s stops a = record { piece = term_text t; rest = rest; spells = s; stops = stops; here = a.here; ends = refl }

begins_here : (p : ℕ → Bool) (line : List ℕ) (at : ℕ) (text rest : List ℕ) → Begins p text → At line at (text ++ rest) → p (get_or line at 0) ≡ true
begins_here p line at text rest b a =
    ap p (at_byte line at b.head (b.more ++ rest) (subst (λ (l : List ℕ). At line at (l ++ rest)) b.whole a)) ∙ b.passes

spelled : (t : Term) → CanBeSpelled t → Spells (term_text t) t
spelled t can = (spelled_whole can.piece t can.spells).spells

text_of : (t : Term) → CanBeSpelled t → IsText (term_text t)
text_of t can = text_term (term_text t) t (spelled t can)

pub line_is_text : (t : Triple) → IsSayable t → IsText (line_of t)
line_is_text t can =
    let space : (w : List ℕ) → IsText w → IsText (0x20 ∷ w) = λ w is. text_cons 0x20 w (lit< tt) refl is in
    text_append (term_text t.subject) _ (text_of t.subject can.subject)
    (space _ (text_append (term_text t.predicate) _ (text_of t.predicate can.predicate)
    (space _ (text_append (term_text t.object) _ (text_of t.object can.object) (space (0x2E ∷ []) (text_byte 0x2E (lit< tt) refl))))))

module _ (t : Triple) (can : IsSayable t) where
  from_object : (line : List ℕ) (at : ℕ) → At line at (term_text t.object ++ 0x20 ∷ 0x2E ∷ []) → FromObject line t.subject t.predicate at (Ok t)
  from_object line at a =
      let o = term_text t.object in
      let s = spelled t.object can.object in
      let end = at + length o in
      let after : At line end (0x20 ∷ 0x2E ∷ []) = at_more line at o (0x20 ∷ 0x2E ∷ []) a in
      let dot : At line (end + 1) (0x2E ∷ []) = at_more line end (0x20 ∷ []) (0x2E ∷ []) after in
      let last : At line (end + 1 + 1) [] = at_more line (end + 1) (0x2E ∷ []) [] dot in
      let skips : Skips line end (end + 1) = run_here is_blank line end (0x20 ∷ []) (0x2E ∷ []) after refl refl in
      whole {object = t.object} {end = end} {dot = end + 1}
      (reads_here line at t.object (0x20 ∷ 0x2E ∷ []) s (object_stops o t.object s) a) skips
      (over (end + 1 + 1 + 0) (at_byte line (end + 1) 0x2E [] dot) (run_here is_blank line (end + 1 + 1) [] [] last refl tt) (inl (omega (arith, last.inside))))

  from_predicate : (line : List ℕ) (at : ℕ) → At line at (term_text t.predicate ++ 0x20 ∷ (term_text t.object ++ 0x20 ∷ 0x2E ∷ [])) → FromPredicate line t.subject at (Ok t)
  from_predicate line at a =
      let p = term_text t.predicate in
      let more : List ℕ = term_text t.object ++ 0x20 ∷ 0x2E ∷ [] in
      let s = spelled t.predicate can.predicate in
      let end = at + length p in
      let after : At line end (0x20 ∷ more) = at_more line at p (0x20 ∷ more) a in
      predicate_reads {predicate = t.predicate} {end = end} {next = end + 1}
      (term (begins_here begins_predicate line at p (0x20 ∷ more) (predicate_begins t.predicate can.an_iri) a)
      (reads_here line at t.predicate (0x20 ∷ more) s (subject_stops p t.predicate s more (iri_no_literal t.predicate can.an_iri)) a))
      (past_space line end t.object (0x20 ∷ 0x2E ∷ []) after)
      (from_object line (end + 1) (at_more line end (0x20 ∷ []) more after))

  from_subject : (line : List ℕ) (at : ℕ) → At line at (line_of t) → FromSubject line at (Ok t)
  from_subject line at a =
      let w = term_text t.subject in
      let more : List ℕ = term_text t.predicate ++ 0x20 ∷ (term_text t.object ++ 0x20 ∷ 0x2E ∷ []) in
      let s = spelled t.subject can.subject in
      let end = at + length w in
      let after : At line end (0x20 ∷ more) = at_more line at w (0x20 ∷ more) a in
      subject_reads {subject = t.subject} {end = end} {next = end + 1}
      (term (begins_here begins_subject line at w (0x20 ∷ more) (subject_begins t.subject can.no_literal) a)
      (reads_here line at t.subject (0x20 ∷ more) s (subject_stops w t.subject s more can.no_literal) a))
      (past_space line end t.predicate (0x20 ∷ (term_text t.object ++ 0x20 ∷ 0x2E ∷ [])) after)
      (from_predicate line (end + 1) (at_more line end (0x20 ∷ []) more after))

  pub line_says : LineSays (line_of t) (Ok (Some t))
  line_says =
      let line = line_of t in
      let b = subject_begins t.subject can.no_literal in
      let begun : At line 0 (b.head ∷ (b.more ++ 0x20 ∷ (term_text t.predicate ++ 0x20 ∷ (term_text t.object ++ 0x20 ∷ 0x2E ∷ [])))) =
      subst (λ (l : List ℕ). At line 0 (l ++ 0x20 ∷ (term_text t.predicate ++ 0x20 ∷ (term_text t.object ++ 0x20 ∷ 0x2E ∷ [])))) b.whole (at_first line) in
      triple 0 (line_is_text t can).utf8
      (run_here is_blank line 0 [] _ begun refl (no_blank b.head b.passes))
      (λ o. ⊎_elim (λ e. absurd (omega (arith, begun.inside, e))) (λ e. true≢false (sym b.passes ∙ ap begins_subject (sym (at_byte line 0 b.head _ begun) ∙ e))) o)
      (from_subject line 0 (at_first line))
    where
      no_blank : (b : ℕ) → begins_subject b ≡ true → is_blank b ≡ false
      no_blank b h = grind (arith, nat_tests)
