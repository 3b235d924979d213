-- Language tags: one reading.
use Rattle.std.proofs.Common.{◌≡◌, ℕ, true, List, [], ◌∷◌, ◌++◌, drop, refl, sym, ap, ap₂, ◌∙◌, subst, append_assoc}
use Rattle.std.proofs.lemmas.Bool.{and_parts}
use Rattle.std.specs.List.{list_all}
use Rattle.nt_lex.specs.Chars.{is_letter, is_letter_or_digit}
use Rattle.nt_lex.specs.Scans.{NextFails}
use Rattle.nt_lex.specs.Spelling.{is_subtag, is_primary, dashed, IsTag}
use Rattle.nt_lex.specs.Reading.{lengthens, TagStops, SubtagFails}
use Rattle.nt_lex.proofs.ScanLemmas.{next_fails, span_once}
use Rattle.nt_lex.proofs.WrittenLemmas.{true_false}

-- no dash with a letter or digit comes next
abbrev pub NoSubtag : List ℕ → Type 0
NoSubtag rest = (more : List ℕ) → rest ≡ 0x2D ∷ more → NextFails is_letter_or_digit more

-- the tag is the longest, read from its first letter on
pub record TagRun {tag : List ℕ} (is : IsTag tag) (rest : List ℕ) : Type 0 where
  pub last : NextFails (lengthens is.subtags) rest
  pub none : NoSubtag rest

pub stops_run : {tag rest : List ℕ} (is : IsTag tag) → TagStops is rest → TagRun is rest
stops_run {tag} {rest} is s = record {
  last = s.last;
  none = λ more e. absurd (next_fails _ 0x2D more rest s.dash e refl);
}

dash_ends : (subtags : List (List ℕ)) (more : List ℕ) → NextFails (lengthens subtags) (0x2D ∷ more)
dash_ends [] more = refl
dash_ends (g ∷ gs) more = refl

pub fails_run : {bytes : List ℕ} (f : SubtagFails bytes) → TagRun f.is (0x2D ∷ f.more)
fails_run f = record {
  last = dash_ends f.is.subtags f.more;
  none = λ more e. subst (NextFails is_letter_or_digit) (ap (drop 1) e) f.none;
}

pub subtag_all : (g : List ℕ) → is_subtag g ≡ true → list_all is_letter_or_digit g ≡ true
subtag_all [] s = absurd (true_false (sym s))
subtag_all (c ∷ cs) s = s

pub primary_all : (g : List ℕ) → is_primary g ≡ true → list_all is_letter g ≡ true
primary_all [] s = absurd (true_false (sym s))
primary_all (c ∷ cs) s = s

-- after a last part with no further subtag comes no subtag
no_more : (g : List ℕ) (gs : List (List ℕ)) (r t : List ℕ) → is_subtag g ≡ true → NoSubtag r → r ≡ dashed (g ∷ gs) ++ t → ⊥
no_more [] gs r t s none e = true_false (sym s)
no_more (c ∷ cs) gs r t s none e = true_false (sym (and_parts _ _ s).0 ∙ none (((c ∷ cs) ++ dashed gs) ++ t) e)

after_subtag : (gs : List (List ℕ)) (r : List ℕ) → NextFails is_letter_or_digit r → NextFails is_letter_or_digit (dashed gs ++ r)
after_subtag [] r n = n
after_subtag (g ∷ gs) r n = refl

groups_once : (gs hs : List (List ℕ)) (r t : List ℕ) → list_all is_subtag gs ≡ true → list_all is_subtag hs ≡ true
    → NextFails is_letter_or_digit r → NextFails is_letter_or_digit t → NoSubtag r → NoSubtag t → dashed gs ++ r ≡ dashed hs ++ t → (gs ≡ hs) × (r ≡ t)
groups_once [] [] r t x y nr nt sr st e = (refl, e)
groups_once [] (h ∷ hs) r t x y nr nt sr st e = absurd (no_more h hs r t (and_parts _ _ y).0 sr e)
groups_once (g ∷ gs) [] r t x y nr nt sr st e = absurd (no_more g gs t r (and_parts _ _ x).0 st (sym e))
groups_once (g ∷ gs) (h ∷ hs) r t x y nr nt sr st e =
    let tails : g ++ (dashed gs ++ r) ≡ h ++ (dashed hs ++ t) = sym (append_assoc g (dashed gs) r) ∙ ap (drop 1) e ∙ append_assoc h (dashed hs) t in
    let one = span_once is_letter_or_digit g h (dashed gs ++ r) (dashed hs ++ t) (subtag_all g (and_parts _ _ x).0) (subtag_all h (and_parts _ _ y).0)
    (after_subtag gs r nr) (after_subtag hs t nt) tails in
    let more = groups_once gs hs r t (and_parts _ _ x).1 (and_parts _ _ y).1 nr nt sr st one.1 in
    (ap₂ (λ u (us : List (List ℕ)). u ∷ us) one.0 more.0, more.1)

after_primary : (gs : List (List ℕ)) (r : List ℕ) → NextFails (lengthens gs) r → NextFails is_letter (dashed gs ++ r)
after_primary [] r n = n
after_primary (g ∷ gs) r n = refl

parts_once : (gs hs : List (List ℕ)) (r t : List ℕ) → list_all is_subtag gs ≡ true → list_all is_subtag hs ≡ true
    → NextFails (lengthens gs) r → NextFails (lengthens hs) t → NoSubtag r → NoSubtag t → dashed gs ++ r ≡ dashed hs ++ t → (gs ≡ hs) × (r ≡ t)
parts_once [] [] r t x y nr nt sr st e = (refl, e)
parts_once [] (h ∷ hs) r t x y nr nt sr st e = absurd (no_more h hs r t (and_parts _ _ y).0 sr e)
parts_once (g ∷ gs) [] r t x y nr nt sr st e = absurd (no_more g gs t r (and_parts _ _ x).0 st (sym e))
parts_once (g ∷ gs) (h ∷ hs) r t x y nr nt sr st e = groups_once (g ∷ gs) (h ∷ hs) r t x y nr nt sr st e

pub tag_once : (a b r t : List ℕ) (x : IsTag a) (y : IsTag b) → TagRun x r → TagRun y t → a ++ r ≡ b ++ t → (a ≡ b) × (r ≡ t)
tag_once a b r t x y rx ry e =
    let parts : x.primary ++ (dashed x.subtags ++ r) ≡ y.primary ++ (dashed y.subtags ++ t) =
    sym (append_assoc x.primary (dashed x.subtags) r) ∙ ap (λ (l : List ℕ). l ++ r) (sym x.whole) ∙ e
    ∙ ap (λ (l : List ℕ). l ++ t) y.whole ∙ append_assoc y.primary (dashed y.subtags) t in
    let first = span_once is_letter x.primary y.primary (dashed x.subtags ++ r) (dashed y.subtags ++ t) (primary_all x.primary x.letters) (primary_all y.primary y.letters)
    (after_primary x.subtags r rx.last) (after_primary y.subtags t ry.last) parts in
    let more = parts_once x.subtags y.subtags r t x.groups y.groups rx.last ry.last rx.none ry.none first.1 in
    (x.whole ∙ ap₂ (λ (u : List ℕ) (us : List (List ℕ)). u ++ dashed us) first.0 more.0 ∙ sym y.whole, more.1)

begins_primary : (g more : List ℕ) → is_primary g ≡ true → NextFails is_letter (g ++ more) → ⊥
begins_primary [] more p n = true_false (sym p)
begins_primary (c ∷ cs) more p n = true_false (sym (and_parts _ _ p).0 ∙ n)

-- a tag begins with a letter
pub tag_begins : (tag rest bytes : List ℕ) → IsTag tag → tag ++ rest ≡ bytes → NextFails is_letter bytes → ⊥
tag_begins tag rest bytes is e n =
    begins_primary is.primary (dashed is.subtags ++ rest) is.letters
    (subst (NextFails is_letter) (sym e ∙ ap (λ (l : List ℕ). l ++ rest) is.whole ∙ append_assoc is.primary (dashed is.subtags) rest) n)
