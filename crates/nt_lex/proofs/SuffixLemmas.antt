-- What stands after the string of a literal: one reading, or one fault.
use Rattle.std.proofs.Common.{◌≡◌, ℕ, eqb, ◌||◌, List, [], ◌∷◌, ◌++◌, map, drop, refl, sym, ap, ◌∙◌, subst, inl, inr, append_assoc}
use Rattle.std.proofs.lemmas.Bool.{or_parts, cases_Bool}
use Rattle.std.proofs.lemmas.Bool.Decides.{not_from_Decides}
use Rattle.std.proofs.lemmas.Slice.Eq.{bytes_eq-Decides}
use Rattle.std.specs.Str.{bytes_eq}
use Rattle.std.proofs.lemmas.List.{append_cancel_right}
use Rattle.std.specs.Char.{to_ascii_lowercase}
use Rattle.gk_base.specs.declared.term.Term.{Term}
use Rattle.gk_base.specs.declared.term.Term.TheVariants.{Lang}
use Rattle.gk_base.specs.declared.lex_fault.LexFault.{LexFault}
use Rattle.nt_lex.specs.Chars.{is_blank}
use Rattle.nt_lex.specs.Scans.{NextFails}
use Rattle.nt_lex.specs.Written.{spelling}
use Rattle.nt_lex.specs.Spelling.{xsd_string, SpellsIri, IsTag, HasDatatype, AfterCarets, AfterAt, SpellsSuffix, plain, typed, tagged}
use Rattle.nt_lex.specs.Reading.{SuffixStops, TagStops, IriFails, TagFails, no_letter, no_subtag, SuffixFails, no_datatype, bad_datatype, bad_tag}
use Rattle.nt_lex.proofs.ScanLemmas.{heads_differ, next_fails, span_once}
use Rattle.nt_lex.proofs.TagLemmas.{stops_run, fails_run, tag_once, tag_begins}
use Rattle.nt_lex.proofs.GrammarLemmas.{iri_once, iri_conflict, iri_fault_once}

-- more bytes may follow
pub carets_more : {bytes m : List ℕ} (rest : List ℕ) → AfterCarets bytes m → AfterCarets (bytes ++ rest) (m ++ rest)
carets_more {bytes} {m} rest x = record {
  gap = x.gap;
  space = x.space;
  before = x.before;
  between = x.between;
  whole = ap (λ (l : List ℕ). l ++ rest) x.whole ∙ append_assoc x.gap (0x5E ∷ 0x5E ∷ (x.space ++ m)) rest
      ∙ ap (λ (l : List ℕ). x.gap ++ 0x5E ∷ 0x5E ∷ l) (append_assoc x.space m rest);
}

pub at_more : {bytes m : List ℕ} (rest : List ℕ) → AfterAt bytes m → AfterAt (bytes ++ rest) (m ++ rest)
at_more {bytes} {m} rest x = record {
  gap = x.gap;
  before = x.before;
  whole = ap (λ (l : List ℕ). l ++ rest) x.whole ∙ append_assoc x.gap (0x40 ∷ m) rest;
}

pub carets_once : (b m n : List ℕ) → AfterCarets b m → AfterCarets b n → NextFails is_blank m → NextFails is_blank n → m ≡ n
carets_once b m n x y bm bn =
    let one = span_once is_blank x.gap y.gap (0x5E ∷ 0x5E ∷ (x.space ++ m)) (0x5E ∷ 0x5E ∷ (y.space ++ n)) x.before y.before refl refl (sym x.whole ∙ y.whole) in
    (span_once is_blank x.space y.space m n x.between y.between bm bn (ap (drop 2) one.1)).1

pub at_once : (b m n : List ℕ) → AfterAt b m → AfterAt b n → m ≡ n
at_once b m n x y = ap (drop 1) (span_once is_blank x.gap y.gap (0x40 ∷ m) (0x40 ∷ n) x.before y.before refl refl (sym x.whole ∙ y.whole)).1

pub carets_at : (b m n : List ℕ) → AfterCarets b m → AfterAt b n → ⊥
carets_at b m n x y =
    let one = span_once is_blank x.gap y.gap (0x5E ∷ 0x5E ∷ (x.space ++ m)) (0x40 ∷ n) x.before y.before refl refl (sym x.whole ∙ y.whole) in
    heads_differ 0x5E 0x40 (0x5E ∷ (x.space ++ m)) n refl one.1

-- an IRI begins with no tab or space
pub iri_begins : {piece text : List ℕ} (rest : List ℕ) (x : SpellsIri piece text) → piece ++ rest ≡ 0x3C ∷ ((spelling x.written ++ 0x3E ∷ []) ++ rest)
iri_begins rest x = ap (λ (l : List ℕ). l ++ rest) x.whole

iri_no_blank : {piece text : List ℕ} (rest : List ℕ) → SpellsIri piece text → NextFails is_blank (piece ++ rest)
iri_no_blank rest x = subst (NextFails is_blank) (sym (iri_begins rest x)) refl

neither_blank : (more : List ℕ) → NextFails (λ b. is_blank b || eqb b 0x3C) more → NextFails is_blank more
neither_blank [] n = tt
neither_blank (b ∷ more) n = (or_parts _ _ n).0

-- the literal is determined
datatype_once : (form datatype : List ℕ) (t u : Term) → HasDatatype form datatype t → HasDatatype form datatype u → t ≡ u
datatype_once form datatype t u x y =
    let d = bytes_eq-Decides datatype xsd_string in
    elim (cases_Bool (bytes_eq datatype xsd_string)) [
      | inl is ↦ x.plain (d.0 is) ∙ sym (y.plain (d.0 is))
      | inr isnt ↦ x.typed (not_from_Decides (bytes_eq datatype xsd_string) d isnt) ∙ sym (y.typed (not_from_Decides (bytes_eq datatype xsd_string) d isnt))
    ]

-- two readings of what follows a string
pub suffix_once : (s v form r t : List ℕ) (a b : Term) (x : SpellsSuffix s form a) (y : SpellsSuffix v form b) → SuffixStops x r → SuffixStops y t
    → s ++ r ≡ v ++ t → (a ≡ b) × (s ≡ v)
suffix_once s v form r t a b (plain x) (plain y) sx sy e = (refl, x ∙ sym y)
suffix_once s v form r t a b (plain x) (typed {iri} carets i d) sx sy e =
    absurd (sx.no_datatype (iri ++ t) (subst (λ l. AfterCarets l (iri ++ t)) (sym e ∙ ap (λ (l : List ℕ). l ++ r) x) (carets_more t carets)))
suffix_once s v form r t a b (plain x) (tagged {tag} at is) sx sy e =
    absurd (sx.no_tag (tag ++ t) (subst (λ l. AfterAt l (tag ++ t)) (sym e ∙ ap (λ (l : List ℕ). l ++ r) x) (at_more t at)))
suffix_once s v form r t a b (typed {iri} carets i d) (plain y) sx sy e =
    absurd (sy.no_datatype (iri ++ r) (subst (λ l. AfterCarets l (iri ++ r)) (e ∙ ap (λ (l : List ℕ). l ++ t) y) (carets_more r carets)))
suffix_once s v form r t a b (typed {iri} {datatype} carets i d) (typed {iri = iri'} {datatype = datatype'} carets' i' d') sx sy e =
    let same = carets_once (v ++ t) (iri ++ r) (iri' ++ t) (subst (λ l. AfterCarets l (iri ++ r)) e (carets_more r carets)) (carets_more t carets') (iri_no_blank r i) (iri_no_blank t i') in
    let one = iri_once iri iri' datatype datatype' r t i i' same in
    (datatype_once form datatype' a b (subst (λ n. HasDatatype form n a) one.1 d) d', append_cancel_right s v t (ap (λ (l : List ℕ). s ++ l) (sym one.2) ∙ e))
suffix_once s v form r t a b (typed {iri} carets i d) (tagged {tag} at is) sx sy e =
    absurd (carets_at (v ++ t) (iri ++ r) (tag ++ t) (subst (λ l. AfterCarets l (iri ++ r)) e (carets_more r carets)) (at_more t at))
suffix_once s v form r t a b (tagged {tag} at is) (plain y) sx sy e =
    absurd (sy.no_tag (tag ++ r) (subst (λ l. AfterAt l (tag ++ r)) (e ∙ ap (λ (l : List ℕ). l ++ t) y) (at_more r at)))
suffix_once s v form r t a b (tagged {tag} at is) (typed {iri} carets i d) sx sy e =
    absurd (carets_at (v ++ t) (iri ++ t) (tag ++ r) (carets_more t carets) (subst (λ l. AfterAt l (tag ++ r)) e (at_more r at)))
suffix_once s v form r t a b (tagged {tag} at is) (tagged {tag = tag'} at' is') sx sy e =
    let same = at_once (v ++ t) (tag ++ r) (tag' ++ t) (subst (λ l. AfterAt l (tag ++ r)) e (at_more r at)) (at_more t at') in
    let one = tag_once tag tag' r t is is' (stops_run is sx) (stops_run is' sy) same in
    (ap (λ (l : List ℕ). Lang form (map to_ascii_lowercase l)) one.0, append_cancel_right s v t (ap (λ (l : List ℕ). s ++ l) (sym one.1) ∙ e))

tag_conflict : (tag rest bytes : List ℕ) (is : IsTag tag) → TagStops is rest → tag ++ rest ≡ bytes → TagFails bytes → ⊥
tag_conflict tag rest bytes is stops e (no_letter n) = tag_begins tag rest bytes is e n
tag_conflict tag rest bytes is stops e (no_subtag f) =
    let one = tag_once tag f.tag rest (0x2D ∷ f.more) is f.is (stops_run is stops) (fails_run f) (e ∙ f.whole) in
    next_fails _ 0x2D f.more rest stops.dash one.1 refl

-- what is read there is not faulty
pub suffix_conflict : (s form rest bytes : List ℕ) (a : Term) (fault : LexFault) (x : SpellsSuffix s form a) → SuffixStops x rest → s ++ rest ≡ bytes
    → SuffixFails bytes fault → ⊥
suffix_conflict s form rest bytes a fault (plain x) stops e (no_datatype f) =
    stops.no_datatype f.more (subst (λ l. AfterCarets l f.more) (sym e ∙ ap (λ (l : List ℕ). l ++ rest) x) f.carets)
suffix_conflict s form rest bytes a fault (plain x) stops e (bad_datatype {more} carets f) =
    stops.no_datatype (0x3C ∷ more) (subst (λ l. AfterCarets l (0x3C ∷ more)) (sym e ∙ ap (λ (l : List ℕ). l ++ rest) x) carets)
suffix_conflict s form rest bytes a fault (plain x) stops e (bad_tag {more} at f) =
    stops.no_tag more (subst (λ l. AfterAt l more) (sym e ∙ ap (λ (l : List ℕ). l ++ rest) x) at)
suffix_conflict s form rest bytes a fault (typed {iri} carets i d) stops e (no_datatype f) =
    let same = carets_once bytes (iri ++ rest) f.more (subst (λ l. AfterCarets l (iri ++ rest)) e (carets_more rest carets)) f.carets (iri_no_blank rest i) (neither_blank f.more f.none) in
    next_fails _ 0x3C ((spelling i.written ++ 0x3E ∷ []) ++ rest) f.more f.none (sym same ∙ iri_begins rest i) refl
suffix_conflict s form rest bytes a fault (typed {iri} {datatype} carets i d) stops e (bad_datatype {more} carets' f) =
    let same = carets_once bytes (iri ++ rest) (0x3C ∷ more) (subst (λ l. AfterCarets l (iri ++ rest)) e (carets_more rest carets)) carets' (iri_no_blank rest i) refl in
    iri_conflict iri datatype rest more fault i same f
suffix_conflict s form rest bytes a fault (typed {iri} carets i d) stops e (bad_tag {more} at f) =
    carets_at bytes (iri ++ rest) more (subst (λ l. AfterCarets l (iri ++ rest)) e (carets_more rest carets)) at
suffix_conflict s form rest bytes a fault (tagged {tag} at is) stops e (no_datatype f) =
    carets_at bytes f.more (tag ++ rest) f.carets (subst (λ l. AfterAt l (tag ++ rest)) e (at_more rest at))
suffix_conflict s form rest bytes a fault (tagged {tag} at is) stops e (bad_datatype {more} carets f) =
    carets_at bytes (0x3C ∷ more) (tag ++ rest) carets (subst (λ l. AfterAt l (tag ++ rest)) e (at_more rest at))
suffix_conflict s form rest bytes a fault (tagged {tag} at is) stops e (bad_tag {more} at' f) =
    tag_conflict tag rest more is stops (at_once bytes (tag ++ rest) more (subst (λ l. AfterAt l (tag ++ rest)) e (at_more rest at)) at') f

open_iri : (bytes more other : List ℕ) → AfterCarets bytes more → NextFails (λ b. is_blank b || eqb b 0x3C) more → AfterCarets bytes (0x3C ∷ other) → ⊥
open_iri bytes more other x n y = next_fails _ 0x3C other more n (carets_once bytes more (0x3C ∷ other) x y (neither_blank more n) refl) refl

-- there is one fault
pub suffix_fault_once : (bytes : List ℕ) (fault other : LexFault) → SuffixFails bytes fault → SuffixFails bytes other → fault ≡ other
suffix_fault_once bytes fault other (no_datatype f) (no_datatype g) = refl
suffix_fault_once bytes fault other (no_datatype f) (bad_datatype {more} carets g) = absurd (open_iri bytes f.more more f.carets f.none carets)
suffix_fault_once bytes fault other (no_datatype f) (bad_tag {more} at g) = absurd (carets_at bytes f.more more f.carets at)
suffix_fault_once bytes fault other (bad_datatype {more} carets f) (no_datatype g) = absurd (open_iri bytes g.more more g.carets g.none carets)
suffix_fault_once bytes fault other (bad_datatype {more} carets f) (bad_datatype {more = more'} carets' g) =
    let same : more ≡ more' = ap (drop 1) (carets_once bytes (0x3C ∷ more) (0x3C ∷ more') carets carets' refl refl) in
    iri_fault_once more' fault other (subst (λ l. IriFails l fault) same f) g
suffix_fault_once bytes fault other (bad_datatype {more} carets f) (bad_tag {more = more'} at g) = absurd (carets_at bytes (0x3C ∷ more) more' carets at)
suffix_fault_once bytes fault other (bad_tag {more} at f) (no_datatype g) = absurd (carets_at bytes g.more more g.carets at)
suffix_fault_once bytes fault other (bad_tag {more} at f) (bad_datatype {more = more'} carets g) = absurd (carets_at bytes (0x3C ∷ more') more carets at)
suffix_fault_once bytes fault other (bad_tag at f) (bad_tag at' g) = refl
