-- Terms that come in threes.
use Rattle.std.proofs.Common.{◌≡◌, ◌*◌, ◌/◌, List, [], ◌∷◌, ◌++◌, length, Result, Ok, Err, OnOk, OnErr, refl, sym, ap, ap₂, subst, ◌∙◌, arith}
use Rattle.gk_base.specs.declared.term.Term.{Term}
use Rattle.gk_base.specs.declared.term.Triple.{Triple}
use Rattle.term_list.specs.Triples.{triple_terms, terms_of, triples_in, AreWhole}

-- the triples of the terms of triples
pub triples_in-terms_of : (triples : List Triple) → triples_in (terms_of triples) ≡ triples
triples_in-terms_of [] = refl
triples_in-terms_of (t ∷ ts) = ap (λ us. t ∷ us) (triples_in-terms_of ts)

pub terms_of-append : (done more : List Triple) → terms_of (done ++ more) ≡ terms_of done ++ terms_of more
terms_of-append [] more = refl
terms_of-append (t ∷ ts) more = ap (λ us. triple_terms t ++ us) (terms_of-append ts more)

-- one triple more
module _ (terms new : List Term) (t : Triple) (whole : AreWhole terms) (grown : new ≡ terms ++ triple_terms t) where
  pushed : new ≡ terms_of (triples_in terms ++ t ∷ [])
  pushed = grown ∙ ap (λ l. l ++ triple_terms t) (sym whole) ∙ sym (terms_of-append (triples_in terms) (t ∷ []))

  pub triples_in-pushed : triples_in new ≡ triples_in terms ++ t ∷ []
  triples_in-pushed = ap triples_in pushed ∙ triples_in-terms_of (triples_in terms ++ t ∷ [])

  AreWhole-pushed : AreWhole new
  AreWhole-pushed = ap terms_of triples_in-pushed ∙ sym pushed

-- and none more where it failed
pub AreWhole-after : {A E : Type 0} (answer : Result A E) (terms new : List Term) (t : Triple) → AreWhole terms
    → OnOk answer (new ≡ terms ++ triple_terms t) → OnErr answer (new ≡ terms) → AreWhole new
AreWhole-after (Ok x) terms new t whole grown same = AreWhole-pushed terms new t whole grown
AreWhole-after (Err e) terms new t whole grown same = subst AreWhole (sym same) whole

-- the triples of another list
module _ (terms more : List Term) (whole : AreWhole terms) (wholes : AreWhole more) where
  joined : terms ++ more ≡ terms_of (triples_in terms ++ triples_in more)
  joined = ap₂ (λ (a b : List Term). a ++ b) (sym whole) (sym wholes) ∙ sym (terms_of-append (triples_in terms) (triples_in more))

  pub triples_in-appended : triples_in (terms ++ more) ≡ triples_in terms ++ triples_in more
  triples_in-appended = ap triples_in joined ∙ triples_in-terms_of (triples_in terms ++ triples_in more)

  pub AreWhole-appended : {A E : Type 0} (answer : Result A E) (new : List Term) → OnOk answer (new ≡ terms ++ more) → OnErr answer (new ≡ terms) → AreWhole new
  AreWhole-appended (Ok x) new grown same = subst AreWhole (sym grown) (ap terms_of triples_in-appended ∙ sym joined)
  AreWhole-appended (Err e) new grown same = subst AreWhole (sym same) whole

-- three terms a triple
pub length-terms_of : (triples : List Triple) → length (terms_of triples) ≡ 3 * length triples
length-terms_of [] = refl
length-terms_of (t ∷ ts) = let e = length-terms_of ts in omega arith

pub count_of : (terms : List Term) (triples : List Triple) → AreWhole terms → triples_in terms ≡ triples → length terms / 3 ≡ length triples
count_of terms triples whole view =
    let long : length terms ≡ 3 * length triples = sym (ap length whole) ∙ length-terms_of (triples_in terms) ∙ ap (λ ts. 3 * length ts) view in
    omega (arith, long)
