-- Links between numbers lead as the links between their terms do.
use Rattle.std.proofs.Common.{List, [], ◌∷◌, ℕ, zero, suc, ◌+◌, ◌-◌, ◌<◌, ◌≤◌, Bool, true, false, nat_eq, Option, Some, None, map, length, slice_get, take, ◌≡◌, inl, inr, refl, sym, ap, ap₂, subst, ◌∙◌, arith, true≢false, eqb-true, eq-eqb, if◌then◌else◌}
use Rattle.std.specs.Option.{option_map}
use Rattle.std.proofs.lemmas.Bool.{cases_Bool, false_from_ne_true}
use Rattle.std.proofs.lemmas.List.{take-take}
use Rattle.std.proofs.lemmas.Option.{slice_get-get_or}
use Rattle.gk_base.specs.declared.term.Term.{Term}
use Rattle.gk_base.specs.declared.term.Term.TheVariants.{Plain}
use Rattle.chase_laws.specs.Joined.{joined}
use Rattle.term_table.specs.Numbering.{same_term, AreDistinct}
use Rattle.term_table.proofs.CallerLemmas.{same_term-true, same_term-refl}
use Rattle.proof_file.specs.Leads.{other_end, end_along, arrives, links_lead}
use Rattle.proof_file.specs.Steps.{term_at}
use Rattle.proof_file.specs.Tells.{places_of}
use Rattle.proof_graph.specs.Way.{through, way}
use Rattle.proof_graph.proofs.WayLemmas.{way-leads}

module _ (names : List Term) (distinct : AreDistinct names) where
  abbrev pub term : ℕ → Term
  term m = term_at names m

  -- numbers are equal where their terms are
  same_number : (a b : ℕ) → a < length names → b < length names → same_term (term a) (term b) ≡ nat_eq a b
  same_number a b ha hb = elim (cases_Bool (nat_eq a b)) [
    | inl e ↦ ap (λ m. same_term (term m) (term b)) (eqb-true a b e) ∙ same_term-refl (term b) ∙ sym e
    | inr e ↦
        false_from_ne_true (same_term (term a) (term b)) (λ t.
        true≢false (sym (eq-eqb a b (distinct.one_place a b (term a) (slice_get-get_or names a (Plain []) ha) (slice_get-get_or names b (Plain []) hb ∙ ap Some (sym (same_term-true (term a) (term b) t))))) ∙ e))
        ∙ sym e
  ]

  -- links whose ends have numbers
  abbrev pub both : ℕ × ℕ → Term × Term
  both p = (term p.0, term p.1)

  abbrev pub AreIn : List (ℕ × ℕ) → Type 0
  AreIn ends = (k : ℕ) (p : ℕ × ℕ) → slice_get ends k ≡ Some p → (p.0 < length names) × (p.1 < length names)

  other_end_same : (o : Option (ℕ × ℕ)) (x : ℕ) → x < length names → ((p : ℕ × ℕ) → o ≡ Some p → (p.0 < length names) × (p.1 < length names)) →
      option_map term (other_end nat_eq o x) ≡ other_end same_term (option_map both o) (term x)
  other_end_same None x h inside = refl
  other_end_same (Some p) x h inside =
      let i = inside p refl in
      (cases (nat_eq x p.0) (nat_eq x p.1) p) ∙ ap₂ (λ a b. if a then Some (term p.1) else if b then Some (term p.0) else None) (sym (same_number x p.0 h i.0)) (sym (same_number x p.1 h i.1))
    where
      cases : (a b : Bool) (p : ℕ × ℕ) → option_map term (if a then Some p.1 else if b then Some p.0 else None) ≡ (if a then Some (term p.1) else if b then Some (term p.0) else None)
      cases true b p = refl
      cases false true p = refl
      cases false false p = refl

  end_along_none : (ls : List (ℕ × ℕ)) (ns : List ℕ) → end_along nat_eq ls ns None ≡ None
  end_along_none ls [] = refl
  end_along_none ls (m ∷ ns) = refl

  term_none : (ls : List (Term × Term)) (ns : List ℕ) → end_along same_term ls ns None ≡ None
  term_none ls [] = refl
  term_none ls (m ∷ ns) = refl

  get_both : (ends : List (ℕ × ℕ)) (k : ℕ) → slice_get (map both ends) k ≡ option_map both (slice_get ends k)
  get_both [] k = refl
  get_both (p ∷ ends) zero = refl
  get_both (p ∷ ends) (suc k) = get_both ends k

  -- the end of a link is a name
  other_end_in : (o : Option (ℕ × ℕ)) (x y : ℕ) → ((p : ℕ × ℕ) → o ≡ Some p → (p.0 < length names) × (p.1 < length names)) → other_end nat_eq o x ≡ Some y → y < length names
  other_end_in None x y inside e = absurd cc
  other_end_in (Some p) x y inside e = by (nat_eq x p.0) (nat_eq x p.1) e
    where
      by : (a b : Bool) → (if a then Some p.1 else if b then Some p.0 else None) ≡ Some y → y < length names
      by true b e = let i = inside p refl in let same : p.1 ≡ y = cc in subst (λ m. m < length names) same i.1
      by false true e = let i = inside p refl in let same : p.0 ≡ y = cc in subst (λ m. m < length names) same i.0
      by false false e = absurd cc

  end_along_same : (ends : List (ℕ × ℕ)) → AreIn ends → (ns : List ℕ) (o : Option ℕ) → ((x : ℕ) → o ≡ Some x → x < length names) → option_map term (end_along nat_eq ends ns o) ≡ end_along same_term (map both ends) ns (option_map term o)
  end_along_same ends inside [] o h = refl
  end_along_same ends inside (m ∷ ns) None h = refl
  end_along_same ends inside (m ∷ ns) (Some x) h =
      let in_link : (p : ℕ × ℕ) → slice_get ends m ≡ Some p → (p.0 < length names) × (p.1 < length names) = λ p e. in_ends ends inside m p e in
      end_along_same ends inside ns (other_end nat_eq (slice_get ends m) x) (λ y e. other_end_in (slice_get ends m) x y in_link e)
      ∙ ap (end_along same_term (map both ends) ns) (other_end_same (slice_get ends m) x (h x refl) in_link ∙ ap (λ o. other_end same_term o (term x)) (sym (get_both ends m)))
    where
      in_ends : (ends : List (ℕ × ℕ)) → AreIn ends → (m : ℕ) (p : ℕ × ℕ) → slice_get ends m ≡ Some p → (p.0 < length names) × (p.1 < length names)
      in_ends ends inside m p e = inside m p e

  end_along_in : (ends : List (ℕ × ℕ)) → AreIn ends → (ns : List ℕ) (o : Option ℕ) → ((x : ℕ) → o ≡ Some x → x < length names) → (y : ℕ) → end_along nat_eq ends ns o ≡ Some y → y < length names
  end_along_in ends inside [] o h y e = h y e
  end_along_in ends inside (m ∷ ns) None h y e = absurd cc
  end_along_in ends inside (m ∷ ns) (Some x) h y e = end_along_in ends inside ns (other_end nat_eq (slice_get ends m) x) (λ z q. other_end_in (slice_get ends m) x z (λ p r. inside m p r) q) y e

  arrives_same : (o : Option ℕ) (y : ℕ) → ((x : ℕ) → o ≡ Some x → x < length names) → y < length names → arrives nat_eq o y ≡ arrives same_term (option_map term o) (term y)
  arrives_same None y h hy = refl
  arrives_same (Some x) y h hy = sym (same_number x y (h x refl) hy)

  pub leads_same : (ends : List (ℕ × ℕ)) → AreIn ends → (ns : List ℕ) (x y : ℕ) → x < length names → y < length names → links_lead nat_eq ends ns x y ≡ links_lead same_term (map both ends) ns (term x) (term y)
  leads_same ends inside ns x y hx hy =
      let start : (z : ℕ) → Some x ≡ Some z → z < length names = λ z e. (let same : x ≡ z = cc in subst (λ m. m < length names) same hx) in
      arrives_same (end_along nat_eq ends ns (Some x)) y (λ z e. end_along_in ends inside ns (Some x) start z e) hy
      ∙ ap (λ o. arrives same_term o (term y)) (end_along_same ends inside ns (Some x) start)

-- a way needs no later links
slice-take : (ps : List (ℕ × ℕ)) (i n : ℕ) → n < i → slice_get (take i ps) n ≡ slice_get ps n
slice-take ps zero n h = absurd (omega arith)
slice-take [] (suc i) n h = refl
slice-take (p ∷ ps) (suc i) zero h = refl
slice-take (p ∷ ps) (suc i) (suc n) h = slice-take ps i n (omega arith)

pub way-take : (ps : List (ℕ × ℕ)) (i n x y : ℕ) → n ≤ i → way (take i ps) n x y ≡ way ps n x y
unfolding way
way-take ps i zero x y le = refl
way-take ps i (suc n) x y le =
    let front : take n (take i ps) ≡ take n ps = take-take n i ps (omega arith) in
    let link = slice-take ps i n (omega arith) in
    let ih : (u v : ℕ) → way (take i ps) n u v ≡ way ps n u v = λ u v. way-take ps i n u v (omega arith) in
    λ j. if joined (front j) x y then ih x y j else through (front j) (λ u v. ih u v j) n (link j) x y

-- numbers of steps and places of entries
pub places_back : (places : List ℕ) → places_of (map (λ p. p + 1) places) ≡ places
places_back [] = refl
places_back (p ∷ places) = let e : p + 1 - 1 ≡ p = omega arith in ap₂ (λ q qs. q ∷ qs) e (places_back places)

-- the way between two names that the first i links join leads between their terms, by these links
pub way_leads_terms : (names : List Term) (distinct : AreDistinct names) (ps : List (ℕ × ℕ)) (i x y : ℕ) → AreIn names distinct (take i ps) → x < length names → y < length names → joined (take i ps) x y ≡ true →
    links_lead same_term (map (both names distinct) (take i ps)) (places_of (map (λ p. p + 1) (way ps i x y))) (term names distinct x) (term names distinct y) ≡ true
way_leads_terms names distinct ps i x y inside hx hy h =
    let front : take i (take i ps) ≡ take i ps = take-take i i ps (omega arith) in
    ap (λ ns. links_lead same_term (map (both names distinct) (take i ps)) ns (term names distinct x) (term names distinct y)) (places_back (way ps i x y) ∙ sym (way-take ps i i x y (omega arith)))
    ∙ sym (leads_same names distinct (take i ps) inside (way (take i ps) i x y) x y hx hy)
    ∙ way-leads (take i ps) i x y (ap (λ l. joined l x y) front ∙ h)
