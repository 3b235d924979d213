-- The reasons over numbers are those over terms.
use Rattle.std.proofs.Common.{List, [], ◌∷◌, ℕ, zero, suc, ◌+◌, ◌<◌, Bool, true, false, not, nat_eq, ◌==◌, ◌&&◌, ◌||◌, Option, Some, None, map, length, slice_get, slice_index, get_or, bytes_eq, All, ◌≡◌, inl, inr, refl, sym, ap, ap₂, subst, ◌∙◌, arith, true≢false, eqb-true, eq-eqb, if◌then◌else◌}
use Rattle.std.specs.Option.{option_map}
use Rattle.std.specs.List.{list_any, list_all}
use Rattle.std.proofs.lemmas.Bool.{and_parts, cases_Bool, false_from_ne_true}
use Rattle.std.proofs.lemmas.List.{length-map}
use Rattle.std.proofs.lemmas.Slice.Eq.{bytes_eq-Decides}
use Rattle.std.proofs.lemmas.List.Folds.{list_all-map}
use Rattle.std.proofs.lemmas.Option.{slice_get_within, slice_get-get_or, get_or_from_slice_get}
use Rattle.gk_base.specs.Term.{is_literal}
use Rattle.gk_base.specs.declared.term.Term.{Term}
use Rattle.gk_base.specs.declared.term.Term.TheVariants.{Plain}
use Rattle.gk_base.specs.declared.term.Triple.{Triple}
use Rattle.chase_laws.specs.declared.pattern.Edge.{Edge}
use Rattle.term_table.specs.Numbering.{same_term, is_named, place_of}
use Rattle.term_table.proofs.CallerLemmas.{same_term-true, same_term-refl, slice_get-place_of, place_of-within}
use Rattle.key_file.specs.declared.slot.KeySlot.{KeySlot}
use Rattle.key_file.specs.declared.slot.KeySlot.TheVariants.{Entity, Any, Value, Folded, Fixed}
use Rattle.key_file.specs.declared.edge.KeyEdge.{KeyEdge}
use Rattle.key_file.specs.KeyShape.{KeyShape}
use Rattle.key_file.specs.Key.{all_differ}
use Rattle.key_file.specs.Compile.{slot_terms, slot_of, numbered_edge, shape_of}
use Rattle.proof_file.specs.Leads.{other_end, end_along, arrives, links_lead}
use Rattle.proof_file.specs.Steps.{SupportShape, StepNumbers, step_with, term_at}
use Rattle.key_file.specs.Numbered.{rdf_type}
use Rattle.proof_check.specs.Verdict.{each_slot, variables_from, supported_variables, has_shape, are_known, is_known, is_typed, has_triple, has_kind, have_kinds, has_image, have_images, is_constant, are_constants, terms_agree, reason_unless, reason_at}
use Rattle.proof_file.specs.Tells.{entities_from, supported_slots, are_earlier, places_of, leads_there}
use Rattle.proof_check.specs.NumberVerdict.{IsLookup, has_row, number_has_kind, number_is_constant, number_is_typed, number_reason, numbers_agree_at, numbers_are_constants, numbers_are_known, numbers_have_images, numbers_have_kinds, numbers_have_shape, numbers_lead_there}
use Rattle.proof_check.specs.declared.reason.Reason.{Reason}
use Rattle.proof_check.proofs.ListFacts.{map_at, get_or-map}
use Rattle.proof_check.proofs.ToNumbers.{EndsInside}

-- one test more: what comes after it counts only where it holds
unless_same : (a b : Bool) (reason : Reason) (x y : Option Reason) → a ≡ b → (b ≡ true → x ≡ y) → reason_unless a reason x ≡ reason_unless b reason y
unless_same a true reason x y e f = ap (λ t. reason_unless t reason x) e ∙ f refl
unless_same a false reason x y e f = ap (λ t. reason_unless t reason x) e

all_same : {X : Type 0} (p q : X → Bool) (xs : List X) → ((k : ℕ) (x : X) → slice_get xs k ≡ Some x → p x ≡ q x) → list_all p xs ≡ list_all q xs
all_same p q [] h = refl
all_same p q (x ∷ xs) h = ap₂ (λ a b. a && b) (h 0 x refl) (all_same p q xs (λ k y at. h (suc k) y at))

each_same : {S T : Type 0} (f : S → T) (p : ℕ → T → Bool) (q : ℕ → S → Bool) (at : ℕ) (slots : List S) → ((k : ℕ) (s : S) → slice_get slots k ≡ Some s → p (at + k) (f s) ≡ q (at + k) s) → each_slot p at (map f slots) ≡ each_slot q at slots
each_same f p q at [] h = refl
each_same f p q at (s ∷ slots) h =
    let z : at + 0 ≡ at = omega arith in
    ap₂ (λ a b. a && b) (ap (λ i. p i (f s)) (sym z) ∙ h 0 s refl ∙ ap (λ i. q i s) z)
    (each_same f p q (at + 1) slots (λ k t e. let m : at + 1 + k ≡ at + suc k = omega arith in ap (λ i. p i (f t)) m ∙ h (suc k) t e ∙ ap (λ i. q i t) (sym m)))

each_from_zero : {S T : Type 0} (f : S → T) (p : ℕ → T → Bool) (q : ℕ → S → Bool) (slots : List S) → ((k : ℕ) (s : S) → slice_get slots k ≡ Some s → p k (f s) ≡ q k s) → each_slot p 0 (map f slots) ≡ each_slot q 0 slots
each_from_zero f p q slots h = each_same f p q 0 slots (λ k s e. let z : 0 + k ≡ k = omega arith in ap (λ i. p i (f s)) z ∙ h k s e ∙ ap (λ i. q i s) (sym z))

entities_same : (names : List Term) (at : ℕ) (slots : List KeySlot) → entities_from at (map (slot_of names) slots) ≡ variables_from at slots
entities_same names at [] = refl
entities_same names at (Entity a t ∷ slots) = ap (λ l. at ∷ l) (entities_same names (at + 1) slots)
entities_same names at (Any a t ∷ slots) = entities_same names (at + 1) slots
entities_same names at (Value a ∷ slots) = entities_same names (at + 1) slots
entities_same names at (Folded a ∷ slots) = entities_same names (at + 1) slots
entities_same names at (Fixed c ∷ slots) = entities_same names (at + 1) slots

pub supported_same : (names : List Term) (slots : List KeySlot) → supported_slots (map (slot_of names) slots) ≡ supported_variables slots
supported_same names [] = refl
supported_same names (first ∷ slots) = entities_same names 1 slots

-- the terms of a key are names
pub record HasNames (names : List Term) (key : KeyShape) : Type 0 where
  pub slots : (s j : ℕ) (slot : KeySlot) (u : Term) → slice_get key.slots s ≡ Some slot → slice_get (slot_terms slot) j ≡ Some u → is_named names u ≡ true
  pub preds : (i : ℕ) (e : KeyEdge) → slice_get key.edges i ≡ Some e → is_named names e.pred ≡ true

module _ (triples : List Triple) (names : List Term) (rows : List (List ℕ)) (known : List Bool) (kind : ℕ) (L : IsLookup triples names rows known kind) where
  abbrev pub term : ℕ → Term
  term m = term_at names m

  -- the term with the number of a name
  term_back : (u : Term) → is_named names u ≡ true → term (place_of names u) ≡ u
  term_back u h = get_or_from_slice_get names (place_of names u) u (Plain []) (slice_get-place_of names u h)

  -- numbers are equal where their terms are
  same_number : (a b : ℕ) → a < length names → b < length names → same_term (term a) (term b) ≡ nat_eq a b
  same_number a b ha hb = elim (cases_Bool (nat_eq a b)) [
    | inl e ↦ ap (λ m. same_term (term m) (term b)) (eqb-true a b e) ∙ same_term-refl (term b) ∙ sym e
    | inr e ↦
        false_from_ne_true (same_term (term a) (term b)) (λ t.
        true≢false (sym (eq-eqb a b (L.distinct.one_place a b (term a) (slice_get-get_or names a (Plain []) ha) (slice_get-get_or names b (Plain []) hb ∙ ap Some (sym (same_term-true (term a) (term b) t))))) ∙ e))
        ∙ sym e
  ]

  known_same : (side : List ℕ) → All (λ m. m < length names) side → numbers_are_known known side ≡ are_known triples (map term side)
  known_same side inside =
      all_same (λ m. get_or known m false) (λ m. is_known triples (term m)) side (λ k m at. L.knows m (subst (λ i. i < length names) (get_or_from_slice_get side k m 0 at) (inside k 0 (slice_get_within side k m at))))
      ∙ sym (list_all-map (is_known triples) term side)

  none_same : (a : ℕ) (side : List ℕ) → a < length names → All (λ m. m < length names) side → list_any (same_term (term a)) (map term side) ≡ list_any (nat_eq a) side
  none_same a [] ha inside = refl
  none_same a (b ∷ side) ha inside = ap₂ (λ x y. x || y) (same_number a b ha (inside 0 0 (omega arith))) (none_same a side ha (λ i d l. inside (suc i) d (omega arith)))

  differ_same : (side : List ℕ) → All (λ m. m < length names) side → all_differ nat_eq side ≡ all_differ same_term (map term side)
  differ_same [] inside = refl
  differ_same (a ∷ side) inside =
      let rest : All (λ m. m < length names) side = λ i d l. inside (suc i) d (omega arith) in
      ap₂ (λ x y. not x && y) (sym (none_same a side (inside 0 0 (omega arith)) rest)) (differ_same side rest)

  module _ (key : KeyShape) (K : HasNames names key) (ends_in : EndsInside key) where
    module _ (side : List ℕ) (inside : All (λ m. m < length names) side) (count : length side ≡ length key.slots) where
      term_is : (s : ℕ) → s < length key.slots → term_at (map term side) s ≡ term (slice_index side s)
      term_is s h = get_or-map term side s 0 (Plain []) (omega arith)

      within : (s : ℕ) → s < length key.slots → slice_index side s < length names
      within s h = inside s 0 (omega arith)

      typed_same : (type : Term) (m : ℕ) → is_named names type ≡ true → m < length names → number_is_typed rows names kind (place_of names type) m ≡ is_typed triples type (term m)
      typed_same type m named h =
          ap (λ b. not (is_literal (term m)) && b)
          (L.has m kind (place_of names type) h (subst (λ i. i < length names) L.kind_is.1 (place_of-within names rdf_type L.kind_is.0)) (place_of-within names type named)
          ∙ ap (λ u. has_triple triples (term m) u (term (place_of names type))) (ap term (sym L.kind_is.1) ∙ term_back rdf_type L.kind_is.0)
          ∙ ap (has_triple triples (term m) rdf_type) (term_back type named))

      kind_same : (s : ℕ) (slot : KeySlot) (m : ℕ) → slice_get key.slots s ≡ Some slot → m < length names → number_has_kind rows names kind (slot_of names slot) m ≡ has_kind triples slot (term m)
      kind_same s (Entity a t) m at h = typed_same t m (K.slots s 0 (Entity a t) t at refl) h
      kind_same s (Any a t) m at h = typed_same t m (K.slots s 0 (Any a t) t at refl) h
      kind_same s (Value a) m at h = refl
      kind_same s (Folded a) m at h = refl
      kind_same s (Fixed c) m at h = refl

      kinds_same : numbers_have_kinds rows names kind (map (slot_of names) key.slots) side ≡ have_kinds triples key (map term side)
      kinds_same = each_from_zero (slot_of names) (λ at slot. number_has_kind rows names kind slot (slice_index side at)) (λ at slot. has_kind triples slot (term_at (map term side) at)) key.slots (λ s slot at.
          let h = slice_get_within key.slots s slot at in
          kind_same s slot (slice_index side s) at (within s h) ∙ ap (has_kind triples slot) (sym (term_is s h)))

      images_same : numbers_have_images rows (map (numbered_edge names) key.edges) side ≡ have_images triples key (map term side)
      images_same =
          list_all-map (λ (e : Edge). has_row rows (slice_index side e.from) e.pred (slice_index side e.to)) (numbered_edge names) key.edges
          ∙ all_same (λ (e : KeyEdge). has_row rows (slice_index side e.from) (place_of names e.pred) (slice_index side e.to)) (has_image triples (map term side)) key.edges (λ i e at.
          let w = ends_in i e at in
          let p = K.preds i e at in
          L.has (slice_index side e.from) (place_of names e.pred) (slice_index side e.to) (within e.from w.0) (place_of-within names e.pred p) (within e.to w.1)
          ∙ ap (λ u. has_triple triples (term (slice_index side e.from)) u (term (slice_index side e.to))) (term_back e.pred p)
          ∙ ap (λ u. has_triple triples u e.pred (term (slice_index side e.to))) (sym (term_is e.from w.0))
          ∙ ap (has_triple triples (term_at (map term side) e.from) e.pred) (sym (term_is e.to w.1)))

      constant_same : (s : ℕ) (slot : KeySlot) (m : ℕ) → slice_get key.slots s ≡ Some slot → m < length names → number_is_constant (slot_of names slot) m ≡ is_constant slot (term m)
      constant_same s (Entity a t) m at h = refl
      constant_same s (Any a t) m at h = refl
      constant_same s (Value a) m at h = refl
      constant_same s (Folded a) m at h = refl
      constant_same s (Fixed c) m at h =
          let named = K.slots s 0 (Fixed c) c at refl in
          sym (same_number m (place_of names c) h (place_of-within names c named)) ∙ ap (same_term (term m)) (term_back c named)

      constants_same : numbers_are_constants (map (slot_of names) key.slots) side ≡ are_constants key (map term side)
      constants_same = each_from_zero (slot_of names) (λ at slot. number_is_constant slot (slice_index side at)) (λ at slot. is_constant slot (term_at (map term side) at)) key.slots (λ s slot at.
          let h = slice_get_within key.slots s slot at in
          constant_same s slot (slice_index side s) at (within s h) ∙ ap (is_constant slot) (sym (term_is s h)))

    agree_same : (slot : KeySlot) (a b : ℕ) → a < length names → b < length names → numbers_agree_at names (slot_of names slot) a b ≡ terms_agree slot (term a) (term b)
    agree_same (Entity x t) a b ha hb = refl
    agree_same (Any x t) a b ha hb = refl
    agree_same (Value x) a b ha hb = sym (same_number a b ha hb)
    agree_same (Folded x) a b ha hb = refl
    agree_same (Fixed c) a b ha hb = refl

  -- links whose ends have numbers
  abbrev pub both : ℕ × ℕ → Term × Term
  both p = (term p.0, term p.1)

  abbrev pub AreIn : List (ℕ × ℕ) → Type 0
  AreIn ends = (k : ℕ) (p : ℕ × ℕ) → slice_get ends k ≡ Some p → (p.0 < length names) × (p.1 < length names)

  other_end_same : (o : Option (ℕ × ℕ)) (x : ℕ) → x < length names → ((p : ℕ × ℕ) → o ≡ Some p → (p.0 < length names) × (p.1 < length names)) →
      option_map term (other_end nat_eq o x) ≡ other_end same_term (option_map both o) (term x)
  other_end_same None x h inside = refl
  other_end_same (Some p) x h inside =
      let i = inside p refl in
      (cases (nat_eq x p.0) (nat_eq x p.1) p) ∙ ap₂ (λ a b. if a then Some (term p.1) else if b then Some (term p.0) else None) (sym (same_number x p.0 h i.0)) (sym (same_number x p.1 h i.1))
    where
      cases : (a b : Bool) (p : ℕ × ℕ) → option_map term (if a then Some p.1 else if b then Some p.0 else None) ≡ (if a then Some (term p.1) else if b then Some (term p.0) else None)
      cases true b p = refl
      cases false true p = refl
      cases false false p = refl

  get_both : (ends : List (ℕ × ℕ)) (k : ℕ) → slice_get (map both ends) k ≡ option_map both (slice_get ends k)
  get_both [] k = refl
  get_both (p ∷ ends) zero = refl
  get_both (p ∷ ends) (suc k) = get_both ends k

  -- the end of a link is a name
  other_end_in : (o : Option (ℕ × ℕ)) (x y : ℕ) → ((p : ℕ × ℕ) → o ≡ Some p → (p.0 < length names) × (p.1 < length names)) → other_end nat_eq o x ≡ Some y → y < length names
  other_end_in None x y inside e = absurd cc
  other_end_in (Some p) x y inside e = by (nat_eq x p.0) (nat_eq x p.1) e
    where
      by : (a b : Bool) → (if a then Some p.1 else if b then Some p.0 else None) ≡ Some y → y < length names
      by true b e = let i = inside p refl in let same : p.1 ≡ y = cc in subst (λ m. m < length names) same i.1
      by false true e = let i = inside p refl in let same : p.0 ≡ y = cc in subst (λ m. m < length names) same i.0
      by false false e = absurd cc

  end_along_same : (ends : List (ℕ × ℕ)) → AreIn ends → (ns : List ℕ) (o : Option ℕ) → ((x : ℕ) → o ≡ Some x → x < length names) → option_map term (end_along nat_eq ends ns o) ≡ end_along same_term (map both ends) ns (option_map term o)
  end_along_same ends inside [] o h = refl
  end_along_same ends inside (m ∷ ns) None h = refl
  end_along_same ends inside (m ∷ ns) (Some x) h =
      let in_link : (p : ℕ × ℕ) → slice_get ends m ≡ Some p → (p.0 < length names) × (p.1 < length names) = λ p e. in_ends ends inside m p e in
      end_along_same ends inside ns (other_end nat_eq (slice_get ends m) x) (λ y e. other_end_in (slice_get ends m) x y in_link e)
      ∙ ap (end_along same_term (map both ends) ns) (other_end_same (slice_get ends m) x (h x refl) in_link ∙ ap (λ o. other_end same_term o (term x)) (sym (get_both ends m)))
    where
      in_ends : (ends : List (ℕ × ℕ)) → AreIn ends → (m : ℕ) (p : ℕ × ℕ) → slice_get ends m ≡ Some p → (p.0 < length names) × (p.1 < length names)
      in_ends ends inside m p e = inside m p e

  end_along_in : (ends : List (ℕ × ℕ)) → AreIn ends → (ns : List ℕ) (o : Option ℕ) → ((x : ℕ) → o ≡ Some x → x < length names) → (y : ℕ) → end_along nat_eq ends ns o ≡ Some y → y < length names
  end_along_in ends inside [] o h y e = h y e
  end_along_in ends inside (m ∷ ns) None h y e = absurd cc
  end_along_in ends inside (m ∷ ns) (Some x) h y e = end_along_in ends inside ns (other_end nat_eq (slice_get ends m) x) (λ z q. other_end_in (slice_get ends m) x z (λ p r. inside m p r) q) y e

  arrives_same : (o : Option ℕ) (y : ℕ) → ((x : ℕ) → o ≡ Some x → x < length names) → y < length names → arrives nat_eq o y ≡ arrives same_term (option_map term o) (term y)
  arrives_same None y h hy = refl
  arrives_same (Some x) y h hy = sym (same_number x y (h x refl) hy)

  leads_same : (ends : List (ℕ × ℕ)) → AreIn ends → (ns : List ℕ) (x y : ℕ) → x < length names → y < length names → links_lead nat_eq ends ns x y ≡ links_lead same_term (map both ends) ns (term x) (term y)
  leads_same ends inside ns x y hx hy =
      let start : (z : ℕ) → Some x ≡ Some z → z < length names = λ z e. (let same : x ≡ z = cc in subst (λ m. m < length names) same hx) in
      arrives_same (end_along nat_eq ends ns (Some x)) y (λ z e. end_along_in ends inside ns (Some x) start z e) hy
      ∙ ap (λ o. arrives same_term o (term y)) (end_along_same ends inside ns (Some x) start)

  -- an entity variable from a number on is one of so many slots
  entity_within : (at : ℕ) (slots : List KeySlot) (k s : ℕ) → slice_get (variables_from at slots) k ≡ Some s → s < at + length slots
  entity_within at [] k s e = absurd cc
  entity_within at (Entity a t ∷ slots) zero s e = let same : at ≡ s = cc in omega arith
  entity_within at (Entity a t ∷ slots) (suc k) s e = let w = entity_within (at + 1) slots k s e in omega arith
  entity_within at (Any a t ∷ slots) k s e = let w = entity_within (at + 1) slots k s e in omega arith
  entity_within at (Value a ∷ slots) k s e = let w = entity_within (at + 1) slots k s e in omega arith
  entity_within at (Folded a ∷ slots) k s e = let w = entity_within (at + 1) slots k s e in omega arith
  entity_within at (Fixed c ∷ slots) k s e = let w = entity_within (at + 1) slots k s e in omega arith

  supported_within : (slots : List KeySlot) (k s : ℕ) → slice_get (supported_variables slots) k ≡ Some s → s < length slots
  supported_within [] k s e = absurd cc
  supported_within (first ∷ slots) k s e = let w = entity_within 1 slots k s e in omega arith

  -- the reason over numbers is that over terms
  pub reason_same : (key : KeyShape) → HasNames names key → EndsInside key → (ends : List (ℕ × ℕ)) → AreIn ends → (step : StepNumbers) → All (λ m. m < length names) step.left → All (λ m. m < length names) step.right →
      number_reason rows known names kind ends step (shape_of names key) ≡ reason_at triples (map both ends) (step_with names step) (Some key)
  reason_same key K ends_in ends inside step hl hr =
      let ql = length-map step.left term in
      let qr = length-map step.right term in
      let qs = length-map key.slots (slot_of names) in
      unless_same (numbers_have_shape (shape_of names key) step) (has_shape key (step_with names step)) _ _ _
      (λ i. (ap₂ (λ a b. a == b) (sym ql) qs i) && (ap₂ (λ a b. a == b) (sym qr) qs i) && bytes_eq (map (λ (s : SupportShape). s.slot) step.supports) (supported_same names key.slots i))
      (λ shape.
      let parts = and_parts _ _ shape in
      let counts = and_parts _ _ parts.0 in
      let cl : length step.left ≡ length key.slots = sym ql ∙ eqb-true _ _ counts.0 in
      let cr : length step.right ≡ length key.slots = sym qr ∙ eqb-true _ _ counts.1 in
      let slots : map (λ (s : SupportShape). s.slot) step.supports ≡ supported_variables key.slots = (bytes_eq-Decides _ _).0 parts.1 in
      unless_same _ _ _ _ _ (ap₂ (λ a b. a && b) (known_same step.left hl) (known_same step.right hr)) (λ _.
      unless_same _ _ _ _ _ (ap₂ (λ a b. a && b) (differ_same step.left hl) (differ_same step.right hr)) (λ _.
      unless_same _ _ _ _ _ (ap₂ (λ a b. a && b) (kinds_same key K ends_in step.left hl cl) (kinds_same key K ends_in step.right hr cr)) (λ _.
      unless_same _ _ _ _ _ (ap₂ (λ a b. a && b) (images_same key K ends_in step.left hl cl) (images_same key K ends_in step.right hr cr)) (λ _.
      unless_same _ _ _ _ _ (ap₂ (λ a b. a && b) (constants_same key K ends_in step.left hl cl) (constants_same key K ends_in step.right hr cr)) (λ _.
      unless_same _ _ _ _ _
      (each_from_zero (slot_of names) (λ at slot. numbers_agree_at names slot (slice_index step.left at) (slice_index step.right at)) (λ at slot. terms_agree slot (term_at (map term step.left) at) (term_at (map term step.right) at)) key.slots (λ s slot at.
      let h = slice_get_within key.slots s slot at in
      agree_same key K ends_in slot (slice_index step.left s) (slice_index step.right s) (within key K ends_in step.left hl cl s h) (within key K ends_in step.right hr cr s h)
      ∙ ap (λ u. terms_agree slot u (term (slice_index step.right s))) (sym (term_is key K ends_in step.left hl cl s h)) ∙ ap (terms_agree slot (term_at (map term step.left) s)) (sym (term_is key K ends_in step.right hr cr s h)))) (λ _.
      unless_same _ _ _ _ _ (ap (λ c. list_all (are_earlier c) step.supports) (sym (length-map ends both))) (λ _.
      unless_same _ _ _ _ _
      (all_same (numbers_lead_there ends step) (leads_there (map both ends) (step_with names step)) step.supports (λ k u at.
      let s : u.slot < length key.slots = supported_within key.slots k u.slot (ap (λ l. slice_get l k) (sym slots) ∙ map_at (λ (v : SupportShape). v.slot) step.supports k u at) in
      leads_same ends inside (places_of u.steps) (slice_index step.left u.slot) (slice_index step.right u.slot) (within key K ends_in step.left hl cl u.slot s) (within key K ends_in step.right hr cr u.slot s)
      ∙ ap (λ t. links_lead same_term (map both ends) (places_of u.steps) t (term (slice_index step.right u.slot))) (sym (term_is key K ends_in step.left hl cl u.slot s))
      ∙ ap (links_lead same_term (map both ends) (places_of u.steps) (term_at (map term step.left) u.slot)) (sym (term_is key K ends_in step.right hr cr u.slot s)))) (λ _.
      refl)))))))))
