-- A step against which there is no reason is a chase step in numbers.
use Rattle.std.proofs.Common.{List, [], ◌∷◌, ℕ, zero, suc, ◌+◌, ◌<◌, Bool, true, false, not, Option, Some, None, map, length, slice_get, slice_index, get_or, ◌≡◌, ◌≢◌, inl, inr, refl, sym, ap, subst, ◌∙◌, arith, true≢false, eqb-true, if◌then◌else◌}
use Rattle.std.specs.List.{list_all}
use Rattle.std.proofs.lemmas.Bool.{and_parts, cases_Bool, not-true, cond-true, cond-false}
use Rattle.std.proofs.lemmas.List.{length-map}
use Rattle.std.proofs.lemmas.Slice.Eq.{bytes_eq-Decides}
use Rattle.std.proofs.lemmas.Option.{slice_get_within, slice_get-get_or, get_or_from_slice_get}
use Rattle.gk_base.specs.Term.{is_literal}
use Rattle.gk_base.specs.declared.term.Term.{Term}
use Rattle.gk_base.specs.declared.term.Term.TheVariants.{Plain}
use Rattle.gk_base.specs.declared.term.Triple.{Triple}
use Rattle.chase_laws.specs.declared.pattern.Edge.{Edge}
use Rattle.chase_laws.specs.Graph.{NumberedGraph, HasRow, HasType, IsLiteral}
use Rattle.chase_laws.specs.Valuation.{FitsSlot, IsValuation, AgreeAt}
use Rattle.chase_laws.specs.Joined.{joined, links, joined_by}
use Rattle.chase_laws.specs.Chase.{IsStep}
use Rattle.chase_laws.proofs.CallerLemmas.{joined_refl, joined_sym, joined_trans, Within-more, joined_head}
use Rattle.term_table.specs.Numbering.{same_term, place_of}
use Rattle.term_table.proofs.CallerLemmas.{same_term-true, same_term-refl}
use Rattle.key_file.specs.declared.slot.KeySlot.{KeySlot}
use Rattle.key_file.specs.declared.slot.KeySlot.TheVariants.{Entity, Any, Value, Folded, Fixed}
use Rattle.key_file.specs.declared.edge.KeyEdge.{KeyEdge}
use Rattle.key_file.specs.KeyShape.{KeyShape}
use Rattle.key_file.specs.Key.{may_be_subject, all_differ, IsKey}
use Rattle.key_file.proofs.CallerLemmas.{key_facts}
use Rattle.key_file.specs.Compile.{slot_of, numbered_edge, shape_of, patterns_of}
use Rattle.proof_file.specs.Leads.{other_end, end_along, arrives, links_lead}
use Rattle.proof_file.specs.Steps.{SupportShape, StepShape, term_at, step_ends}
use Rattle.key_file.specs.Numbered.{rdf_type, graph_of}
use Rattle.proof_check.specs.Verdict.{key_place, variables_from, supported_variables, has_shape, are_known, is_known, is_typed, has_kind, have_kinds, has_triple, has_image, have_images, is_constant, are_constants, terms_agree, all_agree, reason_unless, reason_at}
use Rattle.proof_file.specs.Tells.{are_earlier, places_of, leads_there}
use Rattle.proof_check.specs.declared.reason.Reason.{Reason}
use Rattle.proof_check.specs.StepEntries.{step_entry, step_entries}
use Rattle.proof_check.proofs.ListFacts.{all_at, slot_test, map_at, map_found, at_within, get_or-map, differ_at}
use Rattle.proof_check.proofs.NameFacts.{AreNames, known_named, same_place, triple_row, literal_flag, type_row, alike_row}

-- ---- what the absence of a reason says

unless_none : (test : Bool) (reason : Reason) (later : Option Reason) → reason_unless test reason later ≡ None → (test ≡ true) × (later ≡ None)
unless_none true reason later h = (refl, h)
unless_none false reason later h = absurd cc

-- all tests of a step hold
pub record Holds (triples : List Triple) (earlier : List (Term × Term)) (step : StepShape) (key : KeyShape) : Type 0 where
  pub shape : has_shape key step ≡ true
  pub known : (are_known triples step.left ≡ true) × (are_known triples step.right ≡ true)
  pub differ : (all_differ same_term step.left ≡ true) × (all_differ same_term step.right ≡ true)
  pub kinds : (have_kinds triples key step.left ≡ true) × (have_kinds triples key step.right ≡ true)
  pub images : (have_images triples key step.left ≡ true) × (have_images triples key step.right ≡ true)
  pub constants : (are_constants key step.left ≡ true) × (are_constants key step.right ≡ true)
  pub values : all_agree key step ≡ true
  pub before : list_all (are_earlier (length earlier)) step.supports ≡ true
  pub there : list_all (leads_there earlier step) step.supports ≡ true

pub holds_at : (triples : List Triple) (earlier : List (Term × Term)) (step : StepShape) (o : Option KeyShape) → reason_at triples earlier step o ≡ None → (key : KeyShape) × (o ≡ Some key) × Holds triples earlier step key
holds_at triples earlier step None h = absurd cc
holds_at triples earlier step (Some key) h =
    let a = unless_none _ _ _ h in
    let b = unless_none _ _ _ a.1 in
    let c = unless_none _ _ _ b.1 in
    let d = unless_none _ _ _ c.1 in
    let e = unless_none _ _ _ d.1 in
    let f = unless_none _ _ _ e.1 in
    let g = unless_none _ _ _ f.1 in
    let i = unless_none _ _ _ g.1 in
    let j = unless_none _ _ _ i.1 in (
      key,
      refl,
      record {
        shape = a.0;
        known = and_parts _ _ b.0;
        differ = and_parts _ _ c.0;
        kinds = and_parts _ _ d.0;
        images = and_parts _ _ e.0;
        constants = and_parts _ _ f.0;
        values = g.0;
        before = i.0;
        there = j.0;
      },
    )

-- ---- supports

-- an entity variable from a number on is in the list of these
in_entities : (n : ℕ) (slots : List KeySlot) (k : ℕ) (name : List ℕ) (type : Term) → slice_get slots k ≡ Some (Entity name type) → (i : ℕ) × (slice_get (variables_from n slots) i ≡ Some (n + k))
in_entities n [] k name type at = absurd cc
in_entities n (Entity a t ∷ slots) zero name type at = let m : n ≡ n + 0 = omega arith in (0, ap Some m)
in_entities n (Any a t ∷ slots) zero name type at = absurd cc
in_entities n (Value a ∷ slots) zero name type at = absurd cc
in_entities n (Folded a ∷ slots) zero name type at = absurd cc
in_entities n (Fixed c ∷ slots) zero name type at = absurd cc
in_entities n (Entity a t ∷ slots) (suc k) name type at = let r = in_entities (n + 1) slots k name type at in let m : n + 1 + k ≡ n + suc k = omega arith in (suc r.0, r.1 ∙ ap Some m)
in_entities n (Any a t ∷ slots) (suc k) name type at = let r = in_entities (n + 1) slots k name type at in let m : n + 1 + k ≡ n + suc k = omega arith in (r.0, r.1 ∙ ap Some m)
in_entities n (Value a ∷ slots) (suc k) name type at = let r = in_entities (n + 1) slots k name type at in let m : n + 1 + k ≡ n + suc k = omega arith in (r.0, r.1 ∙ ap Some m)
in_entities n (Folded a ∷ slots) (suc k) name type at = let r = in_entities (n + 1) slots k name type at in let m : n + 1 + k ≡ n + suc k = omega arith in (r.0, r.1 ∙ ap Some m)
in_entities n (Fixed c ∷ slots) (suc k) name type at = let r = in_entities (n + 1) slots k name type at in let m : n + 1 + k ≡ n + suc k = omega arith in (r.0, r.1 ∙ ap Some m)

in_supported : (slots : List KeySlot) (k : ℕ) (name : List ℕ) (type : Term) → k ≢ 0 → slice_get slots k ≡ Some (Entity name type) → (i : ℕ) × (slice_get (supported_variables slots) i ≡ Some k)
in_supported [] k name type ne at = absurd cc
in_supported (first ∷ slots) zero name type ne at = absurd (ne refl)
in_supported (first ∷ slots) (suc k) name type ne at = let r = in_entities 1 slots k name type at in let m : 1 + k ≡ suc k = omega arith in (r.0, r.1 ∙ ap Some m)

-- ---- what links lead to they join

module _ (f : Term → ℕ) where
  -- a link in numbers
  abbrev pub both : Term × Term → ℕ × ℕ
  both p = (f p.0, f p.1)

  joined_member : (ls : List (Term × Term)) (n : ℕ) (l : Term × Term) → slice_get ls n ≡ Some l → joined (map both ls) (f l.0) (f l.1) ≡ true
  joined_member [] n l at = absurd cc
  joined_member (m ∷ ls) zero l at =
      let e : m ≡ l = cc in
      subst (λ q. joined (map both (m ∷ ls)) (f q.0) (f q.1) ≡ true) e (joined_head (f m.0) (f m.1) (map both ls))
  joined_member (m ∷ ls) (suc n) l at = Within-more (both m) (map both ls) (f l.0) (f l.1) (joined_member ls n l at)

  across_joined : (ls : List (Term × Term)) (o : Option (Term × Term)) (n : ℕ) (x y : Term) → slice_get ls n ≡ o → other_end same_term o x ≡ Some y → joined (map both ls) (f x) (f y) ≡ true
  across_joined ls None n x y at h = absurd cc
  across_joined ls (Some l) n x y at h = elim (cases_Bool (same_term x l.0)) [
    | inl p ↦
        (let e : x ≡ l.0 = same_term-true x l.0 p in
        let g : Some l.1 ≡ Some y = sym (cond-true (same_term x l.0) (Some l.1) (if same_term x l.1 then Some l.0 else None) p) ∙ h in
        let k : l.1 ≡ y = cc in
        subst (λ u. joined (map both ls) (f u) (f y) ≡ true) (sym e) (subst (λ u. joined (map both ls) (f l.0) (f u) ≡ true) k (joined_member ls n l at)))
    | inr p ↦
        (let g : (if same_term x l.1 then Some l.0 else None) ≡ Some y = sym (cond-false (same_term x l.0) (Some l.1) (if same_term x l.1 then Some l.0 else None) p) ∙ h in
        elim (cases_Bool (same_term x l.1)) [
          | inl q ↦
              (let e : x ≡ l.1 = same_term-true x l.1 q in
              let i : Some l.0 ≡ Some y = sym (cond-true (same_term x l.1) (Some l.0) None q) ∙ g in
              let k : l.0 ≡ y = cc in
              joined_sym (map both ls) (f y) (f x) (subst (λ u. joined (map both ls) (f y) (f u) ≡ true) (sym e) (subst (λ u. joined (map both ls) (f u) (f l.1) ≡ true) k (joined_member ls n l at))))
          | inr q ↦ absurd (let i : None ≡ Some y = sym (cond-false (same_term x l.1) (Some l.0) None q) ∙ g in cc)
        ])
  ]

  nothing : (ls : List (Term × Term)) (ms : List ℕ) (y : Term) → end_along same_term ls ms None ≡ Some y → ⊥
  nothing ls [] y k = cc
  nothing ls (m ∷ ms) y k = cc

  through : (ls : List (Term × Term)) (n : ℕ) (ns : List ℕ) (x y : Term) → ((z : Term) → end_along same_term ls ns (Some z) ≡ Some y → joined (map both ls) (f z) (f y) ≡ true) →
      (o : Option Term) → other_end same_term (slice_get ls n) x ≡ o → end_along same_term ls ns o ≡ Some y → joined (map both ls) (f x) (f y) ≡ true
  through ls n ns x y rest None e k = absurd (nothing ls ns y k)
  through ls n ns x y rest (Some z) e k = joined_trans (map both ls) (f x) (f z) (f y) (across_joined ls (slice_get ls n) n x z refl e) (rest z k)

  led_joined : (ls : List (Term × Term)) (ns : List ℕ) (x y : Term) → end_along same_term ls ns (Some x) ≡ Some y → joined (map both ls) (f x) (f y) ≡ true
  led_joined ls [] x y h = let e : x ≡ y = cc in subst (λ u. joined (map both ls) (f x) (f u) ≡ true) e (joined_refl (map both ls) (f x))
  led_joined ls (n ∷ ns) x y h = through ls n ns x y (λ z k. led_joined ls ns z y k) (other_end same_term (slice_get ls n) x) refl h

  pub leads_joined : (ls : List (Term × Term)) (ns : List ℕ) (x y : Term) → links_lead same_term ls ns x y ≡ true → joined (map both ls) (f x) (f y) ≡ true
  leads_joined ls ns x y h = go (end_along same_term ls ns (Some x)) refl h
    where
      go : (o : Option Term) → end_along same_term ls ns (Some x) ≡ o → arrives same_term o y ≡ true → joined (map both ls) (f x) (f y) ≡ true
      go None e k = absurd (true≢false (sym k))
      go (Some z) e k = subst (λ u. joined (map both ls) (f x) (f u) ≡ true) (same_term-true z y k) (led_joined ls ns x z e)

-- ---- a step

-- the ends of a key's edges are slots
abbrev pub EndsInside : KeyShape → Type 0
EndsInside key = (i : ℕ) (e : KeyEdge) → slice_get key.edges i ≡ Some e → (e.from < length key.slots) × (e.to < length key.slots)

subject_within : (slots : List KeySlot) (n : ℕ) → may_be_subject (slice_get slots n) ≡ true → n < length slots
subject_within [] n h = absurd (true≢false (sym h))
subject_within (s ∷ slots) zero h = omega arith
subject_within (s ∷ slots) (suc n) h = let w = subject_within slots n h in omega arith

pub ends_inside : (key : KeyShape) → IsKey key → EndsInside key
ends_inside key valid i e at =
    let r = (key_facts key valid).ends i e (slice_get_within key.edges i e at) in
    let same = get_or_from_slice_get key.edges i e e at in
    subst (λ (f : KeyEdge). (f.from < length key.slots) × (f.to < length key.slots)) same (subject_within key.slots (get_or key.edges i e).from r.0, r.1)

module _ (triples : List Triple) (keys : List KeyShape) (names : List Term) (N : AreNames triples keys names) where
  abbrev G : NumberedGraph
  G = graph_of names triples

  abbrev num : Term → ℕ
  num = place_of names

  -- the links of entries are those of the steps
  pub links_of : (before : List StepShape) → links (step_entries names keys before) ≡ map (both num) (map step_ends before)
  links_of [] = refl
  links_of (s ∷ before) = ap (λ ls. (num (term_at s.left 0), num (term_at s.right 0)) ∷ ls) (links_of before)

  module _ (k : ℕ) (key : KeyShape) (at_key : slice_get keys k ≡ Some key) where
    -- a term at a slot of a side that has one term a slot
    term_there : (terms : List Term) (s : ℕ) (slot : KeySlot) → length terms ≡ length key.slots → slice_get key.slots s ≡ Some slot → slice_get terms s ≡ Some (term_at terms s)
    term_there terms s slot count at = let w = slice_get_within key.slots s slot at in slice_get-get_or terms s (Plain []) (omega arith)

    number_there : (terms : List Term) (s : ℕ) (slot : KeySlot) → length terms ≡ length key.slots → slice_get key.slots s ≡ Some slot → slice_index (map num terms) s ≡ num (term_at terms s)
    number_there terms s slot count at = let w = slice_get_within key.slots s slot at in get_or-map num terms s (Plain []) 0 (omega arith)

    typed_fits : (t type : Term) → is_known triples t ≡ true → is_typed triples type t ≡ true → ¬ (IsLiteral G (num t)) × HasType G (num t) (num type)
    typed_fits t type known h =
        let parts = and_parts (not (is_literal t)) (has_triple triples t rdf_type type) h in
        let flag = literal_flag triples keys names N t (known_named triples keys names N t known) in
        (λ l. true≢false (sym l ∙ flag ∙ not-true (is_literal t) parts.0), type_row triples keys names N t type parts.1)

    fits : (slot : KeySlot) (t : Term) → is_known triples t ≡ true → has_kind triples slot t ≡ true → is_constant slot t ≡ true → FitsSlot G (slot_of names slot) (num t)
    fits (Entity name type) t known kind constant = typed_fits t type known kind
    fits (Any name type) t known kind constant = typed_fits t type known kind
    fits (Value name) t known kind constant = literal_flag triples keys names N t (known_named triples keys names N t known) ∙ kind
    fits (Folded name) t known kind constant = literal_flag triples keys names N t (known_named triples keys names N t known) ∙ kind
    fits (Fixed c) t known kind constant = ap num (same_term-true t c constant)

    valuation : (terms : List Term) → length terms ≡ length key.slots → are_known triples terms ≡ true → all_differ same_term terms ≡ true → have_kinds triples key terms ≡ true →
        have_images triples key terms ≡ true → are_constants key terms ≡ true → EndsInside key → IsValuation G (shape_of names key) (map num terms)
    valuation terms count known differ kinds images constants inside = record {
      one_each = length-map terms num ∙ count ∙ sym (length-map key.slots (slot_of names));
      different = λ i j d l m.
          let c = length-map terms num in
          let x = at_within terms i (omega arith) in
          let y = at_within terms j (omega arith) in
          let ex = get_or_from_slice_get (map num terms) i (num x.0) d (map_at num terms i x.0 x.1) in
          let ey = get_or_from_slice_get (map num terms) j (num y.0) d (map_at num terms j y.0 y.1) in
          λ e. true≢false
          (sym (ap (same_term x.0) (sym (same_place triples keys names N x.0 y.0 (known_named triples keys names N x.0 (all_at (is_known triples) terms i x.0 known x.1)) (known_named triples keys names N y.0 (all_at (is_known triples) terms j y.0 known y.1)) (sym ex ∙ e ∙ ey))) ∙ same_term-refl x.0)
          ∙ differ_at same_term terms differ i j x.0 y.0 l x.1 y.1);
      kinds = λ s slot at.
          let r = map_found (slot_of names) key.slots s slot at in
          let t = term_there terms s r.0 count r.1 in
          subst (λ sl. FitsSlot G sl (slice_index (map num terms) s)) r.2
          (subst (λ n. FitsSlot G (slot_of names r.0) n) (sym (number_there terms s r.0 count r.1))
          (fits r.0 (term_at terms s) (all_at (is_known triples) terms s (term_at terms s) known t)
          (slot_test (λ n sl. has_kind triples sl (term_at terms n)) key.slots s r.0 kinds r.1)
          (slot_test (λ n sl. is_constant sl (term_at terms n)) key.slots s r.0 constants r.1)));
      edges = λ i d l.
          let r = at_within (map (numbered_edge names) key.edges) i l in
          let e = map_found (numbered_edge names) key.edges i r.0 r.1 in
          let w = inside i e.0 e.1 in
          let image = all_at (has_image triples terms) key.edges i e.0 images e.1 in
          subst (λ (edge : Edge). HasRow G (slice_index (map num terms) edge.from) edge.pred (slice_index (map num terms) edge.to)) (e.2 ∙ sym (get_or_from_slice_get (map (numbered_edge names) key.edges) i r.0 d r.1))
          (subst (λ n. HasRow G n (num e.0.pred) (slice_index (map num terms) e.0.to)) (sym (get_or-map num terms e.0.from (Plain []) 0 (omega arith)))
          (subst (λ n. HasRow G (num (term_at terms e.0.from)) (num e.0.pred) n) (sym (get_or-map num terms e.0.to (Plain []) 0 (omega arith)))
          (triple_row triples keys names N (term_at terms e.0.from) e.0.pred (term_at terms e.0.to) image)));
    }

    agree_at : (s : ℕ) (before : List StepShape) (step : StepShape) (slot : KeySlot) → Holds triples (map step_ends before) step key → slice_get key.slots s ≡ Some slot →
        AgreeAt G (joined_by (step_entries names keys before)) s (slot_of names slot) (num (term_at step.left s)) (num (term_at step.right s))
    agree_at s before step (Entity name type) h at = λ ne.
        let i = in_supported key.slots s name type ne at in
        let shape = and_parts _ _ h.shape in
        let slots : map (λ (u : SupportShape). u.slot) step.supports ≡ supported_variables key.slots = (bytes_eq-Decides (map (λ (u : SupportShape). u.slot) step.supports) (supported_variables key.slots)).0 shape.1 in
        let u = map_found (λ (u : SupportShape). u.slot) step.supports i.0 s (ap (λ l. slice_get l i.0) slots ∙ i.1) in
        let there = all_at (leads_there (map step_ends before) step) step.supports i.0 u.0 h.there u.1 in
        let same = leads_joined num (map step_ends before) (places_of u.0.steps) (term_at step.left u.0.slot) (term_at step.right u.0.slot) there in
        subst (λ ls. joined ls (num (term_at step.left s)) (num (term_at step.right s)) ≡ true) (sym (links_of before))
        (subst (λ m. joined (map (both num) (map step_ends before)) (num (term_at step.left m)) (num (term_at step.right m)) ≡ true) u.2 same)
    agree_at s before step (Any name type) h at = tt
    agree_at s before step (Value name) h at = ap num (same_term-true _ _ (slot_test (λ n sl. terms_agree sl (term_at step.left n) (term_at step.right n)) key.slots s (Value name) h.values at))
    agree_at s before step (Folded name) h at =
        let shape = and_parts _ _ h.shape in
        let counts = and_parts _ _ shape.0 in
        let l = eqb-true (length step.left) (length key.slots) counts.0 in
        let r = eqb-true (length step.right) (length key.slots) counts.1 in
        alike_row triples keys names N (term_at step.left s) (term_at step.right s)
        (known_named triples keys names N (term_at step.left s) (all_at (is_known triples) step.left s (term_at step.left s) h.known.0 (term_there step.left s (Folded name) l at)))
        (known_named triples keys names N (term_at step.right s) (all_at (is_known triples) step.right s (term_at step.right s) h.known.1 (term_there step.right s (Folded name) r at)))
        (same_term-true _ _ (slot_test (λ n sl. terms_agree sl (term_at step.left n) (term_at step.right n)) key.slots s (Folded name) h.values at))
    agree_at s before step (Fixed c) h at = tt

    -- a step whose tests hold is a chase step
    pub step_holds : (before : List StepShape) (step : StepShape) → key_place keys step.key ≡ k → IsKey key → Holds triples (map step_ends before) step key →
        IsStep G (patterns_of names keys) (step_entries names keys before) (step_entry names keys step)
    step_holds before step place valid h =
        let shape = and_parts _ _ h.shape in
        let counts = and_parts _ _ shape.0 in
        let l = eqb-true (length step.left) (length key.slots) counts.0 in
        let r = eqb-true (length step.right) (length key.slots) counts.1 in
        let first = (key_facts key valid).first in
        let at_first = first.2 in
        let w = slice_get_within key.slots 0 _ first.2 in
        record {
          pattern = shape_of names key;
          key = map_at (shape_of names) keys (key_place keys step.key) key (ap (slice_get keys) place ∙ at_key);
          witness = record {
            left = valuation step.left l h.known.0 h.differ.0 h.kinds.0 h.images.0 h.constants.0 (ends_inside key valid);
            right = valuation step.right r h.known.1 h.differ.1 h.kinds.1 h.images.1 h.constants.1 (ends_inside key valid);
            coincide = λ s slot at.
                let m = map_found (slot_of names) key.slots s slot at in
                subst (λ sl. AgreeAt G (joined_by (step_entries names keys before)) s sl (slice_index (map num step.left) s) (slice_index (map num step.right) s)) m.2
                (subst (λ n. AgreeAt G (joined_by (step_entries names keys before)) s (slot_of names m.0) n (slice_index (map num step.right) s)) (sym (number_there step.left s m.0 l m.1))
                (subst (λ n. AgreeAt G (joined_by (step_entries names keys before)) s (slot_of names m.0) (num (term_at step.left s)) n) (sym (number_there step.right s m.0 r m.1))
                (agree_at s before step m.0 h m.1)));
            at_a = get_or-map num step.left 0 (Plain []) 0 (omega arith);
            at_b = get_or-map num step.right 0 (Plain []) 0 (omega arith);
          };
        }
