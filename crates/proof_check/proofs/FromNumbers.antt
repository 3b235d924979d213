-- A proof that gives each entry of a derivation its step, with supports that lead, is accepted.
use Rattle.std.proofs.Common.{List, [], ◌∷◌, ◌++◌, ℕ, suc, ◌+◌, ◌<◌, Bool, true, false, not, ◌==◌, ◌||◌, Option, Some, None, All, map, length, slice_get, slice_index, get_or, take, bytes_eq, IsSomeAnd, ◌≡◌, inl, inr, refl, sym, ap, subst, ◌∙◌, arith, true≢false, eqb-true, eq-eqb, if◌then◌else◌, append_assoc, append-nil, length-append}
use Rattle.std.specs.List.{list_all}
use Rattle.std.proofs.lemmas.Bool.{and_from, or_cases, or_left, or_right, cases_Bool, not_from_false, false_from_ne_true}
use Rattle.std.proofs.lemmas.List.{get_or_default, length-map, map-append}
use Rattle.std.proofs.lemmas.List.Sums.{position_or_len_is}
use Rattle.std.proofs.lemmas.Slice.Eq.{bytes_eq-Decides}
use Rattle.std.proofs.lemmas.Option.{slice_get_within, get_or_from_slice_get}
use Rattle.gk_base.specs.Term.{is_literal}
use Rattle.gk_base.specs.declared.term.Term.{Term}
use Rattle.gk_base.specs.declared.term.Term.TheVariants.{Plain}
use Rattle.gk_base.specs.declared.term.Triple.{Triple}
use Rattle.term_list.specs.Triples.{triple_terms}
use Rattle.chase_laws.specs.declared.entry.Entry.{Entry}
use Rattle.chase_laws.specs.declared.pattern.Edge.{Edge}
use Rattle.chase_laws.specs.Shape.{Shape}
use Rattle.chase_laws.specs.Graph.{NumberedGraph, HasRow, HasType, IsLiteral, AreAlike}
use Rattle.chase_laws.specs.Valuation.{FitsSlot, IsValuation, AgreeAt, Coincide, IsMatch}
use Rattle.chase_laws.specs.Joined.{joined_by}
use Rattle.chase_laws.specs.Chase.{IsDerivation}
use Rattle.term_table.specs.Numbering.{same_term, is_named, place_of}
use Rattle.term_table.specs.Folding.{folded_term}
use Rattle.term_table.proofs.CallerLemmas.{same_term-true, same_term-refl, slice_get-place_of, place_of-within, is_named-at}
use Rattle.term_table.proofs.CallerLemmas.{fold_of, folds_at, folded_at}
use Rattle.key_file.specs.declared.slot.KeySlot.{KeySlot}
use Rattle.key_file.specs.declared.slot.KeySlot.TheVariants.{Entity, Any, Value, Folded, Fixed}
use Rattle.key_file.specs.declared.edge.KeyEdge.{KeyEdge}
use Rattle.key_file.specs.KeyShape.{KeyShape}
use Rattle.key_file.specs.Key.{all_differ, IsKey}
use Rattle.key_file.specs.KeyFile.{IsKeyFile}
use Rattle.key_file.specs.Compile.{slot_of, numbered_edge, shape_of, patterns_of}
use Rattle.key_file.proofs.CallerLemmas.{key_facts}
use Rattle.proof_file.specs.Steps.{SupportShape, StepShape, term_at, step_ends}
use Rattle.key_file.specs.Numbered.{rdf_type, type_number, names_for, graph_of}
use Rattle.proof_file.specs.Tells.{supported_slots as shape_slots}
use Rattle.proof_file.specs.Tells.{TellsAll}
use Rattle.proof_check.proofs.SameReason.{supported_same}
use Rattle.proof_check.specs.Verdict.{key_place, supported_variables, are_known, is_known, is_end, is_typed, is_triple, has_triple, has_kind, have_kinds, has_image, have_images, is_constant, are_constants, terms_agree, reason_unless, reason_at, reason_of, rejected_or, verdict_after, verdict}
use Rattle.proof_file.specs.Tells.{are_earlier, leads_there}
use Rattle.proof_check.specs.declared.reason.Reason.{Reason}
use Rattle.proof_check.specs.declared.verdict.Verdict.TheVariants.{Accepted}
use Rattle.proof_check.proofs.ListFacts.{any_found, any_at, all_from, slots_from, map_at, map_found, at_within, get_or-map, differ_from}
use Rattle.proof_check.proofs.NameFacts.{AreNames, are_names, slot_named, pred_named, same_place, row_triple, literal_flag}
use Rattle.proof_check.proofs.ToNumbers.{ends_inside}

module _ (triples : List Triple) (keys : List KeyShape) (names : List Term) (N : AreNames triples keys names) where
  abbrev G : NumberedGraph
  G = graph_of names triples

  -- the name with the number of a name
  name_back : (u : Term) (n : ℕ) → is_named names u ≡ true → place_of names u ≡ n → term_at names n ≡ u
  name_back u n h e = ap (term_at names) (sym e) ∙ get_or_from_slice_get names (place_of names u) u (Plain []) (slice_get-place_of names u h)

  -- what is said of a number that is an end of a row
  record IsEnd (n : ℕ) : Type 0 where
    known : is_known triples (term_at names n) ≡ true
    named : is_named names (term_at names n) ≡ true
    number : place_of names (term_at names n) ≡ n

  end_of : (k j : ℕ) (t : Triple) (u : Term) (n : ℕ) → slice_get triples k ≡ Some t → slice_get (triple_terms t) j ≡ Some u → is_end u t ≡ true → place_of names u ≡ n → IsEnd n
  end_of k j t u n at in_t end e =
      let named = N.triple k j t u at in_t in
      let back = name_back u n named e in
      record {
        known = any_at (is_end (term_at names n)) triples k t at (ap (λ v. is_end v t) back ∙ end);
        named = ap (is_named names) back ∙ named;
        number = ap (place_of names) back ∙ e;
      }

  -- the triple of a row whose predicate is the number of a name
  row_back : (s p : ℕ) (o : ℕ) (pred : Term) → is_named names pred ≡ true → p ≡ place_of names pred → HasRow G s p o →
      IsEnd s × IsEnd o × (has_triple triples (term_at names s) pred (term_at names o) ≡ true)
  row_back s p o pred named e h =
      let r = row_triple triples keys names N s p o h in
      let t : Triple = r.1 in
      let subject = N.triple r.0 0 t t.subject r.2 refl in
      let predicate = N.triple r.0 1 t t.predicate r.2 refl in
      let object = N.triple r.0 2 t t.object r.2 refl in
      let same : t.predicate ≡ pred = same_place triples keys names N t.predicate pred predicate named (r.4 ∙ e) in
      let back_s = name_back t.subject s subject r.3 in
      let back_o = name_back t.object o object r.5 in (
        end_of r.0 0 t t.subject s r.2 refl (or_left _ _ (same_term-refl t.subject)) r.3,
        end_of r.0 2 t t.object o r.2 refl (or_right _ _ (same_term-refl t.object)) r.5,
        any_at (is_triple (term_at names s) pred (term_at names o)) triples r.0 t r.2
            (and_from _ _ (and_from _ _ (ap (λ u. same_term u t.subject) back_s ∙ same_term-refl t.subject) (ap (same_term pred) same ∙ same_term-refl pred)) (ap (λ u. same_term u t.object) back_o ∙ same_term-refl t.object)),
      )

  module _ (k : ℕ) (key : KeyShape) (at_key : slice_get keys k ≡ Some key) (valid : IsKey key) where
    module _ (v : List ℕ) (V : IsValuation G (shape_of names key) v) where
      count : length v ≡ length key.slots
      count = V.one_each ∙ length-map key.slots (slot_of names)

      edge_row : (i : ℕ) (e : KeyEdge) → slice_get key.edges i ≡ Some e → HasRow G (slice_index v e.from) (place_of names e.pred) (slice_index v e.to)
      edge_row i e at =
          let there = map_at (numbered_edge names) key.edges i e at in
          let w = slice_get_within (map (numbered_edge names) key.edges) i (numbered_edge names e) there in
          subst (λ (f : Edge). HasRow G (slice_index v f.from) f.pred (slice_index v f.to)) (get_or_from_slice_get (map (numbered_edge names) key.edges) i (numbered_edge names e) (numbered_edge names e) there) (V.edges i (numbered_edge names e) w)

      edge_back : (i : ℕ) (e : KeyEdge) → slice_get key.edges i ≡ Some e →
          IsEnd (slice_index v e.from) × IsEnd (slice_index v e.to) × (has_triple triples (term_at names (slice_index v e.from)) e.pred (term_at names (slice_index v e.to)) ≡ true)
      edge_back i e at = row_back (slice_index v e.from) (place_of names e.pred) (slice_index v e.to) e.pred (pred_named triples keys names N k i key e at_key at) refl (edge_row i e at)

      -- each number is an end of a row, since each slot stands on an edge
      slot_end : (s : ℕ) → s < length key.slots → IsEnd (slice_index v s)
      slot_end s h =
          let r = any_found (λ (e : KeyEdge). e.from == s || e.to == s) key.edges ((key_facts key valid).used s h) in
          let b = edge_back r.0 r.1 r.2 in
          elim (or_cases (r.1.from == s) (r.1.to == s) r.3) [
            | inl e ↦ subst (λ n. IsEnd (slice_index v n)) (eqb-true r.1.from s e) b.0
            | inr e ↦ subst (λ n. IsEnd (slice_index v n)) (eqb-true r.1.to s e) b.1
          ]

      -- so each is the number of a name
      pub values_named : All (λ n. n < length names) v
      values_named s d h =
          let c = count in
          let e = slot_end s (omega arith) in
          subst (λ n. n < length names) (e.number ∙ get_or_default v s 0 d h) (place_of-within names (term_at names (slice_index v s)) e.named)

      abbrev terms : List Term
      terms = map (term_at names) v

      term_is : (s : ℕ) → s < length key.slots → term_at terms s ≡ term_at names (slice_index v s)
      term_is s h = let c = count in get_or-map (term_at names) v s 0 (Plain []) (omega arith)

      -- an element of the terms, by its slot
      element : (s : ℕ) (x : Term) → slice_get terms s ≡ Some x → (s < length key.slots) × (x ≡ term_at names (slice_index v s))
      element s x at =
          let w = slice_get_within terms s x at in
          let c = count in
          let l = length-map v (term_at names) in
          let h : s < length key.slots = omega arith in
          (h, sym (get_or_from_slice_get terms s x (Plain []) at) ∙ term_is s h)

      all_known : are_known triples terms ≡ true
      all_known = all_from (is_known triples) terms (λ s x at. let e = element s x at in ap (is_known triples) e.1 ∙ (slot_end s e.0).known)

      differ : all_differ same_term terms ≡ true
      differ = differ_from same_term terms (λ i j x y l at_x at_y.
          let ex = element i x at_x in
          let ey = element j y at_y in
          let c = count in
          false_from_ne_true (same_term x y) (λ t.
          V.different i j 0 l (omega arith)
          (sym (slot_end i ex.0).number ∙ ap (place_of names) (sym ex.1 ∙ same_term-true x y t ∙ ey.1) ∙ (slot_end j ey.0).number)))

      images : have_images triples key terms ≡ true
      images = all_from (has_image triples terms) key.edges (λ i e at.
          let w = ends_inside key valid i e at in
          let b = edge_back i e at in
          ap (λ t. has_triple triples t e.pred (term_at terms e.to)) (term_is e.from w.0) ∙ ap (λ t. has_triple triples (term_at names (slice_index v e.from)) e.pred t) (term_is e.to w.1) ∙ b.2)

      flag : (s : ℕ) → s < length key.slots → get_or (map is_literal names) (slice_index v s) false ≡ is_literal (term_at names (slice_index v s))
      flag s h = let e = slot_end s h in ap (λ n. get_or (map is_literal names) n false) (sym e.number) ∙ literal_flag triples keys names N (term_at names (slice_index v s)) e.named

      typed : (s : ℕ) (type : Term) → s < length key.slots → is_named names type ≡ true → ¬ (IsLiteral G (slice_index v s)) × HasType G (slice_index v s) (place_of names type) → is_typed triples type (term_at names (slice_index v s)) ≡ true
      typed s type h named fits =
          and_from (not (is_literal (term_at names (slice_index v s)))) (has_triple triples (term_at names (slice_index v s)) rdf_type type)
          (not_from_false (is_literal (term_at names (slice_index v s))) (false_from_ne_true (is_literal (term_at names (slice_index v s))) (λ l. fits.0 (flag s h ∙ l))))
          (elim (cases_Bool (is_named names rdf_type)) [
            | inl y ↦
                (let number : type_number names ≡ Some (place_of names rdf_type) = ap (λ b. if b then Some (place_of names rdf_type) else None) y in
                let row = subst (λ o. IsSomeAnd o (λ p. HasRow G (slice_index v s) p (place_of names type))) number fits.1 in
                let b = row_back (slice_index v s) (place_of names rdf_type) (place_of names type) rdf_type y refl row in
                ap (has_triple triples (term_at names (slice_index v s)) rdf_type) (sym (name_back type (place_of names type) named refl)) ∙ b.2)
            | inr n ↦
                absurd (let number : type_number names ≡ None = ap (λ b. if b then Some (place_of names rdf_type) else None) n in
                subst (λ o. IsSomeAnd o (λ p. HasRow G (slice_index v s) p (place_of names type))) number fits.1)
          ])

      kind : (s : ℕ) (slot : KeySlot) → slice_get key.slots s ≡ Some slot → FitsSlot G (slot_of names slot) (slice_index v s) → has_kind triples slot (term_at names (slice_index v s)) ≡ true
      kind s (Entity name type) at fits = typed s type (slice_get_within key.slots s (Entity name type) at) (slot_named triples keys names N k s 0 key (Entity name type) type at_key at refl) fits
      kind s (Any name type) at fits = typed s type (slice_get_within key.slots s (Any name type) at) (slot_named triples keys names N k s 0 key (Any name type) type at_key at refl) fits
      kind s (Value name) at fits = sym (flag s (slice_get_within key.slots s (Value name) at)) ∙ fits
      kind s (Folded name) at fits = sym (flag s (slice_get_within key.slots s (Folded name) at)) ∙ fits
      kind s (Fixed c) at fits = refl

      constant : (s : ℕ) (slot : KeySlot) → slice_get key.slots s ≡ Some slot → FitsSlot G (slot_of names slot) (slice_index v s) → is_constant slot (term_at names (slice_index v s)) ≡ true
      constant s (Entity name type) at fits = refl
      constant s (Any name type) at fits = refl
      constant s (Value name) at fits = refl
      constant s (Folded name) at fits = refl
      constant s (Fixed c) at fits =
          ap (λ u. same_term u c) (name_back c (slice_index v s) (slot_named triples keys names N k s 0 key (Fixed c) c at_key at refl) (sym fits)) ∙ same_term-refl c

      fits_at : (s : ℕ) (slot : KeySlot) → slice_get key.slots s ≡ Some slot → FitsSlot G (slot_of names slot) (slice_index v s)
      fits_at s slot at = V.kinds s (slot_of names slot) (map_at (slot_of names) key.slots s slot at)

      kinds : have_kinds triples key terms ≡ true
      kinds = slots_from (λ n slot. has_kind triples slot (term_at terms n)) key.slots (λ s slot at.
          ap (has_kind triples slot) (term_is s (slice_get_within key.slots s slot at)) ∙ kind s slot at (fits_at s slot at))

      constants : are_constants key terms ≡ true
      constants = slots_from (λ n slot. is_constant slot (term_at terms n)) key.slots (λ s slot at.
          ap (is_constant slot) (term_is s (slice_get_within key.slots s slot at)) ∙ constant s slot at (fits_at s slot at))

    -- names whose folds have one number fold to the same
    fold_back : (m n : ℕ) → IsEnd m → IsEnd n → AreAlike G m n → folded_term (term_at names m) ≡ folded_term (term_at names n)
    fold_back m n em en alike =
        let t = term_at names m in
        let u = term_at names n in
        let at_t = subst (λ i. slice_get names i ≡ Some t) em.number (slice_get-place_of names t em.named) in
        let at_u = subst (λ i. slice_get names i ≡ Some u) en.number (slice_get-place_of names u en.named) in
        let same : fold_of names t ≡ fold_of names u = sym (folds_at names m t at_t) ∙ alike ∙ folds_at names n u at_u in
        let folded = map folded_term names in
        let ft = slice_get-place_of folded (folded_term t) (is_named-at folded (folded_term t) m (folded_at names m t at_t)) in
        let fu = slice_get-place_of folded (folded_term u) (is_named-at folded (folded_term u) n (folded_at names n u at_u)) in
        let both_are : Some (folded_term t) ≡ Some (folded_term u) = sym ft ∙ ap (slice_get folded) same ∙ fu in
        cc

    module _ (v w : List ℕ) (V : IsValuation G (shape_of names key) v) (W : IsValuation G (shape_of names key) w) (same : ℕ → ℕ → Bool) (C : Coincide G (shape_of names key) same v w) where
      agrees : (s : ℕ) (slot : KeySlot) → slice_get key.slots s ≡ Some slot → AgreeAt G same s (slot_of names slot) (slice_index v s) (slice_index w s) → terms_agree slot (term_at names (slice_index v s)) (term_at names (slice_index w s)) ≡ true
      agrees s (Entity name type) at a = refl
      agrees s (Any name type) at a = refl
      agrees s (Value name) at a = ap (λ n. same_term (term_at names (slice_index v s)) (term_at names n)) (sym a) ∙ same_term-refl (term_at names (slice_index v s))
      agrees s (Folded name) at a =
          let w_s = slice_get_within key.slots s (Folded name) at in
          ap (same_term (folded_term (term_at names (slice_index v s)))) (sym (fold_back (slice_index v s) (slice_index w s) (slot_end v V s w_s) (slot_end w W s w_s) a))
          ∙ same_term-refl (folded_term (term_at names (slice_index v s)))
      agrees s (Fixed c) at a = refl

      agree_each : (s : ℕ) (slot : KeySlot) → slice_get key.slots s ≡ Some slot → terms_agree slot (term_at (map (term_at names) v) s) (term_at (map (term_at names) w) s) ≡ true
      agree_each s slot at =
          let h = slice_get_within key.slots s slot at in
          ap (λ t. terms_agree slot t (term_at (map (term_at names) w) s)) (term_is v V s h) ∙ ap (terms_agree slot (term_at names (slice_index v s))) (term_is w W s h)
          ∙ agrees s slot at (C s (slot_of names slot) (map_at (slot_of names) key.slots s slot at))

    unless_true : (test : Bool) (reason : Reason) (later : Option Reason) → test ≡ true → later ≡ None → reason_unless test reason later ≡ None
    unless_true true reason later h l = l
    unless_true false reason later h l = absurd (true≢false (sym h))

    -- there is no reason against a step that tells a chase step
    tells_none : (H : List Entry) (before : List StepShape) (e : Entry) (step : StepShape) → IsMatch G (shape_of names key) (joined_by H) e.a e.b e.left e.right →
        step.left ≡ map (term_at names) e.left → step.right ≡ map (term_at names) e.right → map (λ (s : SupportShape). s.slot) step.supports ≡ supported_variables key.slots →
        list_all (are_earlier (length before)) step.supports ≡ true → list_all (leads_there (map step_ends before) step) step.supports ≡ true →
        reason_at triples (map step_ends before) step (Some key) ≡ None
    tells_none H before e step m left right slots earlier there =
        let cl = length-map e.left (term_at names) in
        let cr = length-map e.right (term_at names) in
        unless_true _ _ _ (and_from _ _ (and_from _ _
        (eq-eqb (length step.left) (length key.slots) (ap length left ∙ cl ∙ count e.left m.left))
        (eq-eqb (length step.right) (length key.slots) (ap length right ∙ cr ∙ count e.right m.right)))
        ((bytes_eq-Decides (map (λ (s : SupportShape). s.slot) step.supports) (supported_variables key.slots)).1 slots))
        (unless_true _ _ _ (and_from _ _ (ap (are_known triples) left ∙ all_known e.left m.left) (ap (are_known triples) right ∙ all_known e.right m.right))
        (unless_true _ _ _ (and_from _ _ (ap (all_differ same_term) left ∙ differ e.left m.left) (ap (all_differ same_term) right ∙ differ e.right m.right))
        (unless_true _ _ _ (and_from _ _ (ap (have_kinds triples key) left ∙ kinds e.left m.left) (ap (have_kinds triples key) right ∙ kinds e.right m.right))
        (unless_true _ _ _ (and_from _ _ (ap (have_images triples key) left ∙ images e.left m.left) (ap (have_images triples key) right ∙ images e.right m.right))
        (unless_true _ _ _ (and_from _ _ (ap (are_constants key) left ∙ constants e.left m.left) (ap (are_constants key) right ∙ constants e.right m.right))
        (unless_true _ _ _ (slots_from (λ n slot. terms_agree slot (term_at step.left n) (term_at step.right n)) key.slots (λ s slot at.
        ap (λ ts. terms_agree slot (term_at ts s) (term_at step.right s)) left ∙ ap (λ ts. terms_agree slot (term_at (map (term_at names) e.left) s) (term_at ts s)) right
        ∙ agree_each e.left e.right m.left m.right (joined_by H) m.coincide s slot at))
        (unless_true _ _ _ (ap (λ n. list_all (are_earlier n) step.supports) (length-map before step_ends) ∙ earlier)
        (unless_true _ _ _ there refl))))))))

-- the key of a step is found by its name
key_found : (keys : List KeyShape) (k : ℕ) (key : KeyShape) (name : List ℕ) → IsKeyFile keys → slice_get keys k ≡ Some key → name ≡ key.name → key_place keys name ≡ k
key_found keys k key name file at e =
    let w = slice_get_within keys k key at in
    position_or_len_is (λ (q : KeyShape). bytes_eq q.name name) keys k key (omega arith)
    (λ j l. false_from_ne_true (bytes_eq (get_or keys j key).name name) (λ t.
    file.names_differ j k key l w ((bytes_eq-Decides (get_or keys j key).name name).0 t ∙ e ∙ ap (λ (q : KeyShape). q.name) (sym (get_or_from_slice_get keys k key key at)))))
    (λ l. (bytes_eq-Decides (get_or keys k key).name name).1 (ap (λ (q : KeyShape). q.name) (get_or_from_slice_get keys k key key at) ∙ sym e))

-- no reason against any step: accepted
all_good : (triples : List Triple) (keys : List KeyShape) (before steps : List StepShape) →
    ((i : ℕ) (step : StepShape) → slice_get steps i ≡ Some step → reason_of triples keys (map step_ends (before ++ take i steps)) step ≡ None) →
    verdict_after triples keys (map step_ends before) steps ≡ Accepted (length before + length steps)
all_good triples keys before [] h = let n : length (map step_ends before) ≡ length before + 0 = length-map before step_ends ∙ omega arith in ap Accepted n
all_good triples keys before (s ∷ steps) h =
    let first : reason_of triples keys (map step_ends before) s ≡ None = subst (λ l. reason_of triples keys (map step_ends l) s ≡ None) (append-nil before) (h 0 s refl) in
    let later = all_good triples keys (before ++ s ∷ []) steps (λ i step at.
    subst (λ l. reason_of triples keys (map step_ends l) step ≡ None) (sym (append_assoc before (s ∷ []) (take i steps))) (h (suc i) step at)) in
    let moved = subst (λ l. verdict_after triples keys l steps ≡ Accepted (length (before ++ s ∷ []) + length steps)) (map-append step_ends before (s ∷ [])) later in
    ap (λ o. rejected_or o (length (map step_ends before) + 1) (verdict_after triples keys (map step_ends before ++ step_ends s ∷ []) steps)) first
    ∙ moved ∙ ap Accepted (ap (λ n. n + length steps) (length-append before (s ∷ [])) ∙ omega arith)

pub told_accepted : (triples : List Triple) (keys : List KeyShape) (H : List Entry) (steps : List StepShape) → IsKeyFile keys →
    IsDerivation (graph_of (names_for triples keys) triples) (patterns_of (names_for triples keys) keys) H → TellsAll (names_for triples keys) (patterns_of (names_for triples keys) keys) (map (λ (k : KeyShape). k.name) keys) H steps → verdict triples keys steps ≡ Accepted (length steps)
told_accepted triples keys H steps file d told =
    all_good triples keys [] steps (λ i step at. against i step at) ∙ ap Accepted (omega arith)
  where
    names : List Term
    names = names_for triples keys

    against : (i : ℕ) (step : StepShape) → slice_get steps i ≡ Some step → reason_of triples keys (map step_ends (take i steps)) step ≡ None
    against i step at =
        let w = slice_get_within steps i step at in
        let n = told.one_each in
        let e = at_within H i (omega arith) in
        let t = told.each i e.0 step e.1 at in
        let chase = d i e.0 e.1 in
        let pattern = map_found (shape_of names) keys e.0.key chase.pattern chase.key in
        let key : KeyShape = pattern.0 in
        let told_is : t.pattern ≡ shape_of names key = (let both_are : Some t.pattern ≡ Some chase.pattern = sym t.found ∙ chase.key in let one : t.pattern ≡ chase.pattern = cc in one ∙ sym pattern.2) in
        let wk = slice_get_within keys e.0.key key pattern.1 in
        let valid : IsKey key = subst IsKey (get_or_from_slice_get keys e.0.key key key pattern.1) (file.valid e.0.key key wk) in
        let match = subst (λ Q. IsMatch (graph_of names triples) Q (joined_by (take i H)) e.0.a e.0.b e.0.left e.0.right) (sym pattern.2) chase.witness in
        let name : step.key ≡ key.name = (let both_are : Some step.key ≡ Some key.name = sym t.key ∙ map_at (λ (k : KeyShape). k.name) keys e.0.key key pattern.1 in cc) in
        let there = key_found keys e.0.key key step.key file pattern.1 name in
        let slots = t.slots ∙ ap (λ (Q : Shape). shape_slots Q.slots) told_is ∙ supported_same names key.slots in
        ap (reason_at triples (map step_ends (take i steps)) step) (ap (slice_get keys) there ∙ pattern.1)
        ∙ tells_none triples keys names (are_names triples keys) e.0.key key pattern.1 valid (take i H) (take i steps) e.0 step match t.left t.right slots t.earlier t.leads_to
