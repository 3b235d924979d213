-- An open key that passes the checks of its end is a valid key.
use Rattle.std.proofs.Common.{◌≡◌, ℕ, zero, suc, ◌+◌, ◌<◌, true, false, ◌&&◌, nat_lt, eqb, List, [], ◌∷◌, map, length, get_or, slice_get, All, refl, sym, ap, ◌∙◌, arith, length-append}
use Rattle.std.proofs.lemmas.Bool.{and_parts, and_from, eq-eqb, eqb-true, ltb-true, lt-ltb, le-leb, true≢false}
use Rattle.std.proofs.lemmas.List.{length-map}
use Rattle.std.proofs.lemmas.List.Sums.{AllPass-from_list_all}
use Rattle.std.specs.List.{list_all, list_any}
use Rattle.gk_base.specs.declared.term.Term.{Term}
use Rattle.term_table.specs.Numbering.{same_term}
use Rattle.term_table.proofs.CallerLemmas.{slice_get-append}
use Rattle.key_file.specs.declared.slot.KeySlot.{KeySlot}
use Rattle.key_file.specs.declared.slot.KeySlot.TheVariants.{Entity, Any, Value, Folded, Fixed}
use Rattle.key_file.specs.declared.edge.KeyEdge.{KeyEdge}
use Rattle.key_file.specs.Key.{is_entity_variable, may_be_subject, same_slot, same_key_edge, IsKey, is_connected}
use Rattle.key_lang.specs.declared.open_key.End.{End}
use Rattle.key_lang.specs.declared.open_key.End.TheVariants.{Variable, Constant}
use Rattle.key_lang.specs.declared.open_key.OpenEdge.{OpenEdge}
use Rattle.key_lang.specs.OpenKey.{OpenShape, nodes, same_end, same_triple, slot_of_end, key_edge, whole, all_used}
use Rattle.key_lang.specs.Fair.{is_no_constant, leads, is_inside, IsFair}
use Rattle.key_lang.proofs.DifferLemmas.{Apart, differ_append, differ_map}

no_slot : (slot : KeySlot) (constants : List Term) → is_no_constant slot ≡ true → list_any (same_slot slot) (map Fixed constants) ≡ false
no_slot slot [] v = refl
no_slot (Entity a t) (c ∷ cs) v = no_slot (Entity a t) cs v
no_slot (Any a t) (c ∷ cs) v = no_slot (Any a t) cs v
no_slot (Value a) (c ∷ cs) v = no_slot (Value a) cs v
no_slot (Folded a) (c ∷ cs) v = no_slot (Folded a) cs v
no_slot (Fixed d) (c ∷ cs) v = absurd (true≢false (sym v))

apart : (variables : List KeySlot) (constants : List Term) → list_all is_no_constant variables ≡ true → Apart same_slot variables (map Fixed constants)
apart [] constants v = tt
apart (s ∷ ss) constants v = let parts = and_parts _ _ v in (no_slot s constants parts.0, apart ss constants parts.1)

pub some_first : (slots : List KeySlot) → is_entity_variable (slice_get slots 0) ≡ true → 0 < length slots
some_first [] e = absurd (true≢false (sym e))
some_first (s ∷ ss) e = omega arith

pub some_subject : (slots : List KeySlot) (k : ℕ) → may_be_subject (slice_get slots k) ≡ true → k < length slots
some_subject [] k e = absurd (true≢false (sym e))
some_subject (s ∷ ss) zero e = omega arith
some_subject (s ∷ ss) (suc k) e = let h = some_subject ss k e in omega arith

-- ends of the same slot are the same
ends_same : (key : OpenShape) (x y : End) → leads key x ≡ true → leads key y ≡ true → eqb (slot_of_end (length key.variables) x) (slot_of_end (length key.variables) y) ≡ true
    → same_end x y ≡ true
ends_same key (Variable a) (Variable b) p q e = e
ends_same key (Constant a) (Constant b) p q e = let same = eqb-true _ _ e in eq-eqb a b (omega arith)
ends_same key (Variable a) (Constant b) p q e = let same = eqb-true _ _ e in let less = ltb-true _ _ p in absurd (omega arith)
ends_same key (Constant a) (Variable b) p q e = let same = eqb-true _ _ e in let less = ltb-true _ _ q in absurd (omega arith)

edges_same : (key : OpenShape) (e f : OpenEdge) → is_inside key e ≡ true → is_inside key f ≡ true
    → same_key_edge (key_edge (length key.variables) e) (key_edge (length key.variables) f) ≡ true → same_triple e f ≡ true
edges_same key e f p q h =
    let parts = and_parts _ _ h in
    let ends = and_parts _ _ parts.0 in
    and_from _ _ (and_from _ _ ends.0 parts.1) (ends_same key e.to f.to (and_parts _ _ p).1 (and_parts _ _ q).1 ends.1)

module _ (key : OpenShape) (fair : IsFair key) where
  slots-length : length (whole key).slots ≡ nodes key
  slots-length = length-append key.variables (map Fixed key.constants) ∙ ap (λ n. length key.variables + n) (length-map key.constants Fixed)

  end_inside : (x : End) → leads key x ≡ true → slot_of_end (length key.variables) x < length (whole key).slots
  end_inside (Variable a) p = let less = ltb-true _ _ p in omega (arith, slots-length)
  end_inside (Constant a) p = let less = ltb-true _ _ p in omega (arith, slots-length)

  inside : (edges : List OpenEdge) → list_all (is_inside key) edges ≡ true
      → list_all (λ (e : KeyEdge). nat_lt e.to (length (whole key).slots) && may_be_subject (slice_get (whole key).slots e.from)) (map (key_edge (length key.variables)) edges) ≡ true
  inside [] all = refl
  inside (e ∷ es) all =
      let parts = and_parts _ _ all in
      let this = and_parts _ _ parts.0 in
      and_from _ _ (and_from _ _ (lt-ltb _ _ (end_inside e.to this.1))
      (ap may_be_subject (slice_get-append key.variables (map Fixed key.constants) e.from (some_subject key.variables e.from this.0)) ∙ this.0)) (inside es parts.1)

  pub whole_valid : 0 < length key.edges → all_used (whole key) ≡ true → is_connected (length (whole key).slots) (whole key).edges ≡ true → IsKey (whole key)
  whole_valid some used connected =
      and_from _ _ (and_from _ _ (and_from _ _ (and_from _ _ (and_from _ _ (and_from _ _ (and_from _ _ (and_from _ _
      (ap is_entity_variable (slice_get-append key.variables (map Fixed key.constants) 0 (some_first key.variables fair.first)) ∙ fair.first)
      (le-leb _ _ (omega (arith, slots-length, fair.few_nodes))))
      (differ_append same_slot key.variables (map Fixed key.constants) fair.variables_differ
      (differ_map same_term same_slot Fixed (λ _. true) (λ x y p q e. e) key.constants (all_true key.constants) fair.constants_differ) (apart key.variables key.constants fair.variables)))
      (lt-ltb _ _ (omega (arith, some, length-map key.edges (key_edge (length key.variables))))))
      (le-leb _ _ (omega (arith, fair.few_edges, length-map key.edges (key_edge (length key.variables))))))
      (differ_map same_triple same_key_edge (key_edge (length key.variables)) (is_inside key) (edges_same key) key.edges fair.ends fair.edges_differ))
      (inside key.edges fair.ends)) used) connected
    where
      all_true : {X : Type 0} (xs : List X) → list_all (λ _. true) xs ≡ true
      all_true [] = refl
      all_true (x ∷ xs) = all_true xs

  -- its slots are numbered below 16
  edge_small : (e : OpenEdge) → is_inside key e ≡ true → (e.from < 256) × (slot_of_end (length key.variables) e.to < 256)
  edge_small e p =
      let parts = and_parts _ _ p in
      let from = some_subject key.variables e.from parts.0 in
      let to = end_inside e.to parts.1 in
      (omega (arith, fair.few_nodes), omega (arith, fair.few_nodes, slots-length))

  pub edges_small : (edges : List OpenEdge) → list_all (is_inside key) edges ≡ true → All (λ (e : OpenEdge). (e.from < 256) × (slot_of_end (length key.variables) e.to < 256)) edges
  edges_small edges all k d below = edge_small (get_or edges k d) (AllPass-from_list_all (is_inside key) edges all k d below)
