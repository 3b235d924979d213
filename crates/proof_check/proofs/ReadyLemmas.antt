-- What is made before a proof is there serves for whatever terms a proof has.
use Rattle.std.proofs.Common.{List, [], ◌∷◌, ◌++◌, ℕ, suc, ◌<◌, true, false, Some, Contains, map, length, slice_get, get_or, flat_map, ◌≡◌, ◌↔◌, inl, inr, refl, sym, ap, ap₂, subst, ◌∙◌, arith}
use Rattle.std.proofs.lemmas.Bool.{cases_lt}
use Rattle.std.proofs.lemmas.List.{get_or_past}
use Rattle.std.proofs.lemmas.List.Sums.{fold-append}
use Rattle.gk_base.specs.declared.term.Term.{Term}
use Rattle.gk_base.specs.declared.term.Triple.{Triple}
use Rattle.chase_laws.specs.declared.pattern.Slot.TheVariants as node
use Rattle.term_table.specs.Numbering.{is_named, place_of, with_term, with_terms, AreDistinct}
use Rattle.term_table.proofs.CallerLemmas.{is_named-came, is_named-added, is_named-with_terms, place_of-with_terms, place_of-at, AreDistinct-with_term, length-with_terms}
use Rattle.key_file.specs.declared.slot.KeySlot.{KeySlot}
use Rattle.key_file.specs.declared.slot.KeySlot.TheVariants.{Entity, Any, Value, Folded, Fixed}
use Rattle.key_file.specs.declared.edge.KeyEdge.{KeyEdge}
use Rattle.key_file.specs.KeyShape.{KeyShape}
use Rattle.key_file.specs.Compile as compile
use Rattle.key_file.specs.Compile.{slot_terms, key_terms, slot_of, numbered_edge, shape_of, patterns_of}
use Rattle.key_file.specs.Numbered.{rdf_type}
use Rattle.proof_check.specs.Rows.{has_end, IsGraphInNumbers}
use Rattle.proof_check.specs.Ready.{AreKeyNames, IsReady}
use Rattle.proof_check.specs.declared.checker.Checker.{Checker}
use Rattle.proof_check.proofs.ListFacts.{map_at}
use Rattle.proof_check.proofs.NameFacts.{at_left, at_right, at_flat_map}
use Rattle.proof_check.proofs.LookupLemmas.{graph_named, ends_past, lookup_is}

-- the keys' terms are names
key_names : (start : List Term) (keys : List KeyShape) → AreKeyNames (with_terms start (key_terms keys)) keys
key_names start keys = record {
  slots = λ k s j key slot u at in_key in_slot.
      let r = at_flat_map slot_terms key.slots s j slot u in_key in_slot in
      let q = at_flat_map compile.terms_of_key keys k r.0 key u at (at_left (flat_map slot_terms key.slots) (map (λ (e : KeyEdge). e.pred) key.edges) r.0 u r.1) in
      is_named-came start (key_terms keys) q.0 u q.1;
  preds = λ k i key e at in_key.
      let r = at_right (flat_map slot_terms key.slots) (map (λ (e : KeyEdge). e.pred) key.edges) i e.pred (map_at (λ (e : KeyEdge). e.pred) key.edges i e in_key) in
      let q = at_flat_map compile.terms_of_key keys k r.0 key e.pred at r.1 in
      is_named-came start (key_terms keys) q.0 e.pred q.1;
}

-- ---- more terms come behind names

distinct_more : (names terms : List Term) → AreDistinct names → AreDistinct (with_terms names terms)
distinct_more names [] d = d
distinct_more names (t ∷ terms) d = distinct_more (with_term names t) terms (AreDistinct-with_term names t d)

map_same : {X Y : Type 0} (f g : X → Y) (xs : List X) → ((k : ℕ) (x : X) → slice_get xs k ≡ Some x → f x ≡ g x) → map f xs ≡ map g xs
map_same f g [] h = refl
map_same f g (x ∷ xs) h = ap₂ (λ y ys. y ∷ ys) (h 0 x refl) (map_same f g xs (λ k y at. h (suc k) y at))

module _ (names terms : List Term) where
  slot_stays : (slot : KeySlot) → ((j : ℕ) (u : Term) → slice_get (slot_terms slot) j ≡ Some u → is_named names u ≡ true) → slot_of (with_terms names terms) slot ≡ slot_of names slot
  slot_stays (Entity name type) named = ap node.Entity (place_of-with_terms names terms type (named 0 type refl))
  slot_stays (Any name type) named = ap node.Any (place_of-with_terms names terms type (named 0 type refl))
  slot_stays (Value name) named = refl
  slot_stays (Folded name) named = refl
  slot_stays (Fixed c) named = ap node.Fixed (place_of-with_terms names terms c (named 0 c refl))

  edge_stays : (e : KeyEdge) → is_named names e.pred ≡ true → numbered_edge (with_terms names terms) e ≡ numbered_edge names e
  edge_stays e named = let same = place_of-with_terms names terms e.pred named in λ i. record { from = e.from; pred = same i; to = e.to }

  module _ (keys : List KeyShape) (K : AreKeyNames names keys) where
    key_names_more : AreKeyNames (with_terms names terms) keys
    key_names_more = record {
      slots = λ k s j key slot u at in_key in_slot. is_named-with_terms names terms u (K.slots k s j key slot u at in_key in_slot);
      preds = λ k i key e at in_key. is_named-with_terms names terms e.pred (K.preds k i key e at in_key);
    }

    patterns_stay : patterns_of (with_terms names terms) keys ≡ patterns_of names keys
    patterns_stay = map_same (shape_of (with_terms names terms)) (shape_of names) keys (λ k key at.
        let slots = map_same (slot_of (with_terms names terms)) (slot_of names) key.slots (λ s slot in_key. slot_stays slot (λ j u in_slot. K.slots k s j key slot u at in_key in_slot)) in
        let edges = map_same (numbered_edge (with_terms names terms)) (numbered_edge names) key.edges (λ i e in_key. edge_stays e (K.preds k i key e at in_key)) in
        λ i. record { slots = slots i; edges = edges i })

-- ---- a checker that was made of a graph and keys

-- the number of rdf:type stays
pub kind_stays : (names one all keys : List Term) (t : Term) (kind : ℕ) → one ≡ with_term names t → AreDistinct one → slice_get one kind ≡ Some t → all ≡ with_terms one keys → place_of all t ≡ kind
kind_stays names one all keys t kind is d at grown =
    let named : is_named one t ≡ true = ap (λ l. is_named l t) is ∙ is_named-added names t in
    ap (λ l. place_of l t) grown ∙ place_of-with_terms one keys t named ∙ place_of-at one d t kind at

-- what was made
pub record WasMade (graph : List Term) (rows : List (List ℕ)) (keys : List KeyShape) (checker : Checker) : Type 0 where
  pub names : checker.names ≡ with_terms (with_term graph rdf_type) (key_terms keys)
  pub distinct : AreDistinct checker.names
  pub order : (row : List ℕ) → Contains checker.rows row ↔ Contains rows row
  pub count : length checker.known.items ≡ length checker.names
  pub ends : (n : ℕ) → n < length checker.names → get_or checker.known.items n false ≡ has_end rows n
  pub kind : place_of checker.names rdf_type ≡ checker.kind
  pub compiled : checker.patterns.items ≡ patterns_of checker.names keys

pub made_ready : (graph : List Term) (rows : List (List ℕ)) (keys : List KeyShape) (checker : Checker) (triples : List Triple) → WasMade graph rows keys checker → IsGraphInNumbers graph rows triples → IsReady checker triples keys
made_ready graph rows keys checker triples made g = λ terms. record {
  look = lookup_is graph rows triples (rdf_type ∷ key_terms keys ++ terms) (with_terms names terms) checker.rows checker.known.items checker.kind g (grown terms) (distinct_more names terms made.distinct) made.order ends_all
      (is_named-with_terms names terms rdf_type typed, place_of-with_terms names terms rdf_type typed ∙ made.kind);
  named = key_names_more names terms keys in_names;
  compiled = made.compiled ∙ sym (patterns_stay names terms keys in_names);
}
  where
    names : List Term
    names = checker.names

    grown : (terms : List Term) → with_terms checker.names terms ≡ with_terms graph (rdf_type ∷ key_terms keys ++ terms)
    grown terms = ap (λ l. with_terms l terms) made.names ∙ sym (fold-append with_term (with_term graph rdf_type) (key_terms keys) terms)

    in_names : AreKeyNames checker.names keys
    in_names = subst (λ l. AreKeyNames l keys) (sym made.names) (key_names (with_term graph rdf_type) keys)

    typed : is_named checker.names rdf_type ≡ true
    typed = ap (λ l. is_named l rdf_type) made.names ∙ is_named-with_terms (with_term graph rdf_type) (key_terms keys) rdf_type (is_named-added graph rdf_type)

    -- a number without a flag is no end
    ends_all : (n : ℕ) → get_or checker.known.items n false ≡ has_end rows n
    ends_all n = elim (cases_lt n (length checker.names)) [
      | inl h ↦ made.ends n h
      | inr h ↦
          (let size = ap length made.names in
          let more = (length-with_terms graph (rdf_type ∷ key_terms keys)).0 in
          let count = made.count in
          get_or_past checker.known.items n false (omega arith)
          ∙ sym (ap (λ l. has_end l n) g.rows_are ∙ ends_past graph n (omega arith) triples (graph_named graph rows triples g)))
    ]
