-- The names of a graph and its keys.
use Rattle.std.proofs.Common.{List, [], ◌∷◌, ◌++◌, ℕ, zero, suc, true, false, Some, None, map, slice_get, get_or, flat_map, ◌≡◌, inl, inr, refl, sym, ap, subst, ◌∙◌, IsSomeAnd, if◌then◌else◌}
use Rattle.std.proofs.lemmas.Bool.{and_parts, or_cases}
use Rattle.std.proofs.lemmas.Option.{get_or_from_slice_get}
use Rattle.gk_base.specs.Term.{is_literal}
use Rattle.gk_base.specs.declared.term.Term.{Term}
use Rattle.gk_base.specs.declared.term.Triple.{Triple}
use Rattle.term_list.specs.Triples.{triple_terms, terms_of}
use Rattle.chase_laws.specs.Graph.{HasRow, HasType, AreAlike}
use Rattle.chase_laws.proofs.CallerLemmas.{Contains-from_slice_get, slice_get-from_Contains}
use Rattle.term_table.specs.Numbering.{same_term, is_named, place_of, AreDistinct}
use Rattle.term_table.specs.Folding.{folded_term}
use Rattle.term_table.proofs.CallerLemmas.{same_term-true, slice_get-place_of, is_named-names_of, AreDistinct-names_of}
use Rattle.term_table.proofs.CallerLemmas.{folds_at}
use Rattle.key_file.specs.declared.slot.KeySlot.{KeySlot}
use Rattle.key_file.specs.declared.edge.KeyEdge.{KeyEdge}
use Rattle.key_file.specs.KeyShape.{KeyShape}
use Rattle.key_file.specs.Compile as compile
use Rattle.key_file.specs.Compile.{slot_terms, key_terms}
use Rattle.key_file.specs.Numbered.{rdf_type, names_for, row_of, type_number, graph_of}
use Rattle.proof_check.specs.Verdict.{is_triple, has_triple, is_end, is_known}
use Rattle.proof_check.proofs.ListFacts.{any_found, map_at, map_found}

-- lists joined end to end hold what each of them holds
pub at_left : {X : Type 0} (xs ys : List X) (k : ℕ) (x : X) → slice_get xs k ≡ Some x → slice_get (xs ++ ys) k ≡ Some x
at_left [] ys k x at = absurd cc
at_left (z ∷ zs) ys zero x at = at
at_left (z ∷ zs) ys (suc k) x at = at_left zs ys k x at

pub at_right : {X : Type 0} (xs ys : List X) (k : ℕ) (x : X) → slice_get ys k ≡ Some x → (i : ℕ) × (slice_get (xs ++ ys) i ≡ Some x)
at_right [] ys k x at = (k, at)
at_right (z ∷ zs) ys k x at = let r = at_right zs ys k x at in (suc r.0, r.1)

pub at_flat_map : {X Y : Type 0} (f : X → List Y) (xs : List X) (k j : ℕ) (x : X) (y : Y) → slice_get xs k ≡ Some x → slice_get (f x) j ≡ Some y → (i : ℕ) × (slice_get (flat_map f xs) i ≡ Some y)
at_flat_map f [] k j x y at in_x = absurd cc
at_flat_map f (z ∷ zs) zero j x y at in_x = let e : x ≡ z = cc in (j, at_left (f z) (flat_map f zs) j y (subst (λ u. slice_get (f u) j ≡ Some y) e in_x))
at_flat_map f (z ∷ zs) (suc k) j x y at in_x = let r = at_flat_map f zs k j x y at in_x in at_right (f z) (flat_map f zs) r.0 y r.1

-- what the names are: all different, with each term of the triples and of the keys among them
pub record AreNames (triples : List Triple) (keys : List KeyShape) (names : List Term) : Type 0 where
  pub distinct : AreDistinct names
  pub triple : (k j : ℕ) (t : Triple) (u : Term) → slice_get triples k ≡ Some t → slice_get (triple_terms t) j ≡ Some u → is_named names u ≡ true
  pub key : (k j : ℕ) (key : KeyShape) (u : Term) → slice_get keys k ≡ Some key → slice_get (compile.terms_of_key key) j ≡ Some u → is_named names u ≡ true

pub are_names : (triples : List Triple) (keys : List KeyShape) → AreNames triples keys (names_for triples keys)
are_names triples keys =
    let terms = terms_of triples ++ key_terms keys in
    record {
      distinct = AreDistinct-names_of terms;
      triple = λ k j t u at in_t. let r = at_flat_map triple_terms triples k j t u at in_t in is_named-names_of terms r.0 u (at_left (terms_of triples) (key_terms keys) r.0 u r.1);
      key = λ k j key u at in_key. let r = at_flat_map compile.terms_of_key keys k j key u at in_key in let s = at_right (terms_of triples) (key_terms keys) r.0 u r.1 in is_named-names_of terms s.0 u s.1;
    }

module _ (triples : List Triple) (keys : List KeyShape) (names : List Term) (N : AreNames triples keys names) where
  -- the terms of a key's slots and its predicates are names
  pub slot_named : (k s j : ℕ) (key : KeyShape) (slot : KeySlot) (u : Term) → slice_get keys k ≡ Some key → slice_get key.slots s ≡ Some slot → slice_get (slot_terms slot) j ≡ Some u → is_named names u ≡ true
  slot_named k s j key slot u at in_key in_slot =
      let r = at_flat_map slot_terms key.slots s j slot u in_key in_slot in
      N.key k r.0 key u at (at_left (flat_map slot_terms key.slots) (map (λ (e : KeyEdge). e.pred) key.edges) r.0 u r.1)

  pub pred_named : (k i : ℕ) (key : KeyShape) (e : KeyEdge) → slice_get keys k ≡ Some key → slice_get key.edges i ≡ Some e → is_named names e.pred ≡ true
  pred_named k i key e at in_key =
      let r = at_right (flat_map slot_terms key.slots) (map (λ (e : KeyEdge). e.pred) key.edges) i e.pred (map_at (λ (e : KeyEdge). e.pred) key.edges i e in_key) in
      N.key k r.0 key e.pred at r.1

  -- a known term is a name
  pub known_named : (t : Term) → is_known triples t ≡ true → is_named names t ≡ true
  known_named t h =
      let r = any_found (is_end t) triples h in
      elim (or_cases (same_term t r.1.subject) (same_term t r.1.object) r.3) [
        | inl e ↦ subst (λ u. is_named names u ≡ true) (sym (same_term-true t r.1.subject e)) (N.triple r.0 0 r.1 r.1.subject r.2 refl)
        | inr e ↦ subst (λ u. is_named names u ≡ true) (sym (same_term-true t r.1.object e)) (N.triple r.0 2 r.1 r.1.object r.2 refl)
      ]

  -- different names have different numbers
  pub same_place : (t u : Term) → is_named names t ≡ true → is_named names u ≡ true → place_of names t ≡ place_of names u → t ≡ u
  same_place t u p q e =
      let both_are : Some t ≡ Some u = sym (slice_get-place_of names t p) ∙ ap (slice_get names) e ∙ slice_get-place_of names u q in
      cc

  -- a triple and its row
  pub triple_row : (s p o : Term) → has_triple triples s p o ≡ true → HasRow (graph_of names triples) (place_of names s) (place_of names p) (place_of names o)
  triple_row s p o h =
      let r = any_found (is_triple s p o) triples h in
      let outer = and_parts _ _ r.3 in
      let inner = and_parts _ _ outer.0 in
      let es : r.1.subject ≡ s = sym (same_term-true s r.1.subject inner.0) in
      let ep : r.1.predicate ≡ p = sym (same_term-true p r.1.predicate inner.1) in
      let eo : r.1.object ≡ o = sym (same_term-true o r.1.object outer.1) in
      let row : row_of names r.1 ≡ place_of names s ∷ place_of names p ∷ place_of names o ∷ [] = λ i. place_of names (es i) ∷ place_of names (ep i) ∷ place_of names (eo i) ∷ [] in
      Contains-from_slice_get (map (row_of names) triples) r.0 (place_of names s ∷ place_of names p ∷ place_of names o ∷ []) (map_at (row_of names) triples r.0 r.1 r.2 ∙ ap Some row)

  -- the triple of a row
  pub row_triple : (s p o : ℕ) → HasRow (graph_of names triples) s p o → (k : ℕ) × (t : Triple) × (slice_get triples k ≡ Some t) × (place_of names t.subject ≡ s) × (place_of names t.predicate ≡ p) × (place_of names t.object ≡ o)
  row_triple s p o h =
      let r = slice_get-from_Contains (map (row_of names) triples) (s ∷ p ∷ o ∷ []) h in
      let t = map_found (row_of names) triples r.0 (s ∷ p ∷ o ∷ []) r.1 in
      (r.0, t.0, t.1, cc, cc, cc)

  -- the flag of a literal
  pub literal_flag : (t : Term) → is_named names t ≡ true → get_or (map is_literal names) (place_of names t) false ≡ is_literal t
  literal_flag t h = get_or_from_slice_get (map is_literal names) (place_of names t) (is_literal t) false (map_at is_literal names (place_of names t) t (slice_get-place_of names t h))

  -- a type triple
  pub type_row : (t type : Term) → has_triple triples t rdf_type type ≡ true → HasType (graph_of names triples) (place_of names t) (place_of names type)
  type_row t type h =
      let r = any_found (is_triple t rdf_type type) triples h in
      let outer = and_parts _ _ r.3 in
      let inner = and_parts _ _ outer.0 in
      let named : is_named names rdf_type ≡ true = subst (λ u. is_named names u ≡ true) (sym (same_term-true rdf_type r.1.predicate inner.1)) (N.triple r.0 1 r.1 r.1.predicate r.2 refl) in
      let number : type_number names ≡ Some (place_of names rdf_type) = ap (λ b. if b then Some (place_of names rdf_type) else None) named in
      subst (λ o. IsSomeAnd o (λ p. HasRow (graph_of names triples) (place_of names t) p (place_of names type))) (sym number) (triple_row t rdf_type type h)

  -- terms that fold to the same are alike
  pub alike_row : (t u : Term) → is_named names t ≡ true → is_named names u ≡ true → folded_term t ≡ folded_term u → AreAlike (graph_of names triples) (place_of names t) (place_of names u)
  alike_row t u p q e =
      folds_at names (place_of names t) t (slice_get-place_of names t p) ∙ ap (place_of (map folded_term names)) e ∙ sym (folds_at names (place_of names u) u (slice_get-place_of names u q))
