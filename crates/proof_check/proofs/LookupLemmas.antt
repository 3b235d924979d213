-- What is looked up in a graph in numbers is what its triples say.
use Rattle.std.proofs.Common.{List, [], ◌∷◌, ℕ, ◌<◌, ◌≤◌, Bool, true, false, ◌&&◌, ◌||◌, ◌==◌, nat_eq, Some, Contains, bytes_eq, map, length, get_or, ◌≡◌, ◌↔◌, refl, sym, ap, ap₂, subst, ◌∙◌, arith, eqb-true, eq-eqb}
use Rattle.std.specs.List.{list_any}
use Rattle.std.proofs.lemmas.Bool.{ne_eqb, or_from}
use Rattle.std.proofs.lemmas.Slice.Eq.{bytes_eq-Decides}
use Rattle.std.proofs.lemmas.Option.{slice_get-get_or, slice_get_within, get_or_from_slice_get}
use Rattle.gk_base.specs.declared.term.Term.{Term}
use Rattle.gk_base.specs.declared.term.Term.TheVariants.{Plain}
use Rattle.gk_base.specs.declared.term.Triple.{Triple}
use Rattle.term_table.specs.Numbering.{same_term, is_named, place_of, with_terms, AreDistinct}
use Rattle.term_table.proofs.CallerLemmas.{same_term-true, same_term-refl, slice_get-place_of, place_of-within, place_of-at, is_named-with_terms}
use Rattle.key_file.specs.Numbered.{row_of, rdf_type}
use Rattle.key_file.proofs.CallerLemmas.{AreNamed, all_named, rows_stay}
use Rattle.chase_laws.proofs.CallerLemmas.{slice_get-from_Contains}
use Rattle.proof_file.specs.Steps.{term_at}
use Rattle.proof_check.specs.Verdict.{has_triple, is_known}
use Rattle.proof_check.specs.NumberVerdict.{IsLookup, has_row}
use Rattle.proof_check.specs.Rows.{has_end, IsGraphInNumbers}
use Rattle.proof_check.proofs.ListFacts.{both_ways, any_found, any_at}

-- the same rows in another order
pub row_order : (old new : List (List ℕ)) → ((row : List ℕ) → Contains new row ↔ Contains old row) → (s p o : ℕ) → has_row new s p o ≡ has_row old s p o
row_order old new same s p o =
    let row = s ∷ p ∷ o ∷ [] in
    both_ways (has_row new s p o) (has_row old s p o)
    (λ h. (contains_test old row).1 ((same row).0 ((contains_test new row).0 h)))
    (λ h. (contains_test new row).1 ((same row).1 ((contains_test old row).0 h)))
  where
    contains_test : (rows : List (List ℕ)) (row : List ℕ) → (list_any (bytes_eq row) rows ≡ true) ↔ Contains rows row
    contains_test rows row = (
      λ t. let r = any_found (bytes_eq row) rows t in let e = (bytes_eq-Decides row r.1).0 r.3 in (r.0, slice_get_within rows r.0 r.1 r.2, get_or_from_slice_get rows r.0 r.1 row r.2 ∙ sym e),
      λ c. let r = slice_get-from_Contains rows row c in any_at (bytes_eq row) rows r.0 row r.1 ((bytes_eq-Decides row row).1 refl),
    )

-- ---- names that all differ, with the terms of triples among them

module _ (names : List Term) (distinct : AreDistinct names) where
  abbrev term : ℕ → Term
  term n = term_at names n

  -- a number is that of a term where its own term is the same
  number_same : (n : ℕ) (u : Term) → n < length names → is_named names u ≡ true → nat_eq n (place_of names u) ≡ same_term (term n) u
  number_same n u h named =
      both_ways (nat_eq n (place_of names u)) (same_term (term n) u)
      (λ e. ap (λ t. same_term t u) (ap term (eqb-true n (place_of names u) e) ∙ get_or_from_slice_get names (place_of names u) u (Plain []) (slice_get-place_of names u named)) ∙ same_term-refl u)
      (λ e. eq-eqb n (place_of names u) (sym (place_of-at names distinct u n (slice_get-get_or names n (Plain []) h ∙ ap Some (same_term-true (term n) u e)))))

  -- a row of three numbers is that of a triple where the triple has their terms
  rows_same : (s p o : ℕ) → s < length names → p < length names → o < length names → (triples : List Triple) → AreNamed names triples → has_row (map (row_of names) triples) s p o ≡ has_triple triples (term s) (term p) (term o)
  rows_same s p o hs hp ho [] h = refl
  rows_same s p o hs hp ho (t ∷ triples) h =
      let ts = number_same s t.subject hs h.0.subject in
      let tp = number_same p t.predicate hp h.0.predicate in
      let to = number_same o t.object ho h.0.object in
      ap₂ (λ a b. a || b) (three (nat_eq s (place_of names t.subject)) (nat_eq p (place_of names t.predicate)) (nat_eq o (place_of names t.object)) ∙ (λ i. ts i && tp i && to i)) (rows_same s p o hs hp ho triples h.1)
    where
      three : (a b c : Bool) → (a && (b && (c && true))) ≡ ((a && b) && c)
      three true true true = refl
      three true true false = refl
      three true false c = refl
      three false b c = refl

  -- and so for its ends
  ends_same : (n : ℕ) → n < length names → (triples : List Triple) → AreNamed names triples → has_end (map (row_of names) triples) n ≡ is_known triples (term n)
  ends_same n l [] h = refl
  ends_same n l (t ∷ triples) h =
      ap₂ (λ a b. a || b) (ap₂ (λ a b. a || b) (number_same n t.subject l h.0.subject) (number_same n t.object l h.0.object)) (ends_same n l triples h.1)

-- no other number is an end
pub ends_past : (names : List Term) (n : ℕ) → length names ≤ n → (triples : List Triple) → AreNamed names triples → has_end (map (row_of names) triples) n ≡ false
ends_past names n l [] h = refl
ends_past names n l (t ∷ triples) h = or_from _ _ (or_from _ _ (past t.subject h.0.subject) (past t.object h.0.object)) (ends_past names n l triples h.1)
  where
    past : (u : Term) → is_named names u ≡ true → (n == place_of names u) ≡ false
    past u named = ne_eqb n (place_of names u) (λ e. let w = place_of-within names u named in omega arith)

-- ---- a graph in numbers

-- the terms of a graph in numbers are its names
pub graph_named : (names : List Term) (rows : List (List ℕ)) (triples : List Triple) → IsGraphInNumbers names rows triples → AreNamed names triples
graph_named names rows triples g = subst (λ l. AreNamed l triples) (sym g.names_are) (all_named [] triples)

-- and stay so where more terms come behind them
named_more : (names more : List Term) (triples : List Triple) → AreNamed names triples → AreNamed (with_terms names more) triples
named_more names more [] h = tt
named_more names more (t ∷ triples) h = (
  record {
    subject = is_named-with_terms names more t.subject h.0.subject;
    predicate = is_named-with_terms names more t.predicate h.0.predicate;
    object = is_named-with_terms names more t.object h.0.object;
  },
  named_more names more triples h.1,
)

-- what is looked up by its numbers, where more terms came behind its names
pub lookup_is : (graph : List Term) (rows : List (List ℕ)) (triples : List Triple) (more names : List Term) (sorted : List (List ℕ)) (known : List Bool) (kind : ℕ) →
    IsGraphInNumbers graph rows triples → names ≡ with_terms graph more → AreDistinct names → ((row : List ℕ) → Contains sorted row ↔ Contains rows row) →
    ((n : ℕ) → get_or known n false ≡ has_end rows n) → (is_named names rdf_type ≡ true) × (place_of names rdf_type ≡ kind) → IsLookup triples names sorted known kind
lookup_is graph rows triples more names sorted known kind g grown distinct order ends is_kind =
    let before = graph_named graph rows triples g in
    let named : AreNamed names triples = subst (λ l. AreNamed l triples) (sym grown) (named_more graph more triples before) in
    let same : rows ≡ map (row_of names) triples = g.rows_are ∙ sym (rows_stay graph more triples before) ∙ ap (λ l. map (row_of l) triples) (sym grown) in
    record {
      distinct = distinct;
      has = λ s p o hs hp ho. row_order rows sorted order s p o ∙ ap (λ l. has_row l s p o) same ∙ rows_same names distinct s p o hs hp ho triples named;
      knows = λ n h. ends n ∙ ap (λ l. has_end l n) same ∙ ends_same names distinct n h triples named;
      kind_is = is_kind;
    }
