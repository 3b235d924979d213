-- A word spells an entity of the triples where it spells the number of one, and the other way round.
use Rattle.std.proofs.Common.{List, [], ◌∷◌, ℕ, zero, suc, Bool, true, false, Some, map, slice_get, slice_index_or, slice_index, ◌≡◌, ◌⊎◌, ◌∙◌, inl, inr, refl, sym, ap, subst}
use Rattle.gk_base.specs.Term.{is_literal}
use Rattle.gk_base.specs.declared.term.Term.{Term}
use Rattle.gk_base.specs.declared.term.Triple.{Triple}
use Rattle.chase_laws.specs.Graph.{NumberedGraph, IsEntity}
use Rattle.chase_laws.specs.Shape.{Shape}
use Rattle.chase_laws.proofs.CallerLemmas.{slice_get-from_Contains, slice_get-map_from, Contains-from_slice_get}
use Rattle.term_list.specs.Triples.{terms_of}
use Rattle.term_table.specs.Numbering.{is_named, place_of, names_of}
use Rattle.term_table.proofs.CallerLemmas.{is_named-with_terms, names_of-append, slice_get-place_of}
use Rattle.key_file.specs.KeyShape.{KeyShape}
use Rattle.key_file.specs.Compile.{key_terms}
use Rattle.key_file.specs.Numbered.{names_for, graph_of, row_of}
use Rattle.key_file.proofs.CallerLemmas.{AreNamed, all_named}
use Rattle.graph_rows.specs.Numbered.{AreSameGraph}
use Rattle.gkey_cmd.specs.Entities.{IsEntityOf, SpellsEntity, NamesOne}
use Rattle.gkey_cmd.specs.Why.{SpellsNumber, SpellsNoNumber}

-- ---- names

-- the subject and the object are names
abbrev AreEndsNamed : List Term → Triple → Type 0
AreEndsNamed names t = (is_named names t.subject ≡ true) × (is_named names t.object ≡ true)

ends_named : (names : List Term) (ts : List Triple) (k : ℕ) (t : Triple) → AreNamed names ts → slice_get ts k ≡ Some t → AreEndsNamed names t
ends_named names [] k t h at = absurd cc
ends_named names (u ∷ us) zero t h at = let same : u ≡ t = cc in subst (AreEndsNamed names) same (h.0.subject, h.0.object)
ends_named names (u ∷ us) (suc k) t h at = ends_named names us k t h.1 at

-- those of the triples are names of the graph and its keys
named_for : (triples : List Triple) (keys : List KeyShape) (k : ℕ) (t : Triple) → slice_get triples k ≡ Some t → AreEndsNamed (names_for triples keys) t
named_for triples keys k t at =
    let first = ends_named (names_of (terms_of triples)) triples k t (all_named [] triples) at in
    let more = key_terms keys in
    subst (λ ns. AreEndsNamed ns t) (sym (names_of-append (terms_of triples) more))
    (is_named-with_terms (names_of (terms_of triples)) more t.subject first.0, is_named-with_terms (names_of (terms_of triples)) more t.object first.1)

-- the names at one place are the same
same_at : (names : List Term) (n m : ℕ) (t u : Term) → n ≡ m → slice_get names n ≡ Some t → slice_get names m ≡ Some u → t ≡ u
same_at names n m t u e a b = let found : Some t ≡ Some u = sym a ∙ ap (slice_get names) e ∙ b in cc

-- the flag of a name
flag_at : (names : List Term) (n : ℕ) (t : Term) → slice_get names n ≡ Some t → slice_index_or (map is_literal names) n false ≡ is_literal t
flag_at [] n t at = absurd cc
flag_at (u ∷ us) zero t at = let same : u ≡ t = cc in ap is_literal same
flag_at (u ∷ us) (suc n) t at = flag_at us n t at

is_false : (b : Bool) → (b ≡ true → ⊥) → b ≡ false
is_false true h = absurd (h refl)
is_false false h = refl

not_true : (b : Bool) → b ≡ false → b ≡ true → ⊥
not_true b e h = let k : true ≡ false = sym h ∙ e in cc

row_at : {X Y : Type 0} (f : X → Y) (xs : List X) (k : ℕ) (x : X) → slice_get xs k ≡ Some x → slice_get (map f xs) k ≡ Some (f x)
row_at f [] k x at = absurd cc
row_at f (y ∷ ys) zero x at = let same : y ≡ x = cc in ap (λ z. Some (f z)) same
row_at f (y ∷ ys) (suc k) x at = row_at f ys k x at

-- ---- entities

module _ (triples : List Triple) (keys : List KeyShape) (G : NumberedGraph) (names : List Term) (K : List Shape) (are_names : names ≡ names_for triples keys) (built : AreSameGraph K G (graph_of names triples)) where
  named : (k : ℕ) (t : Triple) → slice_get triples k ≡ Some t → AreEndsNamed names t
  named k t at = subst (λ ns. AreEndsNamed ns t) (sym are_names) (named_for triples keys k t at)

  flag_of : (n : ℕ) (t : Term) → slice_get names n ≡ Some t → slice_index_or G.literal n false ≡ is_literal t
  flag_of n t at = ap (λ (flags : List Bool). slice_index_or flags n false) built.there.literal ∙ flag_at names n t at

  -- the term of an entity's number is an entity
  entity_of : (n : ℕ) (term : Term) → slice_get names n ≡ Some term → IsEntity G n → IsEntityOf triples term
  entity_of n term at e =
      let row = built.there.rows (e.1.0 ∷ e.1.1 ∷ e.1.2 ∷ []) e.1.3 in
      let place = slice_get-from_Contains (map (row_of names) triples) (e.1.0 ∷ e.1.1 ∷ e.1.2 ∷ []) row in
      let from = slice_get-map_from (row_of names) triples place.0 (e.1.0 ∷ e.1.1 ∷ e.1.2 ∷ []) place.1 in
      let triple : Triple = from.0 in
      let ends = named place.0 triple from.1 in
      record {
        triple = triple;
        stands = Contains-from_slice_get triples place.0 triple from.1;
        end = elim e.1.4 [
          | inl is ↦ inl (same_at names n (place_of names triple.subject) term triple.subject (is ∙ sym (ap (λ (r : List ℕ). slice_index r 0) from.2)) at (slice_get-place_of names triple.subject ends.0))
          | inr is ↦ inr (same_at names n (place_of names triple.object) term triple.object (is ∙ sym (ap (λ (r : List ℕ). slice_index r 2) from.2)) at (slice_get-place_of names triple.object ends.1))
        ];
        no_literal = is_false (is_literal term) (λ h. e.0 (flag_of n term at ∙ h));
      }

  -- and an entity is a name
  entity_named : (term : Term) → IsEntityOf triples term → is_named names term ≡ true
  entity_named term e =
      let place = slice_get-from_Contains triples e.triple e.stands in
      let ends = named place.0 e.triple place.1 in
      elim e.end [
        | inl is ↦ subst (λ t. is_named names t ≡ true) (sym is) ends.0
        | inr is ↦ subst (λ t. is_named names t ≡ true) (sym is) ends.1
      ]

  -- whose number is one of an entity
  entity_number : (term : Term) → IsEntityOf triples term → IsEntity G (place_of names term)
  entity_number term e =
      let place = slice_get-from_Contains triples e.triple e.stands in
      let row = Contains-from_slice_get (map (row_of names) triples) place.0 (row_of names e.triple) (row_at (row_of names) triples place.0 e.triple place.1) in
      let at = slice_get-place_of names term (entity_named term e) in
      let ends : (place_of names term ≡ place_of names e.triple.subject) ⊎ (place_of names term ≡ place_of names e.triple.object) = elim e.end [
        | inl is ↦ inl (ap (place_of names) is)
        | inr is ↦ inr (ap (place_of names) is)
      ] in (
        (λ h. not_true (is_literal term) e.no_literal (sym (flag_of (place_of names term) term at) ∙ h)),
        (place_of names e.triple.subject, place_of names e.triple.predicate, place_of names e.triple.object, built.back.rows (row_of names e.triple) row, ends),
      )

  -- ---- words

  pub spells_entity : (word : List ℕ) (n : ℕ) (x : SpellsNumber G names word n) → SpellsEntity triples word x.term
  spells_entity word n x = record { spells = x.spells; entity = entity_of n x.term x.name x.entity }

  pub names_one : (word : List ℕ) (n : ℕ) → SpellsNumber G names word n → NamesOne triples word
  names_one word n x = (x.term, spells_entity word n x)

  pub names_none : (word : List ℕ) → SpellsNoNumber G names word → ¬ (NamesOne triples word)
  names_none word none x =
      let term = x.0 in
      none (place_of names term) (record {
        term = term;
        spells = x.1.spells;
        name = slice_get-place_of names term (entity_named term x.1.entity);
        entity = entity_number term x.1.entity;
      })
