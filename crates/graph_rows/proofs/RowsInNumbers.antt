-- Triples in numbers.
use Rattle.std.proofs.Common.{inl, inr, List, [], ◌∷◌, ◌++◌, ℕ, Contains, map, length, ◌↔◌, get_or, drop, ◌≡◌, ◌⊎◌, ◌<◌, ◌≤◌, ◌+◌, ◌-◌, ◌*◌, ◌^◌, refl, sym, ◌∙◌, ap, subst, arith}
use Rattle.std.proofs.lemmas.List.{map-append, drop_more, length-drop, length-map}
use Rattle.gk_base.specs.Term.{is_literal}
use Rattle.gk_base.specs.declared.term.Term.{Term}
use Rattle.gk_base.specs.declared.term.Triple.{Triple}
use Rattle.term_table.specs.Numbering.{place_of, with_terms, names_of}
use Rattle.term_table.proofs.CallerLemmas.{names_of-append}
use Rattle.chase_laws.specs.Shape.{Shape}
use Rattle.chase_laws.specs.Graph.{NumberedGraph}
use Rattle.chase_laws.specs.SameRows.{AreUnfolded}
use Rattle.term_table.specs.Folding.{folds_of}
use Rattle.key_file.specs.KeyShape.{KeyShape}
use Rattle.key_file.specs.Compile.{key_terms, patterns_of, shape_of}
use Rattle.term_list.specs.Triples.{terms_of}
use Rattle.term_list.proofs.CallerLemmas.{terms_of-append}
use Rattle.key_file.specs.Numbered.{row_of, names_for, type_number, graph_of}
use Rattle.key_file.proofs.CallerLemmas.{AreNamed, rows_stay, few_names, all_named}
use Rattle.graph_rows.specs.Rows.{StandFor}
use Rattle.graph_rows.specs.Threes.{in_threes}
use Rattle.graph_rows.specs.Numbered.{AreAlikeFor, AreSameGraph}
use Rattle.graph_rows.specs.declared.rows.Rows.{Rows}

-- ---- rows that stand for triples

-- the terms of the triples are names
pub named_of : (r : Rows) (ts : List Triple) → StandFor r ts → AreNamed r.names ts
named_of r ts s = subst (λ ns. AreNamed ns ts) (sym s.names) (all_named [] ts)

-- the numbers of triples' terms, in threes
pub in_threes-terms : (names : List Term) (ts : List Triple) → in_threes (map (place_of names) (terms_of ts)) ≡ map (row_of names) ts
in_threes-terms names [] = refl
in_threes-terms names (t ∷ ts) = ap (λ rows. row_of names t ∷ rows) (in_threes-terms names ts)

-- numbers from a place on, in threes: three more make one row more, and fewer than three none
pub in_threes-more : (numbers : List ℕ) (at : ℕ) (d e f : ℕ) → at + 3 ≤ length numbers →
    in_threes (drop at numbers) ≡ (get_or numbers at d ∷ get_or numbers (at + 1) e ∷ get_or numbers (at + 2) f ∷ []) ∷ in_threes (drop (at + 3) numbers)
in_threes-more numbers at d e f h =
    let s = drop_more numbers at d (omega arith) in
    let p = drop_more numbers (at + 1) e (omega arith) in
    let o = drop_more numbers (at + 2) f (omega arith) in
    let two : at + 1 + 1 ≡ at + 2 = omega arith in
    let three : at + 2 + 1 ≡ at + 3 = omega arith in
    ap in_threes
    (s ∙ ap (λ l. get_or numbers at d ∷ l) (p ∙ ap (λ l. get_or numbers (at + 1) e ∷ l) (ap (λ n. drop n numbers) two ∙ o ∙ ap (λ n. get_or numbers (at + 2) f ∷ drop n numbers) three)))

few : (l : List ℕ) → length l < 3 → in_threes l ≡ []
few [] h = refl
few (s ∷ []) h = refl
few (s ∷ p ∷ []) h = refl
few (s ∷ p ∷ o ∷ rest) h = absurd (omega arith)

pub in_threes-none : (numbers : List ℕ) (at : ℕ) → length numbers - at < 3 → in_threes (drop at numbers) ≡ []
in_threes-none numbers at h = few (drop at numbers) (let size = length-drop at numbers in omega arith)

-- more triples
pub stand_more : (old new : Rows) (done more : List Triple) → StandFor old done → new.names ≡ with_terms old.names (terms_of more) →
    new.rows.items ≡ old.rows.items ++ map (row_of new.names) more → StandFor new (done ++ more)
stand_more old new done more s m e = record {
  names = m ∙ ap (λ ns. with_terms ns (terms_of more)) s.names ∙ sym (names_of-append (terms_of done) (terms_of more)) ∙ ap names_of (sym (terms_of-append done more));
  rows =
      let same : map (row_of new.names) done ≡ old.rows.items =
      subst (λ ns. map (row_of ns) done ≡ map (row_of old.names) done) (sym m) (rows_stay old.names (terms_of more) done (named_of old done s)) ∙ sym s.rows in
      e ∙ ap (λ rs. rs ++ map (row_of new.names) more) (sym same) ∙ sym (map-append (row_of new.names) done more);
}

-- at most three names a triple
pub names_few : (r : Rows) (ts : List Triple) → StandFor r ts → length r.names ≤ 3 * length ts
names_few r ts s = subst (λ ns. length ns ≤ 3 * length ts) (sym s.names) (few_names ts)

-- ---- the graph in numbers

-- what names are alike to, in one graph and in the other
alike_there : (names : List Term) (K : List Shape) (own folds : List ℕ) → AreAlikeFor names K own → folds ≡ folds_of names → (own ≡ folds) ⊎ AreUnfolded K
alike_there names K own folds (inl e) f = inl (e ∙ sym f)
alike_there names K own folds (inr h) f = inr h

alike_back : (names : List Term) (K : List Shape) (own folds : List ℕ) → AreAlikeFor names K own → folds ≡ folds_of names → (folds ≡ own) ⊎ AreUnfolded K
alike_back names K own folds (inl e) f = inl (f ∙ sym e)
alike_back names K own folds (inr h) f = inr h

-- the names of the triples and then of the keys
pub names_numbered : (r : Rows) (ts : List Triple) (more : List Term) (keys : List KeyShape) → StandFor r ts → more ≡ with_terms r.names (key_terms keys) → more ≡ names_for ts keys
names_numbered r ts more keys s e = e ∙ ap (λ ns. with_terms ns (key_terms keys)) s.names ∙ sym (names_of-append (terms_of ts) (key_terms keys))

pub numbered : (r : Rows) (ts : List Triple) (more : List Term) (K : List Shape) (own : List ℕ) (G : NumberedGraph) (key : List Term) → StandFor r ts → more ≡ with_terms r.names key →
    ((row : List ℕ) → Contains G.rows row ↔ Contains r.rows.items row) → G.literal ≡ map is_literal more → G.rdf_type ≡ type_number more → G.alike ≡ own → AreAlikeFor more K own →
    AreSameGraph K G (graph_of more ts)
numbered r ts more K own G key s e built literal type alike folds =
    let named = named_of r ts s in
    let stay : r.rows.items ≡ map (row_of more) ts = s.rows ∙ sym (subst (λ ns. map (row_of ns) ts ≡ map (row_of r.names) ts) (sym e) (rows_stay r.names key ts named)) in
    let here : AreAlikeFor more K G.alike = subst (AreAlikeFor more K) (sym alike) folds in
    record {
      there = record { rows = λ row h. subst (λ rs. Contains rs row) stay ((built row).0 h); literal = literal; rdf_type = type; alike = alike_there more K G.alike (folds_of more) here refl };
      back = record { rows = λ row h. (built row).1 (subst (λ rs. Contains rs row) (sym stay) h); literal = sym literal; rdf_type = sym type; alike = alike_back more K G.alike (folds_of more) here refl };
    }

-- a graph with the same rows as another, in whatever order and however often, is the same as that one is
pub as_built : (K : List Shape) (G F T : NumberedGraph) → ((row : List ℕ) → Contains G.rows row ↔ Contains F.rows row) → G.literal ≡ F.literal → G.rdf_type ≡ F.rdf_type → G.alike ≡ F.alike →
    AreSameGraph K F T → AreSameGraph K G T
as_built K G F T rows literal type alike same = record {
  there = record {
    rows = λ row h. same.there.rows row ((rows row).0 h);
    literal = literal ∙ same.there.literal;
    rdf_type = type ∙ same.there.rdf_type;
    alike = subst (λ (numbers : List ℕ). (numbers ≡ T.alike) ⊎ AreUnfolded K) (sym alike) same.there.alike;
  };
  back = record {
    rows = λ row h. (rows row).1 (same.back.rows row h);
    literal = same.back.literal ∙ sym literal;
    rdf_type = same.back.rdf_type ∙ sym type;
    alike = subst (λ (numbers : List ℕ). (T.alike ≡ numbers) ⊎ AreUnfolded K) (sym alike) same.back.alike;
  };
}

-- a key file has few patterns
pub few_patterns : (names : List Term) (keys : List KeyShape) (K : List Shape) → K ≡ patterns_of names keys → length keys ≤ 64 → length K < 2 ^ 32
few_patterns names keys K e few = let a : length K ≡ length keys = ap length e ∙ length-map keys (shape_of names) in omega arith
