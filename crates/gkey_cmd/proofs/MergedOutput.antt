-- The merged graph of the rows that were built is that of the triples.
use Rattle.std.proofs.Common.{List, [], ◌∷◌, ℕ, Bool, true, false, IsTrue, All, Contains, length, map, get_or, slice_index_or, ◌↔◌, ◌==◌, ◌≡◌, ◌≢◌, ◌∙◌, ◌<◌, inl, inr, refl, sym, ap, subst, arith, eqb-true, eq-eqb}
use Rattle.std.proofs.lemmas.Bool.{cases_Bool, true≢false}
use Rattle.std.proofs.lemmas.List.{get_or-map, length-map}
use Rattle.std.proofs.lemmas.List.Elements.{All-nil, All-cons, All-head, All-tail, All-map, All-weaker, All-contains, Contains-get_or}
use Rattle.std.proofs.lemmas.Option.{get_or_from_slice_get}
use Rattle.gk_base.specs.Term.{is_literal}
use Rattle.gk_base.specs.declared.term.Term.{Term}
use Rattle.gk_base.specs.declared.term.Term.TheVariants.{Plain}
use Rattle.gk_base.specs.declared.term.Triple.{Triple}
use Rattle.chase_laws.specs.Graph.{NumberedGraph, IsEntity}
use Rattle.chase_laws.specs.Shape.{Shape, IsPattern}
use Rattle.chase_laws.specs.Chase.{AreSame}
use Rattle.match_run.specs.Classes.{AreClasses}
use Rattle.term_list.specs.Triples.{terms_of}
use Rattle.term_table.specs.Numbering.{is_named, place_of, with_terms, names_of}
use Rattle.term_table.proofs.CallerLemmas.{is_named-with_terms, names_of-append, slice_get-place_of}
use Rattle.key_file.specs.KeyShape.{KeyShape}
use Rattle.key_file.specs.Compile.{key_terms, patterns_of}
use Rattle.key_file.specs.Numbered.{names_for, graph_of, row_of}
use Rattle.key_file.proofs.CallerLemmas.{AreNamed, all_named}
use Rattle.term_text.specs.CanonicalText.{triple_text}
use Rattle.term_text.specs.ReadBack.{CanBeSpelled}
use Rattle.graph_rows.specs.Numbered.{AreSameGraph}
use Rattle.merge_graph.specs.MergedGraph.{name_at, same_label, IsWithin, triple_at, image, ListsOnce, lines_of, IsSortedText, IsMerged, AreApart}
use Rattle.merge_graph.specs.Saying.{is_iri, CanBeSaid, IsReadAs, IsReadAsMerged}
use Rattle.gkey_cmd.specs.ChaseEnds.{IsOfFile, IsMergedOfFiles}
use Rattle.gkey_cmd.proofs.Reports.{SameLaw, has_names, said, same_of}

-- what the law of entities says
abbrev pub EntityLaw : Type 0
EntityLaw = (G : NumberedGraph) (K : List Shape) → All IsPattern K → (a b : ℕ) → AreSame G K a b → a ≢ b → IsEntity G a × IsEntity G b

-- ---- rows of the same numbers

-- a row of three numbers below the count
row_within : (count : ℕ) (row : List ℕ) → length row ≡ 3 → All (λ n. n < count) row → IsWithin count row
row_within count row three below = record { subject = below 0 0 (omega arith); predicate = below 1 0 (omega arith); object = below 2 0 (omega arith) }

pub rows_within : (count : ℕ) (rows : List (List ℕ)) → All (λ row. length row ≡ 3) rows → All (λ row. All (λ n. n < count) row) rows → All (IsWithin count) rows
rows_within count rows three below = λ k d l. row_within count (get_or rows k d) (three k d l) (below k d l)

-- what one list has of the images of rows, another has too
image_there : (f : List ℕ → Triple) (rows others : List (List ℕ)) → ((row : List ℕ) → Contains rows row → Contains others row) → (t : Triple) → Contains (map f rows) t → Contains (map f others) t
image_there f rows others there t c =
    let k = c.0 in
    let inside : k < length rows = subst (λ n. k < n) (length-map rows f) c.1 in
    let row = get_or rows k [] in
    let other = there row (Contains-get_or rows k [] inside) in
    let is : f row ≡ t = sym (get_or-map f rows k [] t inside) ∙ c.2 in
    let image_is : get_or (map f others) other.0 (f row) ≡ f row = get_or-map f others other.0 row (f row) other.1 ∙ ap f other.2 in
    subst (Contains (map f others)) is (other.0, subst (λ n. other.0 < n) (sym (length-map others f)) other.1, image_is)

-- the images of the same rows, in whatever order and however often, are listed alike
listed_alike : (f : List ℕ → Triple) (rows others : List (List ℕ)) (listed : List Triple) → ((row : List ℕ) → Contains rows row ↔ Contains others row) → ListsOnce (map f rows) listed → ListsOnce (map f others) listed
listed_alike f rows others listed same once = record {
  ascends = once.ascends;
  only = All-weaker (Contains (map f rows)) (Contains (map f others)) (image_there f rows others (λ row. (same row).0)) listed once.only;
  every = λ k d l. All-contains (λ t. Contains (map triple_text listed) (triple_text t)) (map f rows) (get_or (map f others) k d) once.every
      (image_there f others rows (λ row. (same row).1) (get_or (map f others) k d) (Contains-get_or (map f others) k d l));
}

-- what is so of each of some rows is so of each row that is among them
all_there : (P : List ℕ → Type 0) (rows others : List (List ℕ)) → ((row : List ℕ) → Contains rows row → Contains others row) → All P others → All P rows
all_there P rows others there all = λ k d l. All-contains P others (get_or rows k d) all (there (get_or rows k d) (Contains-get_or rows k d l))

-- ---- triples by their names

-- the terms of the triple are names
record IsIn (names : List Term) (t : Triple) : Type 0 where
  subject : is_named names t.subject ≡ true
  predicate : is_named names t.predicate ≡ true
  object : is_named names t.object ≡ true

all_in : (names more : List Term) (ts : List Triple) → AreNamed names ts → All (IsIn (with_terms names more)) ts
all_in names more [] h = All-nil (IsIn (with_terms names more))
all_in names more (t ∷ ts) h = All-cons (IsIn (with_terms names more)) t ts (record {
  subject = is_named-with_terms names more t.subject h.0.subject;
  predicate = is_named-with_terms names more t.predicate h.0.predicate;
  object = is_named-with_terms names more t.object h.0.object;
}) (all_in names more ts h.1)

-- the name at a term's number is the term
name_again : (names : List Term) (t : Term) → is_named names t ≡ true → name_at names (place_of names t) ≡ t
name_again names t named = get_or_from_slice_get names (place_of names t) t (Plain []) (slice_get-place_of names t named)

-- the triples of the triples' rows are the triples
triples_again : (names : List Term) (ts : List Triple) → All (IsIn names) ts → map (triple_at names) (map (row_of names) ts) ≡ ts
triples_again names [] h = refl
triples_again names (t ∷ ts) h =
    let here = All-head (IsIn names) t ts h in
    let more = triples_again names ts (All-tail (IsIn names) t ts h) in
    let same : triple_at names (row_of names t) ≡ t = λ i. record {
      subject = name_again names t.subject here.subject i;
      predicate = name_again names t.predicate here.predicate i;
      object = name_again names t.object here.object i;
    } in
    λ i. same i ∷ more i

-- ---- the output, in numbers

record Output (F : NumberedGraph) (Q : List Shape) (ns : List Term) (triples : List Triple) (text : List ℕ) : Type 0 where
  same : ℕ → ℕ → Bool
  is_same : (a b : ℕ) → a < length ns → b < length ns → IsTrue (same a b) ↔ AreSame F Q a b
  listed : List Triple
  merged : IsMerged ns F.rows same listed
  whole : text ≡ lines_of listed
  reads : IsReadAs text listed
  unmerged : ((a b : ℕ) → a < length ns → b < length ns → IsTrue (same a b) → a ≡ b) → IsSortedText triples text

module _ (triples : List Triple) (keys : List KeyShape) (G : NumberedGraph) (names : List Term) (K : List Shape) (are_names : names ≡ names_for triples keys) (built : AreSameGraph K G (graph_of names triples)) (are_patterns : K ≡ patterns_of names keys) where
  rows_alike : (row : List ℕ) → Contains G.rows row ↔ Contains (map (row_of names) triples) row
  rows_alike row = (built.there.rows row, built.back.rows row)

  in_names : All (IsIn names) triples
  in_names = subst (λ ns. All (IsIn ns) triples) (sym (are_names ∙ names_of-append (terms_of triples) (key_terms keys))) (all_in (names_of (terms_of triples)) (key_terms keys) triples (all_named [] triples))

  -- the graph itself, sorted
  sorted : (text : List ℕ) → IsSortedText (map (triple_at names) G.rows) text → IsSortedText triples text
  sorted text s = record {
    listed = s.listed;
    once = subst (λ ts. ListsOnce ts s.listed) (triples_again names triples in_names)
        (listed_alike (triple_at names) G.rows (map (row_of names) triples) s.listed rows_alike s.once);
    whole = s.whole;
  }

  module _ (law : EntityLaw) (valid : All IsPattern K) (labels : List ℕ) (classes : AreClasses G K labels) where
    as_many : length labels ≡ length names
    as_many = classes.count ∙ has_names triples keys G names K are_names built are_patterns

    -- each literal is alone in its class
    literal_alone : (m n : ℕ) → m < length names → n < length names → same_label labels m n ≡ true → is_literal (name_at names n) ≡ true → m ≡ n
    literal_alone m n lm ln one_label literal = elim (cases_Bool (m == n)) [
      | inl same ↦ eqb-true m n same
      | inr differ ↦
          let count = as_many in
          let same : AreSame G K m n = (classes.same m n (omega arith) (omega arith)).0 (eqb-true (get_or labels m 0) (get_or labels n 0) one_label) in
          let entities = law G K valid m n same (λ e. true≢false (sym (eq-eqb m n e) ∙ differ)) in
          let flag : slice_index_or G.literal n false ≡ true = ap (λ (fs : List Bool). get_or fs n false) built.there.literal ∙ get_or-map is_literal names n (Plain []) false ln ∙ literal in
          absurd (entities.1.0 flag)
    ]

    can_be_said : All CanBeSpelled names → All IsOfFile triples → CanBeSaid names G.rows labels
    can_be_said spelled of_file = record {
      spelled = spelled;
      subjects = all_there (λ row. is_literal (name_at names (get_or row 0 0)) ≡ false) G.rows (map (row_of names) triples) built.there.rows
          (All-map (λ row. is_literal (name_at names (get_or row 0 0)) ≡ false) (row_of names) triples
          (λ k d l. ap is_literal (name_again names (get_or triples k d).subject (in_names k d l).subject) ∙ (of_file k d l).subject));
      predicates = all_there (λ row. is_iri (name_at names (get_or row 1 0)) ≡ true) G.rows (map (row_of names) triples) built.there.rows
          (All-map (λ row. is_iri (name_at names (get_or row 1 0)) ≡ true) (row_of names) triples
          (λ k d l. ap is_iri (name_again names (get_or triples k d).predicate (in_names k d l).predicate) ∙ (of_file k d l).predicate));
      literals = literal_alone;
    }

    pub merged_is : SameLaw → (text : List ℕ) → (AreApart labels → IsSortedText (map (triple_at names) G.rows) text) →
        (CanBeSaid names G.rows labels → IsReadAsMerged names G.rows (same_label labels) text) → IsMergedOfFiles triples keys text
    merged_is same_law text alone read spelled of_file =
        let r = read (can_be_said (subst (All CanBeSpelled) (sym are_names) spelled) of_file) in
        let here : Output (graph_of names triples) K names triples text = record {
          same = same_label labels;
          is_same = same_of triples keys G names K are_names built are_patterns same_law labels classes;
          listed = r.listed;
          merged = record {
            faces = r.merged.faces;
            are_faces = r.merged.are_faces;
            once = listed_alike (image names r.merged.faces) G.rows (map (row_of names) triples) r.listed rows_alike r.merged.once;
          };
          whole = r.whole;
          reads = r.reads;
          unmerged = λ apart. sorted text (alone (λ m n lm ln one. apart m n (subst (λ c. m < c) as_many lm) (subst (λ c. n < c) as_many ln) one));
        } in
        let o = said triples keys G names K are_names built are_patterns (λ F Q ns. Output F Q ns triples text) here in
        record {
          same = o.same;
          is_same = o.is_same;
          listed = o.listed;
          merged = o.merged;
          whole = o.whole;
          reads = o.reads;
          unmerged = o.unmerged;
        }
