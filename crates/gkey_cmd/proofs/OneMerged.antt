-- One merged graph of the same triples and keys: faces of one name have one text, so the lines are the same, and they ascend.
use Rattle.std.proofs.Common.{List, [], ◌∷◌, ◌++◌, ℕ, Bool, true, Ordering, Less, Equal, Greater, All, Contains, length, map, get_or, slice_index, ◌≡◌, ◌<◌, refl, sym, ap, ◌∙◌, subst, arith, ⊎_elim}
use Rattle.std.specs.Cmp.Lexicographic.{slice_cmp, bytes_decides, texts_ties}
use Rattle.std.specs.List.{flat_map}
use Rattle.std.specs.Ordering.{nat_cmp, is_le, is_eq, ordering_reverse}
use Rattle.std.proofs.lemmas.Bool.{cases_lt, true≢false}
use Rattle.std.proofs.lemmas.Cmp.{nat_list_cmp_total}
use Rattle.std.proofs.lemmas.List.{get_or_past, get_or-map, length-map}
use Rattle.std.proofs.lemmas.List.Elements.{All-contains, All-map, All-weaker}
use Rattle.std.proofs.lemmas.List.Folds.{flat_map-map}
use Rattle.gk_base.specs.declared.term.Term.{Term}
use Rattle.gk_base.specs.declared.term.Term.TheVariants.{Plain}
use Rattle.gk_base.specs.declared.term.Triple.{Triple}
use Rattle.chase_laws.specs.Report.{text_at, not_above}
use Rattle.term_text.specs.CanonicalText.{term_text, triple_text, texts_of}
use Rattle.key_file.specs.KeyShape.{KeyShape}
use Rattle.key_file.specs.Numbered.{names_for, graph_of}
use Rattle.merge_graph.specs.MergedGraph.{name_at, AreFaces, image, ListsOnce, lines_of}
use Rattle.gkey_cmd.specs.Merge.{IsMergedOutput}
use Rattle.gkey_cmd.proofs.OneList.{one_list}
use Rattle.gkey_cmd.proofs.OneReport.{tests_agree}

-- ---- faces

tied : (o p : Ordering) → o ≡ ordering_reverse p → is_le o ≡ true → is_le p ≡ true → o ≡ Equal
tied Equal p e a b = refl
tied Greater p e a b = absurd (true≢false (sym a))
tied Less Less e a b = absurd cc
tied Less Equal e a b = absurd cc
tied Less Greater e a b = absurd (true≢false (sym b))

-- of two texts of which neither is above the other there is one
one_text : (texts : List (List ℕ)) (m n : ℕ) → not_above texts m n ≡ true → not_above texts n m ≡ true → text_at texts m ≡ text_at texts n
one_text texts m n p q =
    let x = text_at texts m in
    let y = text_at texts n in
    let e = tied (slice_cmp nat_cmp x y) (slice_cmp nat_cmp y x) (nat_list_cmp_total.antisymm x y) p q in
    (bytes_decides x y).0 (texts_ties x y ∙ ap is_eq e)

module _ (names : List Term) (s t : ℕ → ℕ → Bool) (agree : (a b : ℕ) → a < length (texts_of names) → b < length (texts_of names) → s a b ≡ t a b)
    (fs gs : List ℕ) (are_fs : AreFaces (texts_of names) s fs) (are_gs : AreFaces (texts_of names) t gs) where
  -- a name that is there has a face by each, and they are not above each other
  face_inside : (n : ℕ) → n < length (texts_of names) → term_text (name_at names (slice_index fs n)) ≡ term_text (name_at names (slice_index gs n))
  face_inside n l =
      let texts = texts_of names in
      let f = are_fs.each n l in
      let g = are_gs.each n l in
      let m = slice_index fs n in
      let k = slice_index gs n in
      let up = f.first k g.in_range (agree n k l g.in_range ∙ g.member) in
      let down = g.first m f.in_range (sym (agree n m l f.in_range) ∙ f.member) in
      let many = length-map names term_text in
      let m_text = get_or-map term_text names m (Plain []) [] (omega (arith, many, f.in_range)) in
      let k_text = get_or-map term_text names k (Plain []) [] (omega (arith, many, g.in_range)) in
      sym m_text ∙ one_text texts m k up down ∙ k_text

  one_face : (n : ℕ) → term_text (name_at names (slice_index fs n)) ≡ term_text (name_at names (slice_index gs n))
  one_face n =
      ⊎_elim (λ l. face_inside n l)
      (λ past. let same : slice_index fs n ≡ slice_index gs n = get_or_past fs n 0 (omega (arith, past, are_fs.one_each)) ∙ sym (get_or_past gs n 0 (omega (arith, past, are_gs.one_each))) in
      ap (λ m. term_text (name_at names m)) same)
      (cases_lt n (length (texts_of names)))

  one_line : (row : List ℕ) → triple_text (image names fs row) ≡ triple_text (image names gs row)
  one_line row =
      let subject = one_face (slice_index row 0) in
      let object = one_face (slice_index row 2) in
      let predicate = term_text (name_at names (slice_index row 1)) in
      λ i. subject i ++ 0x20 ∷ (predicate ++ 0x20 ∷ (object i ++ 0x20 ∷ 0x2E ∷ 0x0A ∷ []))

  pub one_image : (rows : List (List ℕ)) → map triple_text (map (image names fs) rows) ≡ map triple_text (map (image names gs) rows)
  one_image [] = refl
  one_image (row ∷ rows) = let line = one_line row in let rest = one_image rows in λ i. line i ∷ rest i

-- ---- lines

module _ (triples listed : List Triple) (once : ListsOnce triples listed) where
  pub line_of_triple : (line : List ℕ) → Contains (map triple_text listed) line → Contains (map triple_text triples) line
  line_of_triple line h =
      let lines = map triple_text triples in
      let stands : All (λ triple. Contains lines (triple_text triple)) triples = λ k d l. (k, omega (arith, length-map triples triple_text, l), get_or-map triple_text triples k d (triple_text (get_or triples k d)) l) in
      All-contains (Contains lines) (map triple_text listed) line
      (All-map (Contains lines) triple_text listed
      (All-weaker (Contains triples) (λ triple. Contains lines (triple_text triple)) (λ triple there. All-contains (λ x. Contains lines (triple_text x)) triples triple stands there) listed once.only)) h

  pub triple_of_line : (line : List ℕ) → Contains (map triple_text triples) line → Contains (map triple_text listed) line
  triple_of_line line h = All-contains (Contains (map triple_text listed)) (map triple_text triples) line (All-map (Contains (map triple_text listed)) triple_text triples once.every) h

one_text_of : (triples others listed relisted : List Triple) → map triple_text triples ≡ map triple_text others → ListsOnce triples listed → ListsOnce others relisted → lines_of listed ≡ lines_of relisted
one_text_of triples others listed relisted same f g =
    let there = λ (line : List ℕ) (lines : List (List ℕ)). Contains lines line in
    let lines : map triple_text listed ≡ map triple_text relisted = one_list (slice_cmp nat_cmp) nat_list_cmp_total (map triple_text listed) (map triple_text relisted) f.ascends g.ascends
    (λ line. (
      (λ h. triple_of_line others relisted g line (subst (there line) same (line_of_triple triples listed f line h))),
      (λ h. triple_of_line triples listed f line (subst (there line) (sym same) (line_of_triple others relisted g line h))),
    )) in
    sym (flat_map-map (λ (line : List ℕ). line) triple_text listed) ∙ ap (flat_map (λ (line : List ℕ). line)) lines ∙ flat_map-map (λ (line : List ℕ). line) triple_text relisted

pub one_merged : (triples : List Triple) (keys : List KeyShape) (first second : List ℕ) → IsMergedOutput triples keys first → IsMergedOutput triples keys second → first ≡ second
one_merged triples keys first second f g =
    let names = names_for triples keys in
    let rows = (graph_of names triples).rows in
    let same = one_image names f.same g.same (tests_agree triples keys f.same g.same f.is_same g.is_same) f.merged.faces g.merged.faces f.merged.are_faces g.merged.are_faces rows in
    f.whole ∙ one_text_of (map (image names f.merged.faces) rows) (map (image names g.merged.faces) rows) f.listed g.listed same f.merged.once g.merged.once ∙ sym g.whole
