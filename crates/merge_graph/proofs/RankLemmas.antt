-- The names of the images, their texts and their ranks.
use Rattle.std.proofs.Common.{◌≡◌, ◌≢◌, ◌↔◌, ℕ, ◌+◌, ◌-◌, ◌<◌, ◌≤◌, Bool, true, false, cond, List, [], ◌∷◌, ◌++◌, map, length, take, drop, get_or, set, All, Contains, refl, sym, ap, ◌∙◌, subst, arith, length-append, get_or-set_same, get_or-set_other, ⊎_elim}
use Rattle.std.proofs.lemmas.Bool.{cases_eq, cases_lt, true≢false}
use Rattle.std.proofs.lemmas.List.Sorted.{All-permutation, Contains-permutation}
use Rattle.std.specs.List.Sorted.{IsPermutation}
use Rattle.std.proofs.lemmas.List.{length-map, get_or-map, get_or_default, get_or_append_left, get_or_past, get_or_push, drop_at, drop-append-le, take-append-le, take_all, length_push, length-drop}
use Rattle.std.proofs.lemmas.List.Elements.{All-contains, All-map, All-more, Contains-get_or, Contains-append_left, Contains-push, Contains-push_cases}
use Rattle.gk_base.specs.declared.term.Term.{Term}
use Rattle.gk_base.specs.declared.term.Term.TheVariants.{Plain}
use Rattle.chase_laws.specs.Report.{text_at}
use Rattle.term_text.specs.CanonicalText.{term_text, texts_of, triple_text}
use Rattle.merge_graph.specs.declared.name_texts.NameTexts.{NameTexts}
use Rattle.merge_graph.specs.MergedGraph.{name_at, IsWithin, image}
use Rattle.merge_graph.specs.Ranked.{IsJoinedOnce, IsMarked, HasMarks, KeepsTexts, ListsMarked, HasRank, kept_text, ranked_row, ranked_line, line_of_texts}
use Rattle.merge_graph.proofs.ListedLemmas.{map_map, map_agree}

-- ---- marks

pub mark_set : (marks : List Bool) (name n : ℕ) → name < length marks → IsMarked marks n → IsMarked (set marks name true) n
mark_set marks name n l m = ⊎_elim
    (λ e. subst (λ k. get_or (set marks name true) k false ≡ true) (sym e) (get_or-set_same marks name true false l))
    (λ ne. get_or-set_other marks name n true false ne ∙ m)
    (cases_eq n name)

-- marks that more names have
pub marks_kept : (old new : List Bool) (faces : List ℕ) (rows : List (List ℕ)) → ((n : ℕ) → IsMarked old n → IsMarked new n) → All (HasMarks old faces) rows → All (HasMarks new faces) rows
marks_kept old new faces rows kept a = λ k d l. let h = a k d l in record { subject = kept _ h.subject; predicate = kept _ h.predicate; object = kept _ h.object }

-- the names below k that are marked are listed
pub record ListsBelow (marks : List Bool) (k : ℕ) (listed : List ℕ) : Type 0 where
  pub only : (n : ℕ) → Contains listed n → n < k
  pub every : (n : ℕ) → n < k → IsMarked marks n → Contains listed n
  pub few : length listed ≤ k

pub lists_none : (marks : List Bool) → ListsBelow marks 0 []
lists_none marks = record { only = λ n c. absurd (omega (arith, c.1)); every = λ n l m. absurd (omega (arith, l)); few = omega arith }

below_or_last : (k n : ℕ) → n < k + 1 → n ≢ k → n < k
below_or_last k n l ne = omega (arith, l, ne)

-- one name further
pub lists_more : (marks : List Bool) (k : ℕ) (listed : List ℕ) (b : Bool) → get_or marks k false ≡ b → ListsBelow marks k listed → ListsBelow marks (k + 1) (cond b (listed ++ k ∷ []) listed)
lists_more marks k listed true is h = record {
  only = λ n c. ⊎_elim (λ old. omega (arith, h.only n old)) (λ e. omega (arith, e)) (Contains-push_cases listed k n c);
  every = λ n l m. ⊎_elim
      (λ e. subst (Contains (listed ++ k ∷ [])) (sym e) (Contains-push listed k))
      (λ ne. Contains-append_left listed (k ∷ []) n (h.every n (below_or_last k n l ne) m))
      (cases_eq n k);
  few = omega (arith, h.few, length_push listed k);
}
lists_more marks k listed false is h = record {
  only = λ n c. omega (arith, h.only n c);
  every = λ n l m. ⊎_elim
      (λ e. absurd (true≢false (sym m ∙ ap (λ v. get_or marks v false) e ∙ is)))
      (λ ne. h.every n (below_or_last k n l ne) m)
      (cases_eq n k);
  few = omega (arith, h.few);
}

-- ---- ranks

-- the name at this place of the order gets the place as its rank
pub rank_more : (order ranks : List ℕ) (i : ℕ) → i < length order → get_or order i 0 < length ranks → All (HasRank order ranks) (take i order) → All (HasRank order (set ranks (get_or order i 0) i)) (take (i + 1) order)
rank_more order ranks i inside fits a = All-more (HasRank order (set ranks (get_or order i 0) i)) order i 0 inside
    (λ k d l. kept (get_or (take i order) k d) (a k d l))
    (now (get_or order i 0) refl)
  where
    now : (n : ℕ) → n ≡ get_or order i 0 → HasRank order (set ranks (get_or order i 0) i) n
    now n e =
        let at : get_or (set ranks (get_or order i 0) i) n 0 ≡ i = ap (λ v. get_or (set ranks (get_or order i 0) i) v 0) e ∙ get_or-set_same ranks (get_or order i 0) i 0 fits in
        record { below = subst (λ v. v < length order) (sym at) inside; name = ap (λ v. get_or order v 0) at ∙ sym e }

    kept : (n : ℕ) → HasRank order ranks n → HasRank order (set ranks (get_or order i 0) i) n
    kept n h = ⊎_elim (λ e. now n e)
        (λ ne.
        let at : get_or (set ranks (get_or order i 0) i) n 0 ≡ get_or ranks n 0 = get_or-set_other ranks (get_or order i 0) n i 0 ne in
        record { below = subst (λ v. v < length order) (sym at) h.below; name = ap (λ v. get_or order v 0) at ∙ h.name })
        (cases_eq n (get_or order i 0))

-- ---- lines

-- what a function makes of each element
pub contains_made : {X Y : Type 0} (f : X → Y) (d : X) (e : Y) (xs ys : List X) → ((x : X) → Contains xs x → Contains ys x) → (y : Y) → Contains (map f xs) y → Contains (map f ys) y
contains_made f d e xs ys more y c =
    let k = c.0 in
    let inside : k < length xs = subst (λ n. k < n) (length-map xs f) c.1 in
    let there = more (get_or xs k d) (Contains-get_or xs k d inside) in
    let made : f (get_or xs k d) ≡ y = sym (get_or-map f xs k d y inside) ∙ c.2 in
    let low : there.0 < length (map f ys) = subst (λ n. there.0 < n) (sym (length-map ys f)) there.1 in
    (there.0, low, get_or-map f ys there.0 (get_or xs k d) y there.1 ∙ ap f (get_or_default ys there.0 (get_or xs k d) (get_or xs k d) there.1 ∙ there.2) ∙ made)

text_is : (names : List Term) (n : ℕ) → n < length names → text_at (texts_of names) n ≡ term_text (name_at names n)
text_is names n l = get_or-map term_text names n (Plain []) [] l

module _ (names : List Term) (faces ranks order : List ℕ) (marks : List Bool) (texts : NameTexts) where
  -- the text by the rank of a marked name
  by_rank : (n : ℕ) → n < length names → KeepsTexts (texts_of names) marks texts → ((n : ℕ) → IsMarked marks n → HasRank order ranks n) → IsMarked marks n
      → kept_text texts (get_or order (get_or ranks n 0) 0) ≡ term_text (name_at names n)
  by_rank n l keeps ranked m = ap (kept_text texts) (ranked n m).name ∙ keeps.each n (subst (λ v. n < v) (sym (length-map names term_text)) l) m ∙ text_is names n l

  -- the line by ranks is that of the image
  pub lines_by_ranks : (rows : List (List ℕ)) → length faces ≡ length names → All (λ face. face < length names) faces → All (IsWithin (length names)) rows → All (HasMarks marks faces) rows
      → KeepsTexts (texts_of names) marks texts → ((n : ℕ) → IsMarked marks n → HasRank order ranks n)
      → map (ranked_line texts order) (map (ranked_row ranks faces) rows) ≡ map (λ row. triple_text (image names faces row)) rows
  lines_by_ranks rows one_each low within marked keeps ranked =
      sym (map_map (ranked_line texts order) (ranked_row ranks faces) rows)
      ∙ map_agree (λ row. ranked_line texts order (ranked_row ranks faces row)) (λ row. triple_text (image names faces row)) rows
      (λ k d l.
      let w = within k d l in
      let m = marked k d l in
      let s = by_rank (get_or faces (get_or (get_or rows k d) 0 0) 0) (low (get_or (get_or rows k d) 0 0) 0 (subst (λ v. get_or (get_or rows k d) 0 0 < v) (sym one_each) w.subject)) keeps ranked m.subject in
      let p = by_rank (get_or (get_or rows k d) 1 0) w.predicate keeps ranked m.predicate in
      let o = by_rank (get_or faces (get_or (get_or rows k d) 2 0) 0) (low (get_or (get_or rows k d) 2 0) 0 (subst (λ v. get_or (get_or rows k d) 2 0 < v) (sym one_each) w.object)) keeps ranked m.object in
      λ i. line_of_texts (s i) (p i) (o i))

-- the same lines, as often as they stand there
pub joined_same : (all alls : List (List ℕ)) (text : List ℕ) → ((line : List ℕ) → Contains all line ↔ Contains alls line) → IsJoinedOnce all text → IsJoinedOnce alls text
joined_same all alls text same j = record {
  lines = j.lines;
  ascends = j.ascends;
  same = λ line. ((λ c. (same line).0 ((j.same line).0 c)), (λ c. (j.same line).1 ((same line).1 c)));
  whole = j.whole;
}

-- the ranks of the images are within the order
pub ranked_within : (faces ranks order : List ℕ) (marks : List Bool) (rows : List (List ℕ)) → All (HasMarks marks faces) rows → ((n : ℕ) → IsMarked marks n → HasRank order ranks n) → All (IsWithin (length order)) (map (ranked_row ranks faces) rows)
ranked_within faces ranks order marks rows marked ranked = All-map (IsWithin (length order)) (ranked_row ranks faces) rows
    (λ k d l. let m = marked k d l in record { subject = (ranked _ m.subject).below; predicate = (ranked _ m.predicate).below; object = (ranked _ m.object).below })

-- the text of the lines by ranks is that of the images
pub joined_by_ranks : (names : List Term) (faces ranks order : List ℕ) (marks : List Bool) (texts : NameTexts) (rows ranked sorted : List (List ℕ)) (text : List ℕ) → length faces ≡ length names
    → All (λ face. face < length names) faces → All (IsWithin (length names)) rows → All (HasMarks marks faces) rows → KeepsTexts (texts_of names) marks texts → ((n : ℕ) → IsMarked marks n → HasRank order ranks n)
    → ranked ≡ map (ranked_row ranks faces) rows → ((row : List ℕ) → Contains sorted row ↔ Contains ranked row) → IsJoinedOnce (map (ranked_line texts order) sorted) text
    → IsJoinedOnce (map (λ row. triple_text (image names faces row)) rows) text
joined_by_ranks names faces ranks order marks texts rows ranked sorted text one_each low within marked keeps has is same j =
    let f = ranked_line texts order in
    let are : map f ranked ≡ map (λ row. triple_text (image names faces row)) rows = ap (map f) is ∙ lines_by_ranks names faces ranks order marks texts rows one_each low within marked keeps has in
    joined_same (map f sorted) (map (λ row. triple_text (image names faces row)) rows) text
    (λ line. subst (λ (ls : List (List ℕ)). Contains (map f sorted) line ↔ Contains ls line) are
    ((contains_made f [] [] sorted ranked (λ r. (same r).0) line), (contains_made f [] [] ranked sorted (λ r. (same r).1) line))) j

-- a marked name has a rank
pub has_ranks : (marks : List Bool) (listed order ranks : List ℕ) → ListsMarked marks listed → IsPermutation listed order → All (HasRank order ranks) order → (n : ℕ) → IsMarked marks n → HasRank order ranks n
has_ranks marks listed order ranks lists moved a n m = All-contains (HasRank order ranks) order n a (Contains-permutation listed order n moved (lists.every n below m))
  where
    below : n < length marks
    below = ⊎_elim (λ l. l) (λ past. absurd (true≢false (sym m ∙ get_or_past marks n false past))) (cases_lt n (length marks))

-- names that are listed are below the number of marks, in any order
pub order_within : (marks : List Bool) (listed order : List ℕ) (count : ℕ) → length marks ≡ count → ListsMarked marks listed → IsPermutation listed order → All (λ name. name < count) order
order_within marks listed order count long lists moved = All-permutation (λ name. name < count) listed order moved (λ k d l. subst (λ v. get_or listed k d < v) long (lists.only (get_or listed k d) (Contains-get_or listed k d l)))

-- ---- texts

-- where the texts of the names below k stand
pub record HoldsTexts (names : List (List ℕ)) (marks : List Bool) (k : ℕ) (bytes starts : List ℕ) : Type 0 where
  pub long : length starts ≡ k + 1
  pub last : get_or starts k 0 ≡ length bytes
  pub low : (n : ℕ) → n < k → get_or starts (n + 1) 0 ≤ length bytes
  pub ordered : (n : ℕ) → n < k → get_or starts n 0 ≤ get_or starts (n + 1) 0
  pub each : (n : ℕ) → n < k → IsMarked marks n → take (get_or starts (n + 1) 0 - get_or starts n 0) (drop (get_or starts n 0) bytes) ≡ text_at names n

-- a part of bytes stays where more come behind it
part_kept : (bytes more : List ℕ) (from to : ℕ) → from ≤ to → to ≤ length bytes → take (to - from) (drop from (bytes ++ more)) ≡ take (to - from) (drop from bytes)
part_kept bytes more from to le l =
    ap (take (to - from)) (drop-append-le from bytes more (omega (arith, le, l))) ∙ take-append-le (to - from) (drop from bytes) more (omega (arith, length-drop from bytes, le, l))

part_new : (bytes more : List ℕ) → take (length (bytes ++ more) - length bytes) (drop (length bytes) (bytes ++ more)) ≡ more
part_new bytes more = ap (take (length (bytes ++ more) - length bytes)) (drop_at bytes more (length bytes) refl) ∙ take_all (length (bytes ++ more) - length bytes) more (omega (arith, length-append bytes more))

pub texts_none : (names : List (List ℕ)) (marks : List Bool) → HoldsTexts names marks 0 [] (0 ∷ [])
texts_none names marks = record {
  long = omega arith;
  last = refl;
  low = λ n l. absurd (omega (arith, l));
  ordered = λ n l. absurd (omega (arith, l));
  each = λ n l m. absurd (omega (arith, l));
}

module _ (names : List (List ℕ)) (marks : List Bool) (k : ℕ) (bytes starts : List ℕ) (h : HoldsTexts names marks k bytes starts) (more : List ℕ) where
  -- the starts once one more is there
  after : List ℕ
  after = starts ++ length (bytes ++ more) ∷ []

  old : (n : ℕ) → n ≤ k → get_or after n 0 ≡ get_or starts n 0
  unfolding after
  old n l = get_or_append_left starts (length (bytes ++ more) ∷ []) 0 n (omega (arith, l, h.long))

  new : get_or after (k + 1) 0 ≡ length (bytes ++ more)
  unfolding after
  new = get_or_push starts (length (bytes ++ more)) 0 (k + 1) h.long

  cut : ℕ → List ℕ → List ℕ
  cut n all = take (get_or after (n + 1) 0 - get_or after n 0) (drop (get_or after n 0) all)

  each_old : (n : ℕ) → n < k → IsMarked marks n → cut n (bytes ++ more) ≡ text_at names n
  unfolding cut
  each_old n l m =
      (λ i. take (old (n + 1) (omega (arith, l)) i - old n (omega (arith, l)) i) (drop (old n (omega (arith, l)) i) (bytes ++ more)))
      ∙ part_kept bytes more (get_or starts n 0) (get_or starts (n + 1) 0) (h.ordered n l) (h.low n l) ∙ h.each n l m

  each_new : (n : ℕ) → n ≡ k → more ≡ text_at names n → cut n (bytes ++ more) ≡ text_at names n
  unfolding cut
  each_new n e is =
      let low : get_or after n 0 ≡ length bytes = ap (λ v. get_or after v 0) e ∙ old k (omega arith) ∙ h.last in
      let high : get_or after (n + 1) 0 ≡ length (bytes ++ more) = ap (λ v. get_or after (v + 1) 0) e ∙ new in
      (λ i. take (high i - low i) (drop (low i) (bytes ++ more))) ∙ part_new bytes more ∙ is

  pub texts_more : (IsMarked marks k → more ≡ text_at names k) → HoldsTexts names marks (k + 1) (bytes ++ more) (starts ++ length (bytes ++ more) ∷ [])
  unfolding after cut
  texts_more is = record {
    long = omega (arith, length_push starts (length (bytes ++ more)), h.long);
    last = new;
    low = λ n l. ⊎_elim
        (λ e. omega (arith, ap (λ v. get_or after (v + 1) 0) e, new))
        (λ ne. let b = below_or_last k n l ne in omega (arith, old (n + 1) (omega (arith, b)), h.low n b, length-append bytes more))
        (cases_eq n k);
    ordered = λ n l. ⊎_elim
        (λ e. omega (arith, ap (λ v. get_or after (v + 1) 0) e, new, ap (λ v. get_or after v 0) e, old k (omega arith), h.last, length-append bytes more))
        (λ ne. let b = below_or_last k n l ne in omega (arith, old (n + 1) (omega (arith, b)), old n (omega (arith, b)), h.ordered n b))
        (cases_eq n k);
    each = λ n l m. ⊎_elim
        (λ e. each_new n e (is (subst (λ v. get_or marks v false ≡ true) e m) ∙ ap (text_at names) (sym e)))
        (λ ne. each_old n (below_or_last k n l ne) m)
        (cases_eq n k);
  }

pub texts_all : (names : List (List ℕ)) (marks : List Bool) (k : ℕ) (texts : NameTexts) → length names ≤ k → HoldsTexts names marks k texts.bytes.items texts.starts.items → KeepsTexts names marks texts
texts_all names marks k texts le h = record { each = λ n l m. h.each n (omega (arith, le, l)) m }

-- one name further, with what was put there
pub texts_step : (names : List (List ℕ)) (marks : List Bool) (k : ℕ) (bytes starts more put begun : List ℕ) (long : ℕ) → HoldsTexts names marks k bytes starts
    → put ≡ bytes ++ more → begun ≡ starts ++ long ∷ [] → long ≡ length put → (IsMarked marks k → more ≡ text_at names k) → HoldsTexts names marks (k + 1) put begun
texts_step names marks k bytes starts more put begun long h p b l is =
    let now : begun ≡ starts ++ length (bytes ++ more) ∷ [] = b ∙ ap (λ n. starts ++ n ∷ []) (l ∙ ap length p) in
    subst (λ (all : List ℕ). HoldsTexts names marks (k + 1) all begun) (sym p) (subst (HoldsTexts names marks (k + 1) (bytes ++ more)) (sym now) (texts_more names marks k bytes starts h more is))
