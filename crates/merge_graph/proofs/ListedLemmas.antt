-- Triples by their lines.
use Rattle.std.proofs.Common.{◌≡◌, ◌↔◌, ℕ, ◌<◌, Bool, List, [], ◌∷◌, ◌++◌, map, length, get_or, All, Contains, refl, sym, ap, ◌∙◌, subst}
use Rattle.std.proofs.lemmas.List.{get_or-map, length-map}
use Rattle.std.proofs.lemmas.List.Elements.{All-cons, All-head, All-tail, All-nil, All-from_get_or, Contains-get_or}
use Rattle.std.specs.List.{flat_map}
use Rattle.std.specs.List.Sorted.{IsStrictlySortedBy}
use Rattle.std.specs.Ordering.{nat_cmp}
use Rattle.std.specs.Cmp.Lexicographic.{slice_cmp}
use Rattle.gk_base.specs.declared.term.Term.{Term}
use Rattle.gk_base.specs.declared.term.Term.TheVariants.{Plain}
use Rattle.gk_base.specs.declared.term.Triple.{Triple}
use Rattle.term_text.specs.CanonicalText.{triple_text}
use Rattle.merge_graph.specs.Ranked.{IsJoinedOnce}
use Rattle.merge_graph.specs.MergedGraph.{same_label, AreFaces, IsWithin, triple_at, image, ListsOnce, lines_of, AreApart}

pub map_map : {X Y Z : Type 0} (g : Y → Z) (f : X → Y) (xs : List X) → map (λ x. g (f x)) xs ≡ map g (map f xs)
map_map g f [] = refl
map_map g f (x ∷ xs) = ap (λ l. g (f x) ∷ l) (map_map g f xs)

flat_map-map : {X A : Type 0} (f : X → List A) (xs : List X) → flat_map (λ l. l) (map f xs) ≡ flat_map f xs
flat_map-map f [] = refl
flat_map-map f (x ∷ xs) = ap (λ l. f x ++ l) (flat_map-map f xs)

pub map_agree : {X Y : Type 0} (f g : X → Y) (xs : List X) → All (λ x. f x ≡ g x) xs → map f xs ≡ map g xs
map_agree f g [] a = refl
map_agree f g (x ∷ xs) a = λ i. All-head (λ x. f x ≡ g x) x xs a i ∷ map_agree f g xs (All-tail (λ x. f x ≡ g x) x xs a) i

-- elements of a list with these images
record Chosen {X Y : Type 0} (f : X → Y) (xs : List X) (ys : List Y) : Type 0 where
  chosen : List X
  images : map f chosen ≡ ys
  from : All (Contains xs) chosen

choose : {X Y : Type 0} (f : X → Y) (d : X) (xs : List X) (ys : List Y) → All (Contains (map f xs)) ys → Chosen f xs ys
choose f d xs [] a = record { chosen = []; images = refl; from = All-nil (Contains xs) }
choose {X} {Y} f d xs (y ∷ ys) a =
    let c : Contains (map f xs) y = All-head (Contains (map f xs)) y ys a in
    let k = c.0 in
    let inside : k < length xs = subst (λ n. k < n) (length-map xs f) c.1 in
    let more = choose f d xs ys (All-tail (Contains (map f xs)) y ys a) in
    let here : f (get_or xs k d) ≡ y = sym (get_or-map f xs k d y inside) ∙ c.2 in
    record {
      chosen = get_or xs k d ∷ more.chosen;
      images = λ i. here i ∷ more.images i;
      from = All-cons (Contains xs) (get_or xs k d) more.chosen (Contains-get_or xs k d inside) more.from;
    }

contains_image : {X Y : Type 0} (f : X → Y) (xs : List X) (e : Y) (k : ℕ) (d : X) → k < length xs → Contains (map f xs) (f (get_or xs k d))
contains_image f xs e k d l = subst (Contains (map f xs)) (get_or-map f xs k d e l) (Contains-get_or (map f xs) k e (subst (λ n. k < n) (sym (length-map xs f)) l))

no_triple : Triple
no_triple = record { subject = Plain []; predicate = Plain []; object = Plain [] }

-- the triples of lines that ascend
pub record Listed (triples : List Triple) (lines : List (List ℕ)) : Type 0 where
  pub listed : List Triple
  pub once : ListsOnce triples listed
  pub whole : flat_map (λ line. line) lines ≡ lines_of listed

pub listed_once : (triples : List Triple) (lines : List (List ℕ)) → IsStrictlySortedBy (slice_cmp nat_cmp) lines
    → ((line : List ℕ) → Contains lines line ↔ Contains (map triple_text triples) line) → Listed triples lines
listed_once triples lines up same =
    let c = choose triple_text no_triple triples lines (λ k d l. (same (get_or lines k d)).0 (Contains-get_or lines k d l)) in
    record {
      listed = c.chosen;
      once = record {
        ascends = subst (IsStrictlySortedBy (slice_cmp nat_cmp)) (sym c.images) up;
        only = c.from;
        every = λ k d l. subst (λ (ls : List (List ℕ)). Contains ls (triple_text (get_or triples k d))) (sym c.images)
            ((same (triple_text (get_or triples k d))).1 (contains_image triple_text triples [] k d l));
      };
      whole = ap (flat_map (λ line. line)) (sym c.images) ∙ flat_map-map triple_text c.chosen;
    }

-- faces are names
pub faces_within : (texts : List (List ℕ)) (same : ℕ → ℕ → Bool) (faces : List ℕ) (count : ℕ) → length texts ≡ count → AreFaces texts same faces → All (λ face. face < count) faces
faces_within texts same faces count long a = All-from_get_or (λ face. face < count) faces 0 (λ n l. subst (λ v. get_or faces n 0 < v) long (a.each n (subst (λ v. n < v) a.one_each l)).in_range)

-- where no two names have one label, each is its own face
pub own_images : (names : List Term) (texts : List (List ℕ)) (labels faces : List ℕ) (rows : List (List ℕ)) → length texts ≡ length names → length labels ≡ length names
    → AreFaces texts (same_label labels) faces → All (IsWithin (length names)) rows → AreApart labels → map (image names faces) rows ≡ map (triple_at names) rows
own_images names texts labels faces rows long one_each a within apart = map_agree (image names faces) (triple_at names) rows (λ k d l. let w = within k d l in image_own (get_or rows k d) w)
  where
    own : (n : ℕ) → n < length names → get_or faces n 0 ≡ n
    own n l =
        let face = a.each n (subst (λ v. n < v) (sym long) l) in
        sym (apart n (get_or faces n 0) (subst (λ v. n < v) (sym one_each) l) (subst (λ v. get_or faces n 0 < v) (long ∙ sym one_each) face.in_range) face.member)

    image_own : (row : List ℕ) → IsWithin (length names) row → image names faces row ≡ triple_at names row
    image_own row w = λ i. record {
      subject = get_or names (own (get_or row 0 0) w.subject i) (Plain []);
      predicate = get_or names (get_or row 1 0) (Plain []);
      object = get_or names (own (get_or row 2 0) w.object i) (Plain []);
    }

-- a text that lists the images of the rows
pub record Printed (names : List Term) (faces : List ℕ) (rows : List (List ℕ)) (text : List ℕ) : Type 0 where
  pub listed : List Triple
  pub once : ListsOnce (map (image names faces) rows) listed
  pub whole : text ≡ lines_of listed

pub printed : (names : List Term) (faces lent : List ℕ) (rows : List (List ℕ)) (text made : List ℕ) → lent ≡ faces → IsJoinedOnce (map (λ row. triple_text (image names lent row)) rows) made → text ≡ made → Printed names faces rows text
printed names faces lent rows text made same_faces j is =
    let are : map (λ row. triple_text (image names lent row)) rows ≡ map triple_text (map (image names faces) rows) =
    ap (λ fs. map (λ row. triple_text (image names fs row)) rows) same_faces ∙ map_map triple_text (image names faces) rows in
    let l = listed_once (map (image names faces) rows) j.lines j.ascends (λ line. subst (λ (ls : List (List ℕ)). Contains j.lines line ↔ Contains ls line) are (j.same line)) in
    record { listed = l.listed; once = l.once; whole = is ∙ j.whole ∙ l.whole }
