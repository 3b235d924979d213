-- One report of the same triples and keys: it asks only of names whether they are the same.
use Rattle.std.proofs.Common.{List, [], ◌∷◌, ◌++◌, ℕ, ◌+◌, zero, suc, Bool, true, false, cond, IsTrue, All, length, ◌≡◌, ◌<◌, ◌≤◌, ◌↔◌, refl, sym, ap, ◌∙◌, subst, arith, ⊎_elim}
use Rattle.std.specs.List.{filter, flat_map, range_with_len}
use Rattle.std.proofs.lemmas.Bool.{cases_Bool}
use Rattle.std.proofs.lemmas.List.{length-map}
use Rattle.std.proofs.lemmas.List.Elements.{All-nil, All-cons, All-head, All-tail}
use Rattle.gk_base.specs.declared.term.Triple.{Triple}
use Rattle.chase_laws.specs.Chase.{AreSame}
use Rattle.chase_laws.specs.Report.{not_above, placed, by_text, ordered, class_line, report_text}
use Rattle.term_text.specs.CanonicalText.{term_text, texts_of}
use Rattle.key_file.specs.KeyShape.{KeyShape}
use Rattle.key_file.specs.Compile.{patterns_of}
use Rattle.key_file.specs.Numbered.{names_for, graph_of}
use Rattle.gkey_cmd.specs.Match.{IsReport}

-- ---- all that is asked about is a name

placed_below : (texts : List (List ℕ)) (count n : ℕ) (ms : List ℕ) → n < count → All (λ m. m < count) ms → All (λ m. m < count) (placed texts n ms)
placed_below texts count n [] l h = All-cons (λ m. m < count) n [] l h
placed_below texts count n (m ∷ ms) l h =
    let P = λ (k : ℕ). k < count in
    ⊎_elim
    (λ e. subst (λ b. All P (cond b (n ∷ m ∷ ms) (m ∷ placed texts n ms))) (sym e) (All-cons P n (m ∷ ms) l h))
    (λ e. subst (λ b. All P (cond b (n ∷ m ∷ ms) (m ∷ placed texts n ms))) (sym e)
    (All-cons P m (placed texts n ms) (All-head P m ms h) (placed_below texts count n ms l (All-tail P m ms h))))
    (cases_Bool (not_above texts n m))

by_text_below : (texts : List (List ℕ)) (count : ℕ) (ns : List ℕ) → All (λ m. m < count) ns → All (λ m. m < count) (by_text texts ns)
by_text_below texts count [] h = h
by_text_below texts count (n ∷ ns) h =
    let P = λ (k : ℕ). k < count in
    placed_below texts count n (by_text texts ns) (All-head P n ns h) (by_text_below texts count ns (All-tail P n ns h))

range_below : (count start n : ℕ) → start + n ≤ count → All (λ m. m < count) (range_with_len start n)
range_below count start zero h = All-nil (λ m. m < count)
range_below count start (suc n) h = All-cons (λ m. m < count) start (range_with_len (start + 1) n) (omega (arith, h)) (range_below count (start + 1) n (omega (arith, h)))

ordered_below : (texts : List (List ℕ)) → All (λ m. m < length texts) (ordered texts)
ordered_below texts = by_text_below texts (length texts) (range_with_len 0 (length texts)) (range_below (length texts) 0 (length texts) (omega arith))

-- ---- what agrees on these gives the same

filter_same : {X : Type 0} (P : X → Type 0) (p q : X → Bool) → ((x : X) → P x → p x ≡ q x) → (xs : List X) → All P xs → filter p xs ≡ filter q xs
filter_same P p q same [] h = refl
filter_same P p q same (x ∷ xs) h =
    let rest = filter_same P p q same xs (All-tail P x xs h) in
    let here = same x (All-head P x xs h) in
    λ i. cond (here i) (x ∷ rest i) (rest i)

flat_map_same : {X A : Type 0} (P : X → Type 0) (f g : X → List A) → ((x : X) → P x → f x ≡ g x) → (xs : List X) → All P xs → flat_map f xs ≡ flat_map g xs
flat_map_same P f g same [] h = refl
flat_map_same P f g same (x ∷ xs) h =
    let rest = flat_map_same P f g same xs (All-tail P x xs h) in
    let here = same x (All-head P x xs h) in
    λ i. here i ++ rest i

same_report : (texts : List (List ℕ)) (s t : ℕ → ℕ → Bool) → ((a b : ℕ) → a < length texts → b < length texts → s a b ≡ t a b) → report_text texts s ≡ report_text texts t
same_report texts s t agree =
    let P = λ (m : ℕ). m < length texts in
    let inside = ordered_below texts in
    flat_map_same P (λ n. class_line texts n (filter (s n) (ordered texts))) (λ n. class_line texts n (filter (t n) (ordered texts)))
    (λ n l. ap (class_line texts n) (filter_same P (s n) (t n) (λ m k. agree n m l k) (ordered texts) inside)) (ordered texts) inside

-- two tests of one thing agree
pub one_test : (P : Type 0) (s t : Bool) → IsTrue s ↔ P → IsTrue t ↔ P → s ≡ t
one_test P true true p q = refl
one_test P true false p q = sym (q.1 (p.0 refl))
one_test P false true p q = p.1 (q.0 refl)
one_test P false false p q = refl

-- as many texts as names
module _ (triples : List Triple) (keys : List KeyShape) (s t : ℕ → ℕ → Bool)
    (is_s : (a b : ℕ) → a < length (names_for triples keys) → b < length (names_for triples keys) →
    IsTrue (s a b) ↔ AreSame (graph_of (names_for triples keys) triples) (patterns_of (names_for triples keys) keys) a b)
    (is_t : (a b : ℕ) → a < length (names_for triples keys) → b < length (names_for triples keys) →
    IsTrue (t a b) ↔ AreSame (graph_of (names_for triples keys) triples) (patterns_of (names_for triples keys) keys) a b) where
  pub tests_agree : (a b : ℕ) → a < length (texts_of (names_for triples keys)) → b < length (texts_of (names_for triples keys)) → s a b ≡ t a b
  tests_agree a b la lb =
      let names = names_for triples keys in
      let many = length-map names term_text in
      let is_a : a < length names = subst (λ n. a < n) many la in
      let is_b : b < length names = subst (λ n. b < n) many lb in
      one_test (AreSame (graph_of names triples) (patterns_of names keys) a b) (s a b) (t a b) (is_s a b is_a is_b) (is_t a b is_a is_b)

pub one_report : (triples : List Triple) (keys : List KeyShape) (first second : List ℕ) → IsReport triples keys first → IsReport triples keys second → first ≡ second
one_report triples keys first second f g =
    f.2 ∙ same_report (texts_of (names_for triples keys)) f.0 g.0 (tests_agree triples keys f.0 g.0 f.1 g.1) ∙ sym g.2
