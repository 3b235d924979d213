-- The names in the order of their texts, as the definition of the report puts them.
use Rattle.std.proofs.Common.{◌≡◌, ℕ, suc, Bool, true, false, cond, not, List, [], ◌∷◌, length, refl, sym, ap, ◌∙◌, subst, ⊎_elim, Ordering, Less, Equal, Greater}
use Rattle.std.specs.Ordering.{nat_cmp, is_lt, is_le, ordering_reverse}
use Rattle.std.specs.Cmp.{IsStrictWeakOrder}
use Rattle.std.specs.Cmp.Lexicographic.{slice_cmp}
use Rattle.std.specs.List.{filter}
use Rattle.std.proofs.lemmas.Bool.{cases_Bool, true≢false}
use Rattle.std.proofs.lemmas.Cmp.{nat_list_cmp_total}
use Rattle.std.proofs.lemmas.List.Sorted.{ranks_by}
use Rattle.chase_laws.specs.Report.{text_at, not_above, placed, by_text}
use Rattle.term_text.proofs.Sorting.{NoneBelow, Ascends}

-- whether the text of one name is below that of another
abbrev pub below : List (List ℕ) → ℕ → ℕ → Bool
below texts m n = is_lt (slice_cmp nat_cmp (text_at texts m) (text_at texts n))

pub below_is_order : (texts : List (List ℕ)) → IsStrictWeakOrder (below texts)
below_is_order texts = ranks_by nat_list_cmp_total (text_at texts)

reversed : (o : Ordering) → is_le (ordering_reverse o) ≡ not (is_lt o)
reversed Less = refl
reversed Equal = refl
reversed Greater = refl

not_above_is : (texts : List (List ℕ)) (m n : ℕ) → not_above texts m n ≡ not (below texts n m)
not_above_is texts m n = ap is_le (nat_list_cmp_total.antisymm (text_at texts m) (text_at texts n)) ∙ reversed (slice_cmp nat_cmp (text_at texts n) (text_at texts m))

not_below_first : (texts : List (List ℕ)) (n m : ℕ) → not_above texts n m ≡ true → below texts m n ≡ false
not_below_first texts n m e = ⊎_elim (λ b. absurd (true≢false (sym e ∙ (not_above_is texts n m ∙ ap not b)))) (λ b. b) (cases_Bool (below texts m n))

below_first : (texts : List (List ℕ)) (n m : ℕ) → not_above texts n m ≡ false → below texts m n ≡ true
below_first texts n m e = ⊎_elim (λ b. b) (λ b. absurd (true≢false (sym (not_above_is texts n m ∙ ap not b) ∙ e))) (cases_Bool (below texts m n))

lower : (texts : List (List ℕ)) (n m : ℕ) (xs : List ℕ) → below texts m n ≡ false → NoneBelow (below texts) m xs → NoneBelow (below texts) n xs
lower texts n m [] e h = tt
lower texts n m (x ∷ xs) e h = ((below_is_order texts).chain x m n h.0 e, lower texts n m xs e h.1)

none_below-placed : (texts : List (List ℕ)) (m n : ℕ) (xs : List ℕ) → below texts n m ≡ false → NoneBelow (below texts) m xs → NoneBelow (below texts) m (placed texts n xs)
none_below-placed texts m n [] e h = (e, tt)
none_below-placed texts m n (x ∷ xs) e h =
    elim (not_above texts n x) as (λ b. NoneBelow (below texts) m (cond b (n ∷ x ∷ xs) (x ∷ placed texts n xs))) [ true ↦ (e, h) | false ↦ (h.0, none_below-placed texts m n xs e h.1) ]

ascends-placed : (texts : List (List ℕ)) (n : ℕ) (xs : List ℕ) → Ascends (below texts) xs → Ascends (below texts) (placed texts n xs)
ascends-placed texts n [] h = (tt, tt)
ascends-placed texts n (x ∷ xs) h =
    ⊎_elim
    (λ e. subst (λ b. Ascends (below texts) (cond b (n ∷ x ∷ xs) (x ∷ placed texts n xs))) (sym e) ((not_below_first texts n x e, lower texts n x xs (not_below_first texts n x e) h.0), h))
    (λ e. subst (λ b. Ascends (below texts) (cond b (n ∷ x ∷ xs) (x ∷ placed texts n xs))) (sym e) (none_below-placed texts x n xs ((below_is_order texts).one_way x n (below_first texts n x e)) h.0, ascends-placed texts n xs h.1))
    (cases_Bool (not_above texts n x))

pub ascends-by_text : (texts : List (List ℕ)) (ns : List ℕ) → Ascends (below texts) (by_text texts ns)
ascends-by_text texts [] = tt
ascends-by_text texts (n ∷ ns) = ascends-placed texts n (by_text texts ns) (ascends-by_text texts ns)

-- what a test picks of two elements, where it does not pass both
swapped : (a b : Bool) (m n : ℕ) (rest : List ℕ) → (a ≡ true → b ≡ true → ⊥) → cond a (m ∷ cond b (n ∷ rest) rest) (cond b (n ∷ rest) rest) ≡ cond b (n ∷ cond a (m ∷ rest) rest) (cond a (m ∷ rest) rest)
swapped true true m n rest h = absurd (h refl refl)
swapped true false m n rest h = refl
swapped false true m n rest h = refl
swapped false false m n rest h = refl

-- a test that passes only names of equal texts finds them in the order of their numbers
filter-placed : (texts : List (List ℕ)) (p : ℕ → Bool) → ((m n : ℕ) → p m ≡ true → p n ≡ true → below texts m n ≡ false) → (n : ℕ) (xs : List ℕ) → filter p (placed texts n xs) ≡ filter p (n ∷ xs)
filter-placed texts p tied n [] = refl
filter-placed texts p tied n (x ∷ xs) =
    ⊎_elim
    (λ e. ap (λ b. filter p (cond b (n ∷ x ∷ xs) (x ∷ placed texts n xs))) e)
    (λ e. ap (λ b. filter p (cond b (n ∷ x ∷ xs) (x ∷ placed texts n xs))) e
    ∙ (ap (λ l. cond (p x) (x ∷ l) l) (filter-placed texts p tied n xs)
    ∙ swapped (p x) (p n) x n (filter p xs) (λ a b. true≢false (sym (below_first texts n x e) ∙ tied x n a b))))
    (cases_Bool (not_above texts n x))

pub filter-by_text : (texts : List (List ℕ)) (p : ℕ → Bool) → ((m n : ℕ) → p m ≡ true → p n ≡ true → below texts m n ≡ false) → (ns : List ℕ) → filter p (by_text texts ns) ≡ filter p ns
filter-by_text texts p tied [] = refl
filter-by_text texts p tied (n ∷ ns) = filter-placed texts p tied n (by_text texts ns) ∙ ap (λ l. cond (p n) (n ∷ l) l) (filter-by_text texts p tied ns)

many_swapped : (a b : Bool) (m n : ℕ) (rest : List ℕ) → length (cond a (m ∷ cond b (n ∷ rest) rest) (cond b (n ∷ rest) rest)) ≡ length (cond b (n ∷ cond a (m ∷ rest) rest) (cond a (m ∷ rest) rest))
many_swapped true true m n rest = refl
many_swapped true false m n rest = refl
many_swapped false true m n rest = refl
many_swapped false false m n rest = refl

many_more : (b : Bool) (x : ℕ) (xs ys : List ℕ) → length xs ≡ length ys → length (cond b (x ∷ xs) xs) ≡ length (cond b (x ∷ ys) ys)
many_more true x xs ys e = ap suc e
many_more false x xs ys e = e

many-placed : (texts : List (List ℕ)) (p : ℕ → Bool) (n : ℕ) (xs : List ℕ) → length (filter p (placed texts n xs)) ≡ length (filter p (n ∷ xs))
many-placed texts p n [] = refl
many-placed texts p n (x ∷ xs) =
    ⊎_elim
    (λ e. ap (λ b. length (filter p (cond b (n ∷ x ∷ xs) (x ∷ placed texts n xs)))) e)
    (λ e. ap (λ b. length (filter p (cond b (n ∷ x ∷ xs) (x ∷ placed texts n xs)))) e
    ∙ (many_more (p x) x (filter p (placed texts n xs)) (filter p (n ∷ xs)) (many-placed texts p n xs)
    ∙ many_swapped (p x) (p n) x n (filter p xs)))
    (cases_Bool (not_above texts n x))

-- how many pass a test is the same in any order
pub many-by_text : (texts : List (List ℕ)) (p : ℕ → Bool) (ns : List ℕ) → length (filter p (by_text texts ns)) ≡ length (filter p ns)
many-by_text texts p [] = refl
many-by_text texts p (n ∷ ns) = many-placed texts p n (by_text texts ns) ∙ many_more (p n) n (filter p (by_text texts ns)) (filter p ns) (many-by_text texts p ns)
