-- Two lists with the same members: as long as each other where each member stands once, and one list where they ascend.
use Rattle.std.proofs.Common.{List, [], ◌∷◌, ℕ, zero, suc, AllPairs, Contains, length, get_or, ◌≡◌, ◌≢◌, ◌<◌, ◌≤◌, ◌↔◌, ◌⊎◌, inl, inr, Ordering, Less, Greater, refl, sym, ap, ◌∙◌, subst, arith, ⊎_elim}
use Rattle.std.specs.Cmp.{IsTotalOrder}
use Rattle.std.specs.List.{remove}
use Rattle.std.specs.List.Sorted.{IsPermutation, IsStrictlySortedBy}
use Rattle.std.specs.Ordering.{ordering_reverse}
use Rattle.std.proofs.lemmas.List.Elements.{All-contains}
use Rattle.std.proofs.lemmas.List.Sorted.{IsPermutation-remove, length_permutation, Contains-permutation}
use Rattle.std.proofs.lemmas.Map.Keys.{sorted_tail}
use Rattle.std.proofs.lemmas.Map.Views.{All-after_first}

-- ---- members

in_front : {X : Type 0} (x : X) (xs : List X) → Contains (x ∷ xs) x
in_front x xs = (0, omega arith, refl)

behind : {X : Type 0} (x y : X) (xs : List X) → Contains xs y → Contains (x ∷ xs) y
behind x y xs h = (suc h.0, omega (arith, h.1), h.2)

none_there : {X : Type 0} (y : X) → Contains [] y → ⊥
none_there y h = absurd (omega (arith, h.1))

first_or_later_at : {X : Type 0} (x y : X) (xs : List X) (k : ℕ) → k < length (x ∷ xs) → get_or (x ∷ xs) k y ≡ y → (x ≡ y) ⊎ Contains xs y
first_or_later_at x y xs zero l e = inl e
first_or_later_at x y xs (suc k) l e = inr (k, omega (arith, l), e)

first_or_later : {X : Type 0} (x y : X) (xs : List X) → Contains (x ∷ xs) y → (x ≡ y) ⊎ Contains xs y
first_or_later x y xs h = first_or_later_at x y xs h.0 h.1 h.2

-- ---- each member once

later_apart : {X : Type 0} (x : X) (xs : List X) → AllPairs (λ p q. p ≢ q) (x ∷ xs) → AllPairs (λ p q. p ≢ q) xs
later_apart x xs apart i j d below inside = apart (suc i) (suc j) d (omega (arith, below)) (omega (arith, inside))

first_apart : {X : Type 0} (x y : X) (xs : List X) → AllPairs (λ p q. p ≢ q) (x ∷ xs) → Contains xs y → x ≢ y
first_apart x y xs apart h e = apart 0 (suc h.0) y (omega arith) (omega (arith, h.1)) (e ∙ sym h.2)

no_longer : {X : Type 0} (xs ys : List X) → AllPairs (λ p q. p ≢ q) xs → ((x : X) → Contains xs x → Contains ys x) → length xs ≤ length ys
no_longer [] ys apart h = omega arith
no_longer (x ∷ xs) ys apart h =
    let here : Contains ys x = h x (in_front x xs) in
    let rest = remove ys here.0 in
    let moved : IsPermutation ys (x ∷ rest) = IsPermutation-remove ys here.0 x here.1 (sym here.2) in
    let fewer : length xs ≤ length rest = no_longer xs rest (later_apart x xs apart)
    (λ y m. ⊎_elim (λ e. absurd (first_apart x y xs apart m e)) (λ there. there) (first_or_later x y rest (Contains-permutation ys (x ∷ rest) y moved (h y (behind x y xs m))))) in
    omega (arith, fewer, length_permutation ys (x ∷ rest) moved)

pub as_many : {X : Type 0} (xs ys : List X) → AllPairs (λ p q. p ≢ q) xs → AllPairs (λ p q. p ≢ q) ys → ((x : X) → Contains xs x ↔ Contains ys x) → length xs ≡ length ys
as_many xs ys p q same = omega (arith, no_longer xs ys p (λ x. (same x).0), no_longer ys xs q (λ x. (same x).1))

-- what stands in an order that puts nothing before itself stands there once
pub apart : {X : Type 0} (R : X → X → Type 0) → ((x : X) → R x x → ⊥) → (xs : List X) → AllPairs R xs → AllPairs (λ p q. p ≢ q) xs
apart R never xs up i j d below inside e = never (get_or xs j d) (subst (λ x. R x (get_or xs j d)) e (up i j d below inside))

-- ---- members that ascend

below : {X : Type 0} (cmp : X → X → Ordering) (x y : X) (xs : List X) → IsStrictlySortedBy cmp (x ∷ xs) → Contains xs y → cmp x y ≡ Less
below cmp x y xs up h = All-contains (λ z. cmp x z ≡ Less) xs y (All-after_first cmp x xs up) h

not_both : {X : Type 0} (cmp : X → X → Ordering) → IsTotalOrder cmp → (x y : X) → cmp x y ≡ Less → cmp y x ≡ Less → ⊥
not_both cmp total x y p q = let turned : Less ≡ Greater = sym p ∙ total.antisymm x y ∙ ap ordering_reverse q in absurd cc

same_first : {X : Type 0} (cmp : X → X → Ordering) → IsTotalOrder cmp → (x y : X) (xs ys : List X) → IsStrictlySortedBy cmp (x ∷ xs) → IsStrictlySortedBy cmp (y ∷ ys) →
    Contains (y ∷ ys) x → Contains (x ∷ xs) y → x ≡ y
same_first cmp total x y xs ys p q x_there y_there =
    ⊎_elim (λ e. sym e)
    (λ x_later. ⊎_elim (λ e. e) (λ y_later. absurd (not_both cmp total x y (below cmp x y xs p y_later) (below cmp y x ys q x_later))) (first_or_later x y xs y_there))
    (first_or_later y x ys x_there)

still_later : {X : Type 0} (cmp : X → X → Ordering) → IsTotalOrder cmp → (x y z : X) (ys : List X) → x ≡ y → cmp x z ≡ Less → Contains (y ∷ ys) z → Contains ys z
still_later cmp total x y z ys e less h =
    ⊎_elim
    (λ same. let one : x ≡ z = e ∙ same in
    let self : cmp z z ≡ Less = subst (λ w. cmp w z ≡ Less) one less in
    absurd (not_both cmp total z z self self))
    (λ there. there) (first_or_later y z ys h)

pub one_list : {X : Type 0} (cmp : X → X → Ordering) → IsTotalOrder cmp → (xs ys : List X) → IsStrictlySortedBy cmp xs → IsStrictlySortedBy cmp ys →
    ((x : X) → Contains xs x ↔ Contains ys x) → xs ≡ ys
one_list cmp total [] [] p q same = refl
one_list cmp total [] (y ∷ ys) p q same = absurd (none_there y ((same y).1 (in_front y ys)))
one_list cmp total (x ∷ xs) [] p q same = absurd (none_there x ((same x).0 (in_front x xs)))
one_list cmp total (x ∷ xs) (y ∷ ys) p q same =
    let first : x ≡ y = same_first cmp total x y xs ys p q ((same x).0 (in_front x xs)) ((same y).1 (in_front y ys)) in
    let rest : xs ≡ ys = one_list cmp total xs ys (sorted_tail cmp x xs p) (sorted_tail cmp y ys q)
    (λ z. (
      (λ h. still_later cmp total x y z ys first (below cmp x z xs p h) ((same z).0 (behind x z xs h))),
      (λ h. still_later cmp total y x z xs (sym first) (below cmp y z ys q h) ((same z).1 (behind y z ys h))),
    )) in
    λ i. first i ∷ rest i
