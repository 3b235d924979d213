-- A list has one stable sort: two lists that ascend, and whose tied elements stand in the same order, are equal.
use Rattle.std.proofs.Common.{◌≡◌, ℕ, ◌<◌, ◌≤◌, Bool, true, false, cond, not, ◌&&◌, List, [], ◌∷◌, length, get_or, drop, suc, map, refl, sym, ap, ◌∙◌, arith, ⊎_elim}
use Rattle.std.proofs.lemmas.Bool.{cases_Bool, and_parts, not-true}
use Rattle.std.specs.List.{filter}
use Rattle.std.specs.List.Sorted.{IsSortedBy, ties}
use Rattle.std.specs.Cmp.{IsStrictWeakOrder}
use Rattle.std.proofs.lemmas.List.Sorted.{sorted_far}

-- no element of the list is below x
abbrev pub NoneBelow : {X : Type 0} → (X → X → Bool) → X → List X → Type 0
NoneBelow lt x [] = Unit {0}
NoneBelow lt x (y ∷ ys) = (lt y x ≡ false) × NoneBelow lt x ys

-- no element is below one before it
abbrev pub Ascends : {X : Type 0} → (X → X → Bool) → List X → Type 0
Ascends lt [] = Unit {0}
Ascends lt (x ∷ xs) = NoneBelow lt x xs × Ascends lt xs

none_below_from : {X : Type 0} (lt : X → X → Bool) (x : X) (xs : List X) → ((j : ℕ) (d : X) → j < length xs → lt (get_or xs j d) x ≡ false) → NoneBelow lt x xs
none_below_from lt x [] h = tt
none_below_from lt x (y ∷ ys) h = (h 0 y (omega arith), none_below_from lt x ys (λ j d l. h (suc j) d (omega arith)))

ascends_from : {X : Type 0} (lt : X → X → Bool) (xs : List X) → ((i j : ℕ) (d : X) → i ≤ j → j < length xs → lt (get_or xs j d) (get_or xs i d) ≡ false) → Ascends lt xs
ascends_from lt [] h = tt
ascends_from lt (x ∷ xs) h =
    (none_below_from lt x xs (λ j d l. h 0 (suc j) d (omega arith) (omega arith)), ascends_from lt xs (λ i j d le l. h (suc i) (suc j) d (omega arith) (omega arith)))

-- what a sort ensures
pub ascends_sorted : {X : Type 0} (lt : X → X → Bool) → IsStrictWeakOrder lt → (xs : List X) → IsSortedBy lt xs → Ascends lt xs
ascends_sorted lt o xs up = ascends_from lt xs (λ i j d le l. sorted_far lt o xs up i j d le l)

none_below-filter : {X : Type 0} (lt : X → X → Bool) (p : X → Bool) (x : X) (xs : List X) → NoneBelow lt x xs → NoneBelow lt x (filter p xs)
none_below-filter lt p x [] h = tt
none_below-filter lt p x (y ∷ ys) h =
    elim (p y) as (λ b. NoneBelow lt x (cond b (y ∷ filter p ys) (filter p ys))) [ true ↦ (h.0, none_below-filter lt p x ys h.1) | false ↦ none_below-filter lt p x ys h.1 ]

pub ascends-filter : {X : Type 0} (lt : X → X → Bool) (p : X → Bool) (xs : List X) → Ascends lt xs → Ascends lt (filter p xs)
ascends-filter lt p [] h = tt
ascends-filter lt p (x ∷ xs) h =
    elim (p x) as (λ b. Ascends lt (cond b (x ∷ filter p xs) (filter p xs))) [ true ↦ (none_below-filter lt p x xs h.0, ascends-filter lt p xs h.1) | false ↦ ascends-filter lt p xs h.1 ]

none_below-map : {X Y : Type 0} (lt : Y → Y → Bool) (f : X → Y) (x : X) (xs : List X) → NoneBelow (λ a b. lt (f a) (f b)) x xs → NoneBelow lt (f x) (map f xs)
none_below-map lt f x [] h = tt
none_below-map lt f x (y ∷ ys) h = (h.0, none_below-map lt f x ys h.1)

pub ascends-map : {X Y : Type 0} (lt : Y → Y → Bool) (f : X → Y) (xs : List X) → Ascends (λ a b. lt (f a) (f b)) xs → Ascends lt (map f xs)
ascends-map lt f [] h = tt
ascends-map lt f (x ∷ xs) h = (none_below-map lt f x xs h.0, ascends-map lt f xs h.1)

pub not_below_itself : {X : Type 0} (lt : X → X → Bool) → IsStrictWeakOrder lt → (x : X) → lt x x ≡ false
not_below_itself lt o x = ⊎_elim (λ e. o.one_way x x e) (λ e. e) (cases_Bool (lt x x))

pub ties_from : {X : Type 0} (lt : X → X → Bool) (x y : X) → lt x y ≡ false → lt y x ≡ false → ties lt x y ≡ true
ties_from lt x y p q = λ i. not (p i) && not (q i)

ties_itself : {X : Type 0} (lt : X → X → Bool) → IsStrictWeakOrder lt → (x : X) → ties lt x x ≡ true
ties_itself lt o x = ties_from lt x x (not_below_itself lt o x) (not_below_itself lt o x)

-- what ties x with two elements ties them
pub tied_below : {X : Type 0} (lt : X → X → Bool) → IsStrictWeakOrder lt → (x m n : X) → ties lt x m ≡ true → ties lt x n ≡ true → lt m n ≡ false
tied_below lt o x m n p q =
    let a = and_parts (not (lt x m)) (not (lt m x)) p in
    let b = and_parts (not (lt x n)) (not (lt n x)) q in
    o.chain m x n (not-true (lt m x) a.1) (not-true (lt x n) b.0)

filter_first : {X : Type 0} (p : X → Bool) (x : X) (xs : List X) → p x ≡ true → filter p (x ∷ xs) ≡ x ∷ filter p xs
filter_first p x xs e = ap (λ b. cond b (x ∷ filter p xs) (filter p xs)) e

not_nil : {X : Type 0} (x : X) (xs : List X) → x ∷ xs ≡ [] → ⊥
not_nil x xs e = cc

-- where z is least in a list that holds an element tied with y, y is not below z
low_tie : {X : Type 0} (lt : X → X → Bool) → IsStrictWeakOrder lt → (z y : X) (xs : List X) → NoneBelow lt z xs → (filter (ties lt y) xs ≡ [] → ⊥) → lt y z ≡ false
low_tie lt o z y [] n h = absurd (h refl)
low_tie lt o z y (w ∷ ws) n h =
    ⊎_elim
    (λ e. o.chain y w z (not-true (lt y w) ((and_parts (not (lt y w)) (not (lt w y)) e).0)) n.0)
    (λ e. low_tie lt o z y ws n.1 (λ g. h (ap (λ b. cond b (w ∷ filter (ties lt y) ws) (filter (ties lt y) ws)) e ∙ g)))
    (cases_Bool (ties lt y w))

tail_of : {X : Type 0} (b : Bool) (x : X) (xs ys : List X) → cond b (x ∷ xs) xs ≡ cond b (x ∷ ys) ys → xs ≡ ys
tail_of true x xs ys e = ap (drop 1) e
tail_of false x xs ys e = e

pub one_sort : {X : Type 0} (lt : X → X → Bool) → IsStrictWeakOrder lt → (xs ys : List X) → Ascends lt xs → Ascends lt ys → ((x : X) → filter (ties lt x) xs ≡ filter (ties lt x) ys) → xs ≡ ys
one_sort lt o [] [] a b h = refl
one_sort lt o [] (y ∷ ys) a b h = absurd (not_nil y _ (sym (h y ∙ filter_first (ties lt y) y ys (ties_itself lt o y))))
one_sort lt o (x ∷ xs) [] a b h = absurd (not_nil x _ (sym (filter_first (ties lt x) x xs (ties_itself lt o x)) ∙ h x))
one_sort {X = X} lt o (x ∷ xs) (y ∷ ys) a b h =
    let x_first : filter (ties lt x) (x ∷ xs) ≡ x ∷ filter (ties lt x) xs = filter_first (ties lt x) x xs (ties_itself lt o x) in
    let y_first : filter (ties lt y) (y ∷ ys) ≡ y ∷ filter (ties lt y) ys = filter_first (ties lt y) y ys (ties_itself lt o y) in
    let xy : lt x y ≡ false = low_tie lt o y x (y ∷ ys) (not_below_itself lt o y, b.0) (λ g. not_nil x (filter (ties lt x) xs) (sym x_first ∙ (h x ∙ g))) in
    let yx : lt y x ≡ false = low_tie lt o x y (x ∷ xs) (not_below_itself lt o x, a.0) (λ g. not_nil y (filter (ties lt y) ys) (sym y_first ∙ (sym (h y) ∙ g))) in
    let both : x ∷ filter (ties lt x) xs ≡ y ∷ filter (ties lt x) ys = sym x_first ∙ (h x ∙ filter_first (ties lt x) y ys (ties_from lt x y xy yx)) in
    let same : x ≡ y = ap (λ l. get_or l 0 x) both in
    let rest : (w : X) → filter (ties lt w) xs ≡ filter (ties lt w) ys =
    λ w. tail_of (ties lt w x) x (filter (ties lt w) xs) (filter (ties lt w) ys) (h w ∙ ap (λ v. cond (ties lt w v) (v ∷ filter (ties lt w) ys) (filter (ties lt w) ys)) (sym same)) in
    λ i. same i ∷ one_sort lt o xs ys a.1 b.1 rest i
