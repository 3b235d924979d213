-- Sums over lists, places in lists, and beginnings of lists.
use Rattle.std.specs.Prelude.{◌≡◌, ℕ, zero, suc, ◌+◌, ◌<◌, ◌≤◌, List, [], ◌∷◌, ◌++◌}

-- f of each element, added up
abbrev pub total : {V : Type 0} → (V → ℕ) → List V → ℕ
total f [] = 0
total f (v ∷ vs) = f v + total f vs

-- 1 where the two are one number, and else 0
abbrev pub is_same : ℕ → ℕ → ℕ
is_same zero zero = 1
is_same zero (suc x) = 0
is_same (suc y) zero = 0
is_same (suc y) (suc x) = is_same y x

-- how often x stands in the list
abbrev pub occurrences : ℕ → List ℕ → ℕ
occurrences x [] = 0
occurrences x (y ∷ ys) = is_same y x + occurrences x ys

-- the k places from n on
abbrev pub places : ℕ → ℕ → List ℕ
places n zero = []
places n (suc k) = n ∷ places (suc n) k

-- the places ascend, and are at least lo and below hi
unfoldable pub Placed : ℕ → List ℕ → ℕ → Type 0
Placed lo [] hi = Unit {0}
Placed lo (x ∷ xs) hi = (lo ≤ x) × (x < hi) × Placed (suc x) xs hi

-- 1 where x is below n, and else 0
abbrev pub below : ℕ → ℕ → ℕ
below zero x = 0
below (suc n) zero = 1
below (suc n) (suc x) = below n x

abbrev pub StartsWith : {I : Type 0} → List I → List I → Type 0
StartsWith {I} xs ys = (more : List I) × (xs ≡ ys ++ more)
