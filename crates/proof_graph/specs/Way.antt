-- The way between two numbers along links: one of the links at most joins what was apart before it, and so parts the way in
-- two (this project's own).
use Rattle.std.specs.Prelude.{List, [], ◌∷◌, ◌++◌, ℕ, zero, suc, Option, Some, None, if◌then◌else◌, slice_get, take}
use Rattle.chase_laws.specs.Joined.{joined}

-- the way through link number n, which is passed from the end that the links before it join with x
abbrev pub through : List (ℕ × ℕ) → (ℕ → ℕ → List ℕ) → ℕ → Option (ℕ × ℕ) → ℕ → ℕ → List ℕ
through front before n None x y = []
through front before n (Some link) x y = if joined front x link.0 then before x link.0 ++ n ∷ before link.1 y else before x link.1 ++ n ∷ before link.0 y

-- the places of those of the first n links that lead from x to y, where these join the two
unfoldable pub way : List (ℕ × ℕ) → ℕ → ℕ → ℕ → List ℕ
way links zero x y = []
way links (suc n) x y = if joined (take n links) x y then way links n x y else through (take n links) (way links n) n (slice_get links n) x y
