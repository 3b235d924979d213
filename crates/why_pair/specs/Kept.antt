-- Some elements of a list, kept in their order (this project's own).
use Rattle.std.specs.Prelude.{List, [], ◌∷◌, ℕ, zero, suc, Bool, true, false, Some, slice_get, ◌≡◌}

-- the elements that have the mark true
abbrev pub kept_by : {X : Type 0} → List Bool → List X → List X
kept_by [] xs = []
kept_by (mark ∷ marks) [] = []
kept_by (true ∷ marks) (x ∷ xs) = x ∷ kept_by marks xs
kept_by (false ∷ marks) (x ∷ xs) = kept_by marks xs

-- a place is marked
abbrev pub IsMarkedAt : List Bool → ℕ → Type 0
IsMarkedAt marks p = slice_get marks p ≡ Some true

-- how many elements before a place are kept: the place there of the element that is kept from this one
abbrev pub place_kept : List Bool → ℕ → ℕ
place_kept [] p = 0
place_kept (mark ∷ marks) zero = 0
place_kept (true ∷ marks) (suc p) = suc (place_kept marks p)
place_kept (false ∷ marks) (suc p) = place_kept marks p
