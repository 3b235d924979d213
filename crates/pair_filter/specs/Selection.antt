-- What is kept of some pairs (this project's own).
use Rattle.std.specs.Prelude.{List, [], ◌∷◌, ℕ, ◌≡◌, ◌⊎◌}

-- Of some pairs, in their order, exactly those with a property: a pair is kept where it has the property, and left out where
-- it has not.
abbrev pub IsSelection : (ℕ × ℕ → Type 0) → List (ℕ × ℕ) → List (ℕ × ℕ) → Type 0
IsSelection P [] kept = kept ≡ []
IsSelection P (x ∷ xs) kept = ((rest : List (ℕ × ℕ)) × P x × (kept ≡ x ∷ rest) × IsSelection P xs rest) ⊎ (¬ (P x) × IsSelection P xs kept)
