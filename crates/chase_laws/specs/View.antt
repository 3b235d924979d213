-- Views: names with the labels that they had at some time (this project's own).
use Rattle.std.specs.Prelude.{List, [], ◌∷◌, ℕ, Bool, false, Option, Some, None, if◌then◌else◌, ◌==◌, ◌||◌}

-- the label of a name in a view, where it stands there
abbrev pub label_in : List (ℕ × ℕ) → ℕ → Option ℕ
label_in [] n = None
label_in (p ∷ view) n = if p.0 == n then Some p.1 else label_in view n

-- two labels that are there and equal
abbrev pub both_equal : Option ℕ → Option ℕ → Bool
both_equal (Some k) (Some l) = k == l
both_equal (Some k) None = false
both_equal None l = false

-- two names are the same by a view where they are equal, or both stand in it with equal labels
abbrev pub same_by : List (ℕ × ℕ) → ℕ → ℕ → Bool
same_by view m n = (m == n) || both_equal (label_in view m) (label_in view n)
