-- How often cells stand in lists: this project's own. A pool's facts are kept as sums.
use Rattle.std.specs.Prelude.{List, ℕ, ◌==◌, count_by, sum_by}

-- how often a cell stands in a list
unfoldable pub times : List ℕ → ℕ → ℕ
times xs cell = count_by (λ x. x == cell) xs

-- how often a cell stands in all lists
unfoldable pub count_in : List (List ℕ) → ℕ → ℕ
count_in lists cell = sum_by (λ xs. times xs cell) lists
