-- Groups that are put into the lists of names (this project's own).
use Rattle.std.specs.Prelude.{List, ℕ, Contains, length, ◌≡◌, ◌⊎◌}
use Rattle.list_pool.specs.Pool.{list_at}

-- the lists of all such names have the group now, and nothing else was put in or taken out
pub record PutsInto (old new : List (List ℕ)) (group : ℕ) (Named : ℕ → Type 0) : Type 0 where
  pub count : length new ≡ length old
  pub every : (m : ℕ) → Named m → Contains (list_at new m) group
  pub kept : (m g : ℕ) → Contains (list_at old m) g → Contains (list_at new m) g
  pub only : (m g : ℕ) → Contains (list_at new m) g → Contains (list_at old m) g ⊎ (g ≡ group)
