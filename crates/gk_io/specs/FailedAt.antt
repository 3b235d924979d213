-- At which file a shelf failed.
use Rattle.std.specs.Prelude.{List, ℕ, Some, IsTrue, ◌≡◌}
use Rattle.gk_io.specs.Cause.{Rose}
use Rattle.gk_io.specs.declared.shelf.Shelf

-- The shelf failed at the file of this name: its count of failures rose, the name was asked for last, and that call or a
-- read after it failed (this project's own).
pub record FailedAt {K : Type 0} (shelf : Shelf.Ghosts K) (before after : K) (name : List ℕ) : Type 0 where
  pub rose : Rose (shelf.faults before) (shelf.faults after)
  pub asked_for : shelf.asked after ≡ Some name
  pub is_bad : IsTrue (shelf.bad after)
