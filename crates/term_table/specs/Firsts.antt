-- Terms of a list that came before in it (this project's own).
use Rattle.std.specs.Prelude.{◌≡◌, ℕ, ◌≤◌, List, slice_get}
use Rattle.gk_base.specs.declared.term.Term.{Term}

-- the term at the first place is that at the other one, and does not stand behind it
pub record IsFirst (terms : List Term) (at first : ℕ) : Type 0 where
  pub not_behind : first ≤ at
  pub same : slice_get terms first ≡ slice_get terms at
