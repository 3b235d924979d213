-- Terms that come in the order of their numbers (this project's own).
use Rattle.std.specs.Prelude.{List, ℕ, ◌≤◌, length, take, ◌≡◌}
use Rattle.gk_base.specs.declared.term.Term.{Term}
use Rattle.term_table.specs.Numbering.{with_terms, AreDistinct}

-- where the first terms of a list have come, so many, the terms of a part come after them, and then these have come
pub record ComeInOrder (come more : ℕ) (part : List Term → List Term) : Type 0 where
  pub not_fewer : come ≤ more
  pub then_come : (terms : List Term) → AreDistinct terms → more ≤ length terms → with_terms (take come terms) (part terms) ≡ take more terms
