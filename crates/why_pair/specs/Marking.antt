-- Marks of the entries that are needed (this project's own).
use Rattle.std.specs.Prelude.{List, [], ◌∷◌, ℕ, ◌≤◌, Bool, true, Some, Contains, length, slice_get, slice_set, ◌≡◌}
use Rattle.chase_laws.specs.declared.entry.Entry.{Entry}
use Rattle.chase_laws.specs.Shape.{Shape}
use Rattle.proof_graph.specs.Built.{pattern_at}
use Rattle.proof_file.specs.Tells.{AreSupported}
use Rattle.why_pair.specs.Kept.{IsMarkedAt}
use Rattle.why_pair.specs.Needed.{needs_of, IsNeeded}

-- these places are marked too
abbrev pub with_marks : List Bool → List ℕ → List Bool
with_marks marks [] = marks
with_marks marks (p ∷ places) = with_marks (slice_set marks p true) places

-- The marks of what a goal needs, as far as the entries from this place on have been looked at: the goal's places are marked,
-- and what those entries need where they are marked, and only needed places are.
pub record MarksFrom (K : List Shape) (H : List Entry) (goal : List ℕ) (from : ℕ) (marks : List Bool) : Type 0 where
  pub count : length marks ≡ length H
  pub goal_marked : (p : ℕ) → Contains goal p → IsMarkedAt marks p
  pub closed : (p q : ℕ) (e : Entry) → from ≤ q → slice_get H q ≡ Some e → IsMarkedAt marks q → Contains (needs_of H (pattern_at K e.key).slots e) p → IsMarkedAt marks p
  pub only : (p : ℕ) → IsMarkedAt marks p → IsNeeded K H goal p

-- a proof can be made of a journal, over some number of names
abbrev pub CanBeTold : List Shape → List Entry → Type 0
CanBeTold K H = (names : ℕ) × AreSupported names K H
