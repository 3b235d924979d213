-- Which entries of a journal a goal needs (this project's own).
use Rattle.std.specs.Prelude.{List, ℕ, Bool, Some, Contains, length, slice_get, slice_index, flat_map, ◌≡◌}
use Rattle.chase_laws.specs.declared.entry.Entry.{Entry}
use Rattle.chase_laws.specs.declared.pattern.Slot.{Slot}
use Rattle.chase_laws.specs.Shape.{Shape}
use Rattle.chase_laws.specs.Joined.{links}
use Rattle.proof_graph.specs.Way.{way}
use Rattle.proof_file.specs.Tells.{supported_slots}
use Rattle.proof_graph.specs.Built.{pattern_at}
use Rattle.why_pair.specs.Kept.{IsMarkedAt}

-- the places on the way between the images of an entry at a slot
abbrev pub way_at : List Entry → Entry → ℕ → List ℕ
way_at H e s = way (links H) (length H) (slice_index e.left s) (slice_index e.right s)

-- the places on the ways between its images at the entity variables but the first
abbrev pub needs_of : List Entry → List Slot → Entry → List ℕ
needs_of H slots e = flat_map (way_at H e) (supported_slots slots)

-- marks are closed under need: what an entry needs that has a mark, has one too
abbrev pub AreClosed : List Shape → List Entry → List Bool → Type 0
AreClosed K H marks = (p q : ℕ) (e : Entry) → slice_get H q ≡ Some e → IsMarkedAt marks q → Contains (needs_of H (pattern_at K e.key).slots e) p → IsMarkedAt marks p

-- the place of an entry is needed: it is one of the goal's, or one that an entry at such a place needs
pub data IsNeeded (K : List Shape) (H : List Entry) (goal : List ℕ) : ℕ → Type 0 where
  in_goal : {p : ℕ} → Contains goal p → IsNeeded K H goal p
  by_entry : {p q : ℕ} (e : Entry) → slice_get H q ≡ Some e → IsNeeded K H goal q → Contains (needs_of H (pattern_at K e.key).slots e) p → IsNeeded K H goal p
