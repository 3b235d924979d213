-- Members whose texts stand among others (this project's own).
use Rattle.std.specs.Prelude.{ℕ, ◌≤◌, List, All, map, length, slice_range}
use Rattle.std.specs.List.{flat_map}
use Rattle.term_text.specs.declared.member.Member.{Member}
use Rattle.term_text.specs.declared.member_texts.TextPlace.{TextPlace}

-- the member whose text stands at a place
abbrev pub member_of : List ℕ → TextPlace → Member
member_of bytes place = record { text = slice_range bytes place.from place.to; label = place.label }

-- the members whose texts stand at these places
abbrev pub members_of : List ℕ → List TextPlace → List Member
members_of bytes places = map (member_of bytes) places

-- each place ends within the bytes, and not before it begins
abbrev pub AreWithin : List ℕ → List TextPlace → Type 0
AreWithin bytes places = All (λ place. (place.from ≤ place.to) × (place.to ≤ length bytes)) places

-- the members of all parts, one part behind another
abbrev pub joined_members : List (List Member) → List Member
joined_members parts = flat_map (λ part. part) parts
