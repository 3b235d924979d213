-- Parts of a way that are still to be found (this project's own).
use Rattle.std.specs.Prelude.{List, [], ◌++◌, ℕ, ◌+◌, ◌*◌, ◌<◌, true, Some, length, fold, sum_by, option_to_list, ◌≡◌}
use Rattle.chase_laws.specs.Joined.{joined}
use Rattle.proof_graph.specs.Way.{way}
use Rattle.proof_graph.specs.declared.parts.Part.{Part}
use Rattle.proof_graph.specs.declared.meeting.Meeting.{Meeting}

-- the part of a part up to where its ends come together
abbrev pub first_part : Part → Meeting → Part
first_part part meeting = record { from = part.from; to = meeting.near; then = Some meeting.place }

-- and the one from there on
abbrev pub second_part : Part → Meeting → Part
second_part part meeting = record { from = meeting.far; to = part.to; then = part.then }

-- the places of a part, where there are k links
abbrev pub part_places : List (ℕ × ℕ) → ℕ → Part → List ℕ
part_places ps k part = way ps k part.from part.to ++ option_to_list part.then

-- the places of parts, of which the last comes first
abbrev pub parts_places : List (ℕ × ℕ) → ℕ → List Part → List ℕ
parts_places ps k parts = fold (λ after part. part_places ps k part ++ after) [] parts

-- a part leads between joined names, which are below this number
abbrev pub IsWayPart : List (ℕ × ℕ) → ℕ → Part → Type 0
IsWayPart ps count part = (part.from < count) × (part.to < count) × (joined ps part.from part.to ≡ true)

-- how much is left to do: it falls with each part that is taken
abbrev pub work_left : List (ℕ × ℕ) → ℕ → List Part → ℕ
work_left ps k parts = sum_by (λ part. 2 * length (way ps k part.from part.to) + 1) parts
