-- The lines of a report, made of members in order (this project's own).
use Rattle.std.specs.Prelude.{◌≡◌, ℕ, List, [], ◌∷◌, ◌++◌, ◌+◌, ◌<◌, Bool, ◌==◌, filter, length, take, drop, slice_index_or, if◌then◌else◌, Option, None}
use Rattle.std.specs.List.{list_any, position_from}
use Rattle.term_text.specs.declared.member.Member.{Member}
use Rattle.term_text.specs.declared.links.Links.{Links}
use Rattle.term_text.specs.Labels.{place_at}

-- whether a member has this label
abbrev pub has_label : ℕ → Member → Bool
has_label label m = label == m.label

-- the member at a place
abbrev pub member_in : List Member → ℕ → Member
member_in members k = slice_index_or members k (record { text = []; label = 0 })

-- the member at a place, and those after it in its class
abbrev pub class_from : List Member → ℕ → List Member
class_from members k = member_in members k ∷ filter (has_label (member_in members k).label) (drop (k + 1) members)

-- texts, each with a space before it, and a line end
abbrev pub rest_text : List Member → List ℕ
rest_text [] = 10 ∷ []
rest_text (m ∷ ms) = 32 ∷ (m.text ++ rest_text ms)

-- the line of a class, given its members: nothing where there are fewer than two
abbrev pub class_text : List Member → List ℕ
class_text [] = []
class_text (first ∷ []) = []
class_text (first ∷ second ∷ others) = first.text ++ rest_text (second ∷ others)

-- the lines of the classes that begin in the second list, where the first list is what comes before
abbrev pub lines_after : List Member → List Member → List ℕ
lines_after before [] = []
lines_after before (m ∷ rest) = (if list_any (has_label m.label) before then [] else class_text (m ∷ filter (has_label m.label) rest)) ++ lines_after (before ++ m ∷ []) rest

-- the lines of the classes that begin at a place or behind it
abbrev pub lines_from : List Member → ℕ → List ℕ
lines_from members k = lines_after (take k members) (drop k members)

-- the first place from k on at which a member has this label
abbrev pub place_from : List Member → ℕ → ℕ → Option ℕ
place_from members k label = position_from (has_label label) k (drop k members)

-- the links lead from each member to the next one of its class, and from each label to the first member that has it
pub record IsLinked (links : Links) (members : List Member) : Type 0 where
  pub count : length links.next.items ≡ length members
  pub next : (k : ℕ) → k < length members → slice_index_or links.next.items k None ≡ place_from members (k + 1) (member_in members k).label
  pub first : (label : ℕ) → place_at links.firsts label ≡ place_from members 0 label
