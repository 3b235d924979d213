-- The names that may be printed, with their texts and labels (this project's own).
use Rattle.std.specs.Prelude.{◌≡◌, ℕ, List, [], Bool, filter, map, length, slice_index}
use Rattle.std.specs.Ordering.{nat_cmp, is_lt}
use Rattle.std.specs.List.{range_with_len}
use Rattle.std.specs.List.Sorted.{IsSortedBy, IsStableBy}
use Rattle.std.specs.Cmp.Lexicographic.{slice_cmp}
use Rattle.chase_laws.specs.Report.{text_at}
use Rattle.term_text.specs.Lines.{lines_after}
use Rattle.term_text.specs.declared.member.Member.{Member}

-- the member that stands for a name
abbrev pub member_at : List (List ℕ) → List ℕ → ℕ → Member
member_at texts labels n = record { text = text_at texts n; label = slice_index labels n }

-- the names whose labels pass a test, ascending
abbrev pub chosen : (ℕ → Bool) → List ℕ → List ℕ
chosen test labels = filter (λ n. test (slice_index labels n)) (range_with_len 0 (length labels))

-- the members that stand for these names
abbrev pub members_for : List (List ℕ) → List ℕ → (ℕ → Bool) → List Member
members_for texts labels test = map (member_at texts labels) (chosen test labels)

-- the members that stand for those of so many names from a number on
abbrev pub members_within : List (List ℕ) → List ℕ → (ℕ → Bool) → ℕ → ℕ → List Member
members_within texts labels test from count = map (member_at texts labels) (filter (λ n. test (slice_index labels n)) (range_with_len from count))

-- whether the text of one member is below that of another, by bytes
abbrev pub is_before : Member → Member → Bool
is_before a b = is_lt (slice_cmp nat_cmp a.text b.text)

-- the bytes are the lines of these members, put in the order of their texts
pub record Prints (members : List Member) (bytes : List ℕ) : Type 0 where
  pub sorted : List Member
  pub ascends : IsSortedBy is_before sorted
  pub stable : IsStableBy is_before members sorted
  pub lines : bytes ≡ lines_after [] sorted
