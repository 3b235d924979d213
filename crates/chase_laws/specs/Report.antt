-- The report: the text that prints the classes of an equivalence on names (this project's own).
use Rattle.std.specs.Prelude.{List, [], ◌∷◌, ◌++◌, ℕ, Bool, ◌==◌, if◌then◌else◌, filter, map, flat_map, length, slice_index_or}
use Rattle.std.specs.Ordering.{nat_cmp, is_le}
use Rattle.std.specs.List.{join_with_byte, range_with_len}
use Rattle.std.specs.Cmp.Lexicographic.{slice_cmp}

-- the text of a name
abbrev pub text_at : List (List ℕ) → ℕ → List ℕ
text_at texts n = slice_index_or texts n []

-- whether the text of one name is not above that of another, by bytes
abbrev pub not_above : List (List ℕ) → ℕ → ℕ → Bool
not_above texts m n = is_le (slice_cmp nat_cmp (text_at texts m) (text_at texts n))

-- a name put among names that ascend by their texts
abbrev pub placed : List (List ℕ) → ℕ → List ℕ → List ℕ
placed texts n [] = n ∷ []
placed texts n (m ∷ ms) = if not_above texts n m then n ∷ m ∷ ms else m ∷ placed texts n ms

-- names put in the order of their texts
abbrev pub by_text : List (List ℕ) → List ℕ → List ℕ
by_text texts [] = []
by_text texts (n ∷ ns) = placed texts n (by_text texts ns)

-- all names in the order of their texts
abbrev pub ordered : List (List ℕ) → List ℕ
ordered texts = by_text texts (range_with_len 0 (length texts))

-- a line: the members' texts with single spaces between them, and a line end
abbrev pub line : List (List ℕ) → List ℕ → List ℕ
line texts members = join_with_byte 32 (map (text_at texts) members) ++ 10 ∷ []

-- what is printed at name n, given the members of its class in order: their line where there are two or more and n is
-- the first of them, and else nothing
abbrev pub class_line : List (List ℕ) → ℕ → List ℕ → List ℕ
class_line texts n [] = []
class_line texts n (first ∷ []) = []
class_line texts n (first ∷ second ∷ others) = if first == n then line texts (first ∷ second ∷ others) else []

-- One line for each class of two or more members, the members ascending by their texts. The lines ascend by first member.
abbrev pub report_text : List (List ℕ) → (ℕ → ℕ → Bool) → List ℕ
report_text texts same = flat_map (λ n. class_line texts n (filter (same n) (ordered texts))) (ordered texts)
