-- A book of classes as contracts see it. Labels and member lists are this project's own.
use Rattle.std.specs.Prelude.{List, [], ◌∷◌, ℕ, Bool, Some, cond, ◌≡◌, ◌<◌, ◌+◌, ◌==◌, ◌||◌, ◌&&◌, ◌↔◌, nat_lt, All, Contains, length, map, slice_get, slice_index, count_by, if◌then◌else◌}
use Rattle.list_pool.specs.Pool.{list_at}
use Rattle.chase_laws.specs.declared.entry.Entry.{Entry}
use Rattle.chase_laws.specs.Joined.{Joined, LabelsJoin}

-- a label for each node, the list of members for each label, the identifications in order, and how many there may be
pub record Classes : Type 0 where
  pub labels : List ℕ
  pub members : List (List ℕ)
  pub journal : List Entry
  pub room : ℕ

-- the members of a node's class, in the order of the walk
abbrev pub class_of : Classes → ℕ → List ℕ
class_of book node = list_at book.members (slice_index book.labels node)

-- a list of the nodes that the journal joins with a node, each at one place
pub record IsClass (labels : List ℕ) (journal : List Entry) (node : ℕ) (members : List ℕ) : Type 0 where
  pub in_range : All (λ member. member < length labels) members
  pub joined : (n : ℕ) → n < length labels → Contains members n ↔ Joined journal node n
  pub once : (i j n : ℕ) → slice_get members i ≡ Some n → slice_get members j ≡ Some n → i ≡ j

-- both ends of each identification are nodes
abbrev pub EndsAreNodes : List ℕ → List Entry → Type 0
EndsAreNodes labels journal = All (λ e. (e.a < length labels) × (e.b < length labels)) journal

-- how many nodes have a label
abbrev pub size_of : List ℕ → ℕ → ℕ
size_of labels label = count_by (λ l. l == label) labels

-- whether the first of two labels stays: that of the larger class, and at a tie the smaller label
abbrev pub first_stays : List ℕ → ℕ → ℕ → Bool
first_stays labels x y = nat_lt (size_of labels y) (size_of labels x) || (size_of labels x == size_of labels y && nat_lt x y)

-- the one of two labels that stays
abbrev pub staying : List ℕ → ℕ → ℕ → ℕ
staying labels x y = (if first_stays labels x y then x else y)

-- the one of two labels that goes
abbrev pub going : List ℕ → ℕ → ℕ → ℕ
going labels x y = (if first_stays labels x y then y else x)

-- the labels with one put in the place of another
abbrev pub relabelled : List ℕ → ℕ → ℕ → List ℕ
relabelled labels from to = map (λ l. (if l == from then to else l)) labels

-- how many nodes have another label in the second list
unfoldable pub changed_count : List ℕ → List ℕ → ℕ
changed_count [] ys = 0
changed_count (x ∷ xs) [] = 0
changed_count (x ∷ xs) (y ∷ ys) = cond (x == y) 0 1 + changed_count xs ys

-- labels that say what the journal joins: equal exactly where it joins, and each a node that it joins
pub record IsLabelled (labels : List ℕ) (journal : List Entry) : Type 0 where
  pub classes : LabelsJoin labels journal
  pub in_range : All (λ l. l < length labels) labels
  pub member : (n : ℕ) → n < length labels → Joined journal n (slice_index labels n)
