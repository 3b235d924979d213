-- Which numbers a list of pairs makes the same.
use Rattle.std.specs.Prelude.{List, [], ◌∷◌, ℕ, Bool, ◌==◌, ◌||◌, ◌&&◌, IsTrue, map, length, slice_index, ◌≡◌, ◌<◌, ◌↔◌}
use Rattle.chase_laws.specs.declared.entry.Entry.{Entry}

-- The least equivalence that has the pairs ("Keys for Graphs", section 2.2: Eq). With no pair, only what is equal is
-- joined. One more pair (c, d) joins what was joined, and what was joined to c with what was joined to d. The order of
-- the pairs is of no account: `law_joined` has the same equation for a pair at the end.
unfoldable pub joined : List (ℕ × ℕ) → ℕ → ℕ → Bool
joined [] a b = a == b
joined (p ∷ ps) a b = joined ps a b || (joined ps a p.0 && joined ps p.1 b) || (joined ps a p.1 && joined ps p.0 b)

-- the pairs that entries identify
abbrev pub links : List Entry → List (ℕ × ℕ)
links H = map (λ e. (e.a, e.b)) H

-- whether entries join two numbers
abbrev pub joined_by : List Entry → ℕ → ℕ → Bool
joined_by H = joined (links H)

-- entries join two numbers
abbrev pub Joined : List Entry → ℕ → ℕ → Type 0
Joined H a b = IsTrue (joined_by H a b)

-- labels are equal exactly where the entries join
abbrev pub LabelsJoin : List ℕ → List Entry → Type 0
LabelsJoin labels H = (m n : ℕ) → m < length labels → n < length labels → (slice_index labels m ≡ slice_index labels n) ↔ Joined H m n
