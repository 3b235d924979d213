-- Key patterns as contracts see them: which are valid, and how far their slots are from the first.
use Rattle.std.specs.Prelude.{List, [], ◌∷◌, ℕ, zero, suc, Bool, true, false, Option, Some, None, IsTrue, ◌==◌, ◌||◌, ◌&&◌, ◌<◌, ◌≤◌, not, nat_lt, nat_le, map, length, slice_get, slice_index_or, All, Contains, ◌≡◌, ◌⊎◌}
use Rattle.std.specs.List.{list_any, list_all, range_with_len}
use Rattle.chase_laws.specs.declared.pattern.Slot.{Slot}
use Rattle.chase_laws.specs.declared.pattern.Slot.TheVariants.{Entity, Any, Value, Folded, Fixed}
use Rattle.chase_laws.specs.declared.pattern.Edge.{Edge}

-- A key's graph pattern ("Keys for Graphs", section 2: Q(x)). Its nodes are slots, of which slot 0 is the designated
-- variable x, and its triples are edges between slots.
pub record Shape : Type 0 where
  pub slots : List Slot
  pub edges : List Edge

-- the numbers of the slots
abbrev pub slot_numbers : Shape → List ℕ
slot_numbers Q = range_with_len 0 (length Q.slots)

-- whether an edge joins slot s with a marked one, in either direction
abbrev pub touches : List Bool → ℕ → Edge → Bool
touches marks s e = (e.to == s && slice_index_or marks e.from false) || (e.from == s && slice_index_or marks e.to false)

-- a mark for each slot that a walk of at most n edges, each passed in either direction, reaches from slot 0
abbrev pub marks : Shape → ℕ → List Bool
marks Q zero = map (λ s. s == 0) (slot_numbers Q)
marks Q (suc n) = let before = marks Q n in map (λ s. slice_index_or before s false || list_any (touches before s) Q.edges) (slot_numbers Q)

-- whether slot s is at most n edges away from slot 0
abbrev pub reached : Shape → ℕ → ℕ → Bool
reached Q n s = slice_index_or (marks Q n) s false

-- an edge has slots r and s as its ends, in either direction
abbrev pub AreBeside : Shape → ℕ → ℕ → Type 0
AreBeside Q r s = (e : Edge) × Contains Q.edges e × (((e.from ≡ r) × (e.to ≡ s)) ⊎ ((e.from ≡ s) × (e.to ≡ r)))

-- a walk of n edges, each passed in either direction from slot to slot, leads from slot 0 to slot s
abbrev pub Walk : Shape → ℕ → ℕ → Type 0
Walk Q zero s = (s < length Q.slots) × (s ≡ 0)
Walk Q (suc n) s = (s < length Q.slots) × ((r : ℕ) × Walk Q n r × AreBeside Q r s)

-- a walk leads from slot 0 to each slot
abbrev pub IsConnected : Shape → Type 0
IsConnected Q = (s : ℕ) → s < length Q.slots → (n : ℕ) × Walk Q n s

-- each slot is at most r edges away
abbrev pub AllWithin : Shape → ℕ → Type 0
AllWithin Q r = (s : ℕ) → s < length Q.slots → IsTrue (reached Q r s)

-- the greatest undirected distance of a slot from slot 0 ("Keys for Graphs", section 4.1: the radius d of a key)
pub record IsRadius (Q : Shape) (r : ℕ) : Type 0 where
  pub within : AllWithin Q r
  pub least : (n : ℕ) → AllWithin Q n → r ≤ n

-- an entity variable
abbrev pub is_entity : Option Slot → Bool
is_entity (Some (Entity t)) = true
is_entity (Some (Any t)) = false
is_entity (Some Value) = false
is_entity (Some Folded) = false
is_entity (Some (Fixed c)) = false
is_entity None = false

-- a slot that may be the subject of a triple: an entity variable or a wildcard
abbrev pub is_subject : Option Slot → Bool
is_subject (Some (Entity t)) = true
is_subject (Some (Any t)) = true
is_subject (Some Value) = false
is_subject (Some Folded) = false
is_subject (Some (Fixed c)) = false
is_subject None = false

-- the same triple of slots and predicate
abbrev pub same_edge : Edge → Edge → Bool
same_edge e f = e.from == f.from && e.pred == f.pred && e.to == f.to

-- no two edges are the same
abbrev pub are_different : List Edge → Bool
are_different [] = true
are_different (e ∷ es) = not (list_any (same_edge e) es) && are_different es

-- A valid pattern (this project's own limits): 1 to 16 slots, the first an entity variable, and 1 to 32 different
-- edges between slots, each from an entity variable or a wildcard. Each slot stands on an edge, and a walk leads to it
-- from slot 0; where there is one, there is one of at most as many edges as there are slots.
abbrev pub is_pattern : Shape → Bool
is_pattern Q =
    is_entity (slice_get Q.slots 0) && nat_le (length Q.slots) 16
    && nat_lt 0 (length Q.edges) && nat_le (length Q.edges) 32 && are_different Q.edges
    && list_all (λ e. nat_lt e.to (length Q.slots) && is_subject (slice_get Q.slots e.from)) Q.edges
    && list_all (λ s. list_any (λ e. e.from == s || e.to == s) Q.edges) (slot_numbers Q)
    && list_all (λ m. m) (marks Q (length Q.slots))

abbrev pub IsPattern : Shape → Type 0
IsPattern Q = IsTrue (is_pattern Q)

-- what the test says, for proofs
pub record PatternFacts (Q : Shape) : Type 0 where
  pub first : (t : ℕ) × (slice_get Q.slots 0 ≡ Some (Entity t))
  pub few_slots : length Q.slots ≤ 16
  pub ends : All (λ e. (e.from < length Q.slots) × (e.to < length Q.slots)) Q.edges
  pub on_edges : (s : ℕ) → s < length Q.slots → list_any (λ e. e.from == s || e.to == s) Q.edges ≡ true
  pub connected : AllWithin Q (length Q.slots)
