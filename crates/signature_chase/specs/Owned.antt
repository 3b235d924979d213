-- How the lists of owners stand in memory (this project's own).
use Rattle.std.specs.Prelude.{List, [], ◌∷◌, ℕ, zero, suc, All, length, map, slice_index_or, ◌≡◌, ◌<◌, ◌≤◌, ◌^◌}
use Rattle.signature_chase.specs.declared.owners.Owner.{Owner}

-- what is kept of the owner at a place
abbrev pub owner_at : List Owner → ℕ → Owner
owner_at owners place = slice_index_or owners place (record { group = 0; next = 0 })

-- The groups of the owners from one on, by what follows each, at most as many as the first number. An owner is told by the
-- number behind its place, and 0 tells of none.
unfoldable pub chain : List Owner → ℕ → ℕ → List ℕ
chain owners zero at = []
chain owners (suc n) zero = []
chain owners (suc n) (suc place) = (owner_at owners place).group ∷ chain owners n (owner_at owners place).next

-- the list of each head
abbrev pub chains : List ℕ → List Owner → List (List ℕ)
chains heads owners = map (λ head. chain owners (length owners) head) heads

-- each owner is followed by an earlier one, or none
abbrev pub LeadsBack : List Owner → Type 0
LeadsBack owners = (place : ℕ) → place < length owners → (owner_at owners place).next ≤ place

-- heads and owners as they are kept
pub record AreOwners (heads : List ℕ) (owners : List Owner) : Type 0 where
  pub begin : All (λ head. head ≤ length owners) heads
  pub back : LeadsBack owners
