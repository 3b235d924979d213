-- Elements of lists.
use Rattle.std.proofs.Common.{List, [], ◌∷◌, ℕ, Some, Contains, get_or, slice_get, take, length, ◌≡◌, ◌<◌, ◌+◌, ◌⊎◌}
use Rattle.std.proofs.lemmas.List.{take_more}
use Rattle.std.proofs.lemmas.List.Elements.{Contains-push, Contains-push_cases, Contains-append_left}
use Rattle.std.proofs.lemmas.Option.{slice_get_within, get_or_from_slice_get, slice_get-get_or}

pub some_same : {X : Type 0} (x y : X) → Some x ≡ Some y → x ≡ y
some_same x y e = cc

-- an element of one number more is among the ones before, or that number
pub contains_more : (xs : List ℕ) (i x : ℕ) → i < length xs → Contains (take (i + 1) xs) x → Contains (take i xs) x ⊎ (get_or xs i 0 ≡ x)
contains_more xs i x h c = Contains-push_cases (take i xs) (get_or xs i 0) x (rw (take_more xs i 0 h) at c)

-- the same for lists of any kind
pub contains_next : {X : Type 0} (xs : List X) (i : ℕ) (d x : X) → i < length xs → Contains (take (i + 1) xs) x → Contains (take i xs) x ⊎ (get_or xs i d ≡ x)
contains_next xs i d x h c = Contains-push_cases (take i xs) (get_or xs i d) x (rw (take_more xs i d h) at c)

pub contains_before : {X : Type 0} (xs : List X) (i : ℕ) (d x : X) → i < length xs → Contains (take i xs) x → Contains (take (i + 1) xs) x
contains_before xs i d x h c = rw (take_more xs i d h) (Contains-append_left (take i xs) (get_or xs i d ∷ []) x c)

pub contains_here : {X : Type 0} (xs : List X) (i : ℕ) (d : X) → i < length xs → Contains (take (i + 1) xs) (get_or xs i d)
contains_here xs i d h = rw (take_more xs i d h) (Contains-push (take i xs) (get_or xs i d))

-- what is read at a place is in the list
pub contains_at : {X : Type 0} (xs : List X) (i : ℕ) (x : X) → slice_get xs i ≡ Some x → Contains xs x
contains_at xs i x e = (i, slice_get_within xs i x e, get_or_from_slice_get xs i x x e)

-- what is in the list is read at a place
pub place_of : {X : Type 0} (xs : List X) (x : X) → Contains xs x → (i : ℕ) × (i < length xs) × (slice_get xs i ≡ Some x)
place_of xs x c = (c.0, c.1, rw c.2 at (slice_get-get_or xs c.0 x c.1))
