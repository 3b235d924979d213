-- Where links lead: from a thing to another, passing each link from one of its ends to the other (this project's own).
use Rattle.std.specs.Prelude.{List, [], ◌∷◌, ℕ, Bool, false, Option, Some, None, if◌then◌else◌, slice_get}

-- the other end of a link, where the thing is one of its ends
abbrev pub other_end : {X : Type 0} → (X → X → Bool) → Option (X × X) → X → Option X
other_end same None x = None
other_end same (Some link) x = if same x link.0 then Some link.1 else if same x link.1 then Some link.0 else None

-- the end that is reached along the links at these places, one after another
abbrev pub end_along : {X : Type 0} → (X → X → Bool) → List (X × X) → List ℕ → Option X → Option X
end_along same links [] x = x
end_along same links (n ∷ ns) None = None
end_along same links (n ∷ ns) (Some x) = end_along same links ns (other_end same (slice_get links n) x)

-- whether this was reached
abbrev pub arrives : {X : Type 0} → (X → X → Bool) → Option X → X → Bool
arrives same None y = false
arrives same (Some x) y = same x y

-- whether the links at these places lead from x to y
abbrev pub links_lead : {X : Type 0} → (X → X → Bool) → List (X × X) → List ℕ → X → X → Bool
links_lead same links places x y = arrives same (end_along same links places (Some x)) y
