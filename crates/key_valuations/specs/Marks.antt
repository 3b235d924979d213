-- What a search is given: marks that the numbers at some places have to have (this project's own).
use Rattle.std.specs.Prelude.{List, [], ◌∷◌, ◌++◌, ℕ, Option, Some, None, take, All, Contains, length, slice_get, slice_index, slice_index_or, ⊤, ◌≡◌, ◌<◌, ◌↔◌}
use Rattle.chase_laws.specs.declared.pattern.Slot.{Slot}
use Rattle.chase_laws.specs.declared.pattern.Slot.TheVariants.{Entity, Any as AnyOf, Value, Folded, Fixed}
use Rattle.chase_laws.specs.declared.pattern.Edge.{Edge}
use Rattle.chase_laws.specs.Shape.{Shape}
use Rattle.chase_laws.specs.Graph.{NumberedGraph}
use Rattle.chase_laws.specs.Valuation.{IsValuation, FitsSlot}
use Rattle.chase_laws.specs.Signature.{value_at, image_at, values_of, images_of}
use Rattle.key_valuations.specs.Part.{EdgeHolds, IsPart}

-- A number at a slot has a mark: it is the mark itself at an entity or a value variable, and alike to it at a folded one. At
-- other slots any number has it.
abbrev pub HasMark : NumberedGraph → Slot → ℕ → ℕ → Type 0
HasMark G (Entity t) k n = n ≡ k
HasMark G (AnyOf t) k n = ⊤
HasMark G Value k n = n ≡ k
HasMark G Folded k n = slice_index G.alike n ≡ k
HasMark G (Fixed c) k n = ⊤

-- it has the mark that is given, if one is
abbrev pub IsMarked : NumberedGraph → Slot → Option ℕ → ℕ → Type 0
IsMarked G slot None n = ⊤
IsMarked G slot (Some k) n = HasMark G slot k n

-- the mark that is given for a place, if one is
abbrev pub mark_at : List (Option ℕ) → ℕ → Option ℕ
mark_at marks s = slice_index_or marks s None

-- the numbers of a list have the marks that are given for their places
abbrev pub AreMarked : NumberedGraph → Shape → List (Option ℕ) → List ℕ → Type 0
AreMarked G Q marks p = (s : ℕ) (slot : Slot) → s < length p → slice_get Q.slots s ≡ Some slot → IsMarked G slot (mark_at marks s) (slice_index p s)

-- a part of a valuation with the given marks
pub record IsMarkedPart (G : NumberedGraph) (Q : Shape) (marks : List (Option ℕ)) (p : List ℕ) : Type 0 where
  pub part : IsPart G Q p
  pub marked : AreMarked G Q marks p

-- the list is completed by a valuation that begins with it and has the given marks
pub record IsCompletedBy (G : NumberedGraph) (Q : Shape) (marks : List (Option ℕ)) (p v : List ℕ) : Type 0 where
  pub valuation : IsValuation G Q v
  pub marked : AreMarked G Q marks v
  pub begins : take (length p) v ≡ p

-- each number that these edges allow behind the list is among the chosen ones
abbrev pub Covers : NumberedGraph → List ℕ → List Edge → List ℕ → Type 0
Covers G p block chosen = (m : ℕ) → All (EdgeHolds G (p ++ m ∷ [])) block → Contains chosen m

-- each number that is fit for the slot, has its mark, and that these edges allow is among the chosen ones
abbrev pub CoversMarked : NumberedGraph → Slot → Option ℕ → List ℕ → List Edge → List ℕ → Type 0
CoversMarked G slot mark p block chosen = (m : ℕ) → FitsSlot G slot m → IsMarked G slot mark m → All (EdgeHolds G (p ++ m ∷ [])) block → Contains chosen m

-- the only number that a slot and its mark allow, where there is one, is in the list
abbrev pub OnlyOne : NumberedGraph → Slot → Option ℕ → Option (List ℕ) → Type 0
OnlyOne G slot mark None = ⊤
OnlyOne G slot mark (Some own) = (m : ℕ) → FitsSlot G slot m → IsMarked G slot mark m → Contains own m

-- the values and the images of a valuation are the given ones
abbrev pub HasGiven : NumberedGraph → Shape → List ℕ → List ℕ → List ℕ → Type 0
HasGiven G Q values images v = IsValuation G Q v × (values_of G Q v ≡ values) × (images_of Q v ≡ images)

-- Lists of values and of images, given for slot s and those behind it, give it this mark, and these are left for those behind: a
-- number has the mark exactly if its value and its image are the first of the lists.
pub record IsNextMark (slot : Slot) (s : ℕ) (values images : List ℕ) (mark : Option ℕ) (values' images' : List ℕ) : Type 0 where
  pub every : (G : NumberedGraph) (n : ℕ) (us ws : List ℕ) → value_at G (Some slot) n ++ us ≡ values → image_at s (Some slot) n ++ ws ≡ images →
      IsMarked G slot mark n × (us ≡ values') × (ws ≡ images')
  pub only : (G : NumberedGraph) (n : ℕ) → IsMarked G slot mark n → (value_at G (Some slot) n ++ values' ≡ values) × (image_at s (Some slot) n ++ images' ≡ images)

-- too few values or images are given for slot s
abbrev pub IsUsedUp : Slot → ℕ → List ℕ → List ℕ → Type 0
IsUsedUp slot s values images = (G : NumberedGraph) (n : ℕ) (us ws : List ℕ) → value_at G (Some slot) n ++ us ≡ values → ¬ (image_at s (Some slot) n ++ ws ≡ images)

-- the number at each slot has the mark that is given for its place
abbrev pub AreMarkedBySlots : NumberedGraph → Shape → List ℕ → List (Option ℕ) → List ℕ → Type 0
AreMarkedBySlots G Q place marks v = (s : ℕ) (slot : Slot) → slice_get Q.slots s ≡ Some slot → IsMarked G slot (mark_at marks (slice_index place s)) (slice_index v s)

-- exactly the valuations with these values and images have these marks
abbrev pub AreMarksOf : Shape → List ℕ → List ℕ → List ℕ → List (Option ℕ) → Type 0
AreMarksOf Q place values images marks = (G : NumberedGraph) (v : List ℕ) → IsValuation G Q v →
    ((values_of G Q v ≡ values) × (images_of Q v ≡ images)) ↔ AreMarkedBySlots G Q place marks v
