-- Signatures of valuations: what coinciding looks at, with a label in place of each entity (this project's own).
use Rattle.std.specs.Prelude.{List, [], ◌∷◌, ℕ, zero, suc, Option, Some, None, All, Contains, map, length, slice_get, slice_index, ◌≡◌, ◌≢◌, ◌<◌}
use Rattle.std.specs.List.{flat_map}
use Rattle.chase_laws.specs.declared.pattern.Slot.{Slot}
use Rattle.chase_laws.specs.declared.pattern.Slot.TheVariants.{Entity, Any, Value, Folded, Fixed}
use Rattle.chase_laws.specs.Shape.{Shape, slot_numbers}
use Rattle.chase_laws.specs.Graph.{NumberedGraph}
use Rattle.chase_laws.specs.Valuation.{IsValuation}

-- the value that the name n has at a slot: itself at a value variable, and what it is alike to at a folded one; other slots
-- have none
abbrev pub value_at : NumberedGraph → Option Slot → ℕ → List ℕ
value_at G (Some (Entity t)) n = []
value_at G (Some (Any t)) n = []
value_at G (Some Value) n = n ∷ []
value_at G (Some Folded) n = slice_index G.alike n ∷ []
value_at G (Some (Fixed c)) n = []
value_at G None n = []

-- the name n, unless the slot is the first
abbrev pub unless_first : ℕ → ℕ → List ℕ
unless_first zero n = []
unless_first (suc s) n = n ∷ []

-- the image n at slot s: the name at an entity variable other than slot 0; other slots have none
abbrev pub image_at : ℕ → Option Slot → ℕ → List ℕ
image_at s (Some (Entity t)) n = unless_first s n
image_at s (Some (Any t)) n = []
image_at s (Some Value) n = []
image_at s (Some Folded) n = []
image_at s (Some (Fixed c)) n = []
image_at s None n = []

-- the values of a valuation, in the order of the slots
abbrev pub values_of : NumberedGraph → Shape → List ℕ → List ℕ
values_of G Q v = flat_map (λ s. value_at G (slice_get Q.slots s) (slice_index v s)) (slot_numbers Q)

-- its images at the entity variables other than slot 0, in the order of the slots
abbrev pub images_of : Shape → List ℕ → List ℕ
images_of Q v = flat_map (λ s. image_at s (slice_get Q.slots s) (slice_index v s)) (slot_numbers Q)

-- the labels of names
abbrev pub labels_of : List ℕ → List ℕ → List ℕ
labels_of labels names = map (slice_index labels) names

-- the signature of a valuation: its values, and the labels of its images
abbrev pub signature : NumberedGraph → Shape → List ℕ → List ℕ → List ℕ × List ℕ
signature G Q labels v = (values_of G Q v, labels_of labels (images_of Q v))

-- some key has a valuation at a and one at b of the same signature
pub record ShareSignature (G : NumberedGraph) (K : List Shape) (labels : List ℕ) (a b : ℕ) : Type 0 where
  pub key : ℕ
  pub pattern : Shape
  pub found : slice_get K key ≡ Some pattern
  pub left : List ℕ
  pub right : List ℕ
  pub at_left : IsValuation G pattern left
  pub at_right : IsValuation G pattern right
  pub at_a : slice_index left 0 ≡ a
  pub at_b : slice_index right 0 ≡ b
  pub signed : signature G pattern labels left ≡ signature G pattern labels right

-- each name has a label
abbrev pub LabelsAll : NumberedGraph → List ℕ → Type 0
LabelsAll G labels = length labels ≡ length G.literal

-- names of one label have one label by the second list too
abbrev pub IsCoarser : List ℕ → List ℕ → Type 0
IsCoarser labels labels' = (m n : ℕ) → m < length labels → n < length labels → slice_index labels m ≡ slice_index labels n →
    slice_index labels' m ≡ slice_index labels' n

-- any two valuations of one key with one signature are at names of one label
abbrev pub AreSettled : NumberedGraph → List Shape → List ℕ → Type 0
AreSettled G K labels = (key : ℕ) (Q : Shape) (v w : List ℕ) → slice_get K key ≡ Some Q → IsValuation G Q v → IsValuation G Q w →
    signature G Q labels v ≡ signature G Q labels w → slice_index labels (slice_index v 0) ≡ slice_index labels (slice_index w 0)

-- What a signature is made of, whatever the labels: the key, the name at slot 0, the values and the images. Valuations that
-- differ in wildcards alone, or in literals that are alike, have the same.
pub record SignatureParts : Type 0 where
  pub key : ℕ
  pub name : ℕ
  pub values : List ℕ
  pub images : List ℕ

-- the parts of a valuation of a key
abbrev pub parts_of : NumberedGraph → ℕ → Shape → List ℕ → SignatureParts
parts_of G key Q v = record { key = key; name = slice_index v 0; values = values_of G Q v; images = images_of Q v }

-- some valuation has these parts
abbrev pub ArePartsOfSome : NumberedGraph → List Shape → SignatureParts → Type 0
ArePartsOfSome G K p = (Q : Shape) × (v : List ℕ) × (slice_get K p.key ≡ Some Q) × IsValuation G Q v × (p ≡ parts_of G p.key Q v)

-- The listed parts are those of valuations, and they are all that matter: any two valuations of a key at different names with
-- the same values have theirs in the list.
pub record ListsShared (G : NumberedGraph) (K : List Shape) (listed : List SignatureParts) : Type 0 where
  pub only : All (ArePartsOfSome G K) listed
  pub every : (key : ℕ) (Q : Shape) (v w : List ℕ) → slice_get K key ≡ Some Q → IsValuation G Q v → IsValuation G Q w →
      slice_index v 0 ≢ slice_index w 0 → values_of G Q v ≡ values_of G Q w → Contains listed (parts_of G key Q v)

-- any two of the listed parts that make one signature are at names of one label
abbrev pub AreListedSettled : List ℕ → List SignatureParts → Type 0
AreListedSettled labels listed = (p q : SignatureParts) → Contains listed p → Contains listed q → p.key ≡ q.key → p.values ≡ q.values →
    labels_of labels p.images ≡ labels_of labels q.images → slice_index labels p.name ≡ slice_index labels q.name
