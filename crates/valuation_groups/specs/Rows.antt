-- Rows of one key as contracts see them: this project's own.
use Rattle.std.specs.Prelude.{Bool, nat_eq, List, [], ◌∷◌, ◌++◌, ℕ, All, Contains, AllPairs, length, map, slice_index_or, ◌≡◌, ◌≢◌}
use Rattle.std.specs.List.Sorted.{IsSortedByKey}
use Rattle.std.specs.Ordering.{nat_cmp}
use Rattle.std.specs.Cmp.Lexicographic.{slice_cmp, pointwise}
use Rattle.std.specs.declared.cmp.Ordering.TheVariants.{Less}
use Rattle.chase_laws.specs.Signature.{SignatureParts}

-- the parts of valuations of one key, each with so many values and so many images
pub record KeyRows : Type 0 where
  pub key : ℕ
  pub value_count : ℕ
  pub image_count : ℕ
  pub parts : List SignatureParts

-- the parts in a row
abbrev pub part_at : List SignatureParts → ℕ → SignatureParts
part_at parts row = slice_index_or parts row (record { key = 0; name = 0; values = []; images = [] })

-- a row as it stands in memory: the values, the name, the images
abbrev pub cells_in : SignatureParts → List ℕ
cells_in p = p.values ++ p.name ∷ p.images

-- the row of a number as it stands in memory; behind the last there is nothing
abbrev pub row_numbered : List SignatureParts → ℕ → List ℕ
row_numbered parts row = slice_index_or (map cells_in parts) row []

-- whether two numbers have the same row
abbrev pub have_equal_rows : List SignatureParts → ℕ → ℕ → Bool
have_equal_rows parts m n = pointwise nat_eq (row_numbered parts m) (row_numbered parts n)

-- the parts are those of a key, with so many values and so many images
pub record IsOfShape (key' value_count' image_count' : ℕ) (p : SignatureParts) : Type 0 where
  pub key : p.key ≡ key'
  pub values : length p.values ≡ value_count'
  pub images : length p.images ≡ image_count'

-- each of the parts is of the rows' key, with as many values and images as the rows have
abbrev pub AreOfShape : KeyRows → Type 0
AreOfShape rows = All (IsOfShape rows.key rows.value_count rows.image_count) rows.parts

-- another name has the same values in the list
abbrev pub IsShared : List SignatureParts → SignatureParts → Type 0
IsShared parts p = (q : SignatureParts) × Contains parts q × (q.values ≡ p.values) × (q.name ≢ p.name)

-- the parts ascend by their values, so that equal values stand side by side
abbrev pub AscendByValues : List SignatureParts → Type 0
AscendByValues parts = IsSortedByKey (λ p. p.values) (slice_cmp nat_cmp) parts

-- the row of p comes before that of q
abbrev pub Precedes : SignatureParts → SignatureParts → Type 0
Precedes p q = slice_cmp nat_cmp (cells_in p) (cells_in q) ≡ Less

-- no part stands at two places
abbrev pub StandOnce : List SignatureParts → Type 0
StandOnce parts = AllPairs (λ p q. p ≢ q) parts
