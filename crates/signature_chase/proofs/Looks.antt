-- One look at a group.
use Rattle.std.proofs.Common.{List, [], ◌∷◌, ℕ, All, Contains, map, length, drop, ◌≡◌, ◌<◌, ◌+◌, ◌↔◌, inl, inr, refl, sym, ◌∙◌, ap, ap₂, subst, arith}
use Rattle.std.specs.Prelude.{slice_index}
use Rattle.std.proofs.lemmas.Bool.{cases_lt}
use Rattle.std.proofs.lemmas.List.Elements.{All-head, All-tail}
use Rattle.chase_laws.specs.Shape.{Shape}
use Rattle.chase_laws.specs.Graph.{NumberedGraph}
use Rattle.chase_laws.specs.Signature.{labels_of, values_of, images_of, signature, IsCoarser}
use Rattle.class_book.specs.Classes.{Classes}
use Rattle.key_valuations.specs.Parts.{HasParts}
use Rattle.valuation_groups.specs.Groups.{GroupShape, group_at, row_in}
use Rattle.signature_chase.specs.Settled.{IsSettled, image_labels, name_label}
use Rattle.signature_chase.specs.Setting.{HasRowAt, IsNamedRow}
use Rattle.signature_chase.specs.Advance.{Advances}
use Rattle.signature_chase.specs.Leaders.{AreLeaders}
use Rattle.signature_chase.proofs.Advancing.{labels_same}
use Rattle.signature_chase.proofs.Refining.{leaders_whole}

-- two valuations with the parts of rows whose images have the same labels have one signature
pub signed : (G : NumberedGraph) (Q : Shape) (labels : List ℕ) (a b : ℕ) (values xs ys v w : List ℕ) → HasParts G Q a values xs v → HasParts G Q b values ys w →
    labels_of labels xs ≡ labels_of labels ys → signature G Q labels v ≡ signature G Q labels w
signed G Q labels a b values xs ys v w left right same =
    let one : values_of G Q v ≡ values_of G Q w = left.values ∙ sym right.values in
    let two : labels_of labels (images_of Q v) ≡ labels_of labels (images_of Q w) = ap (labels_of labels) left.images ∙ same ∙ sym (ap (labels_of labels) right.images) in
    ap₂ (λ (p : List ℕ) (q : List ℕ). let r : List ℕ × List ℕ = (p, q) in r) one two

-- equal labels stay equal
pub coarser_labels : (labels labels' : List ℕ) → IsCoarser labels labels' → (xs ys : List ℕ) → All (λ m. m < length labels) xs → All (λ m. m < length labels) ys →
    labels_of labels xs ≡ labels_of labels ys → labels_of labels' xs ≡ labels_of labels' ys
coarser_labels labels labels' coarser [] [] hx hy e = refl
coarser_labels labels labels' coarser [] (y ∷ ys) hx hy e = absurd (cc)
coarser_labels labels labels' coarser (x ∷ xs) [] hx hy e = absurd (cc)
coarser_labels labels labels' coarser (x ∷ xs) (y ∷ ys) hx hy e =
    let first : slice_index labels x ≡ slice_index labels y = heads (slice_index labels x) (slice_index labels y) (labels_of labels xs) (labels_of labels ys) e in
    let others : labels_of labels xs ≡ labels_of labels ys = tails (slice_index labels x) (slice_index labels y) (labels_of labels xs) (labels_of labels ys) e in
    ap₂ (λ l ls. l ∷ ls) (coarser x y (All-head (λ m. m < length labels) x xs hx) (All-head (λ m. m < length labels) y ys hy) first)
    (coarser_labels labels labels' coarser xs ys (All-tail (λ m. m < length labels) x xs hx) (All-tail (λ m. m < length labels) y ys hy) others)
  where
    heads : (a b : ℕ) (ps qs : List ℕ) → a ∷ ps ≡ b ∷ qs → a ≡ b
    heads a b ps qs h = cc

    tails : (a b : ℕ) (ps qs : List ℕ) → a ∷ ps ≡ b ∷ qs → ps ≡ qs
    tails a b ps qs h = cc

-- where each row has the label of its leader, the group is settled, unless it waits again
pub look_settles : (groups : List GroupShape) (old new : Classes) (waiting waiting' : List ℕ) (g : ℕ) (leaders : List ℕ) → Advances groups old new waiting waiting' → g < length groups →
    ((i : ℕ) → i < length (group_at groups g).rows → AreLeaders old.labels (group_at groups g) (length (drop 1 (row_in (group_at groups g) i))) leaders) →
    ((i j : ℕ) → i < length (group_at groups g).rows → j < length (group_at groups g).rows →
    length (drop 1 (row_in (group_at groups g) i)) ≡ length (drop 1 (row_in (group_at groups g) j))) →
    ((k : ℕ) → k < length (group_at groups g).rows → name_label new.labels (row_in (group_at groups g) (slice_index leaders k)) ≡ name_label new.labels (row_in (group_at groups g) k)) →
    ¬ (Contains waiting' g) → IsSettled new.labels (group_at groups g)
look_settles groups old new waiting waiting' g leaders x in_g are wide met none i j hi hj same =
    let group = group_at groups g in
    let left = labels_same old.labels new.labels (drop 1 (row_in group i)) (λ m k. x.unmoved g i m (in_g, hi) none k) in
    let right = labels_same old.labels new.labels (drop 1 (row_in group j)) (λ m k. x.unmoved g j m (in_g, hj) none k) in
    let one = (leaders_whole old.labels group (length (drop 1 (row_in group i))) leaders (are i hi) i j hi hj refl (wide j i hj hi)).1 (sym left ∙ same ∙ right) in
    sym (met i hi) ∙ ap (λ k. name_label new.labels (row_in group k)) one ∙ met j hj

-- a row and its leader have images of the same labels, also after some entries
pub leader_same : (old new : List ℕ) (group : GroupShape) (leaders : List ℕ) → IsCoarser old new →
    ((i : ℕ) → i < length group.rows → AreLeaders old group (length (drop 1 (row_in group i))) leaders) →
    ((i j : ℕ) → i < length group.rows → j < length group.rows → length (drop 1 (row_in group i)) ≡ length (drop 1 (row_in group j))) →
    ((i : ℕ) → i < length group.rows → IsNamedRow (length old) (row_in group i)) →
    (i : ℕ) → i < length group.rows → image_labels new (row_in group (slice_index leaders i)) ≡ image_labels new (row_in group i)
leader_same old new group leaders coarser are wide named i h =
    let l = slice_index leaders i in
    let x = are i h in
    let in_l : l < length group.rows = x.rows i h in
    let one = (leaders_whole old group (length (drop 1 (row_in group i))) leaders x l i in_l h (wide l i in_l h) refl).0 (x.own i h) in
    coarser_labels old new coarser (drop 1 (row_in group l)) (drop 1 (row_in group i)) (named l in_l).images (named i h).images one

-- one row more has the label of its leader
pub met_more : (old new : Classes) (groups : List GroupShape) (waiting waiting' : List ℕ) → Advances groups old new waiting waiting' → (group : GroupShape) (leaders : List ℕ) (row : ℕ) →
    row < length group.rows → ((i : ℕ) → i < length group.rows → slice_index leaders i < length group.rows) → ((i : ℕ) → i < length group.rows → IsNamedRow (length old.labels) (row_in group i)) →
    ((k : ℕ) → k < row → name_label old.labels (row_in group (slice_index leaders k)) ≡ name_label old.labels (row_in group k)) →
    name_label new.labels (row_in group (slice_index leaders row)) ≡ name_label new.labels (row_in group row) →
    (k : ℕ) → k < row + 1 → name_label new.labels (row_in group (slice_index leaders k)) ≡ name_label new.labels (row_in group k)
met_more old new groups waiting waiting' x group leaders row in_row rows named before here k h = elim (cases_lt k row) [
  | inl lt ↦
      (let in_k : k < length group.rows = omega arith in
      x.coarser (slice_index (row_in group (slice_index leaders k)) 0) (slice_index (row_in group k) 0) (named (slice_index leaders k) (rows k in_k)).name (named k in_k).name (before k lt))
  | inr ge ↦ (let e : row ≡ k = omega arith in subst (λ j. name_label new.labels (row_in group (slice_index leaders j)) ≡ name_label new.labels (row_in group j)) e here)
]
