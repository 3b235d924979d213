-- Groups of listed parts.
use Rattle.std.proofs.Common.{List, [], ◌∷◌, ◌++◌, ℕ, zero, suc, Option, Some, All, Contains, map, slice_get, slice_index, length, drop, get_or, ◌≡◌, ◌<◌, ◌+◌, inl, inr, refl, sym, ◌∙◌, ap, subst, arith}
use Rattle.std.specs.List.{flat_map}
use Rattle.std.proofs.lemmas.List.{get_or-map, get_or_default, length-map}
use Rattle.std.proofs.lemmas.List.Elements.{All-contains, Contains-get_or, Contains-append_left, Contains-append_right, Contains-append_cases}
use Rattle.std.proofs.lemmas.Option.{same_Some}
use Rattle.chase_laws.specs.Shape.{Shape, PatternFacts}
use Rattle.chase_laws.specs.Graph.{NumberedGraph, IsGraph}
use Rattle.chase_laws.specs.Valuation.{IsValuation}
use Rattle.chase_laws.specs.Signature.{images_of, labels_of, parts_of, SignatureParts, ArePartsOfSome, ListsShared, AreListedSettled}
use Rattle.valuation_groups.specs.Groups.{GroupShape, group_at, row_in, parts_in, parts_of_group, listed_of, AreApart}
use Rattle.signature_chase.specs.Settled.{IsSettled, image_labels, name_label}
use Rattle.signature_chase.specs.Setting.{HasRowAt, IsNamedRow, IsGroupOf}
use Rattle.signature_chase.proofs.Named.{first_named, images_named, length-images}

-- ---- lists that are put together of pieces

in_flat : {X A : Type 0} (f : X → List A) (xs : List X) (x : X) (a : A) → Contains xs x → Contains (f x) a → Contains (flat_map f xs) a
in_flat f [] x a h k = absurd (omega (arith, h.1))
in_flat f (y ∷ ys) x a (zero, lt, e) k = Contains-append_left (f y) (flat_map f ys) a (subst (λ z. Contains (f z) a) (sym e) k)
in_flat f (y ∷ ys) x a (suc i, lt, e) k = Contains-append_right (f y) (flat_map f ys) a (in_flat f ys x a (i, omega arith, e) k)

from_flat : {X A : Type 0} (f : X → List A) (xs : List X) (a : A) → Contains (flat_map f xs) a → (i : ℕ) × (i < length xs) × ((d : X) → Contains (f (get_or xs i d)) a)
from_flat f [] a h = absurd (omega (arith, h.1))
from_flat f (y ∷ ys) a h = elim (Contains-append_cases (f y) (flat_map f ys) a h) [
  | inl k ↦ (0, omega arith, (λ d. k))
  | inr k ↦ (let r = from_flat f ys a k in (suc r.0, omega (arith, r.1), (λ d. r.2 d)))
]

pub in_listed : (groups : List GroupShape) (g i : ℕ) → HasRowAt groups g i → Contains (listed_of groups) (parts_in (group_at groups g) (row_in (group_at groups g) i))
in_listed groups g i h =
    let group = group_at groups g in
    let p = parts_in group (row_in group i) in
    let read : get_or (parts_of_group group) i p ≡ p = get_or-map (parts_in group) group.rows i [] p h.1 in
    in_flat parts_of_group groups group p (Contains-get_or groups g (record { key = 0; values = []; rows = [] }) h.0)
    (i, omega (arith, h.1, length-map group.rows (parts_in group)), read)

pub from_listed : (groups : List GroupShape) (p : SignatureParts) → Contains (listed_of groups) p →
    (g : ℕ) × (i : ℕ) × HasRowAt groups g i × (parts_in (group_at groups g) (row_in (group_at groups g) i) ≡ p)
from_listed groups p h =
    let r = from_flat parts_of_group groups p h in
    let group = group_at groups r.0 in
    let k = r.2 (record { key = 0; values = []; rows = [] }) in
    let within : k.0 < length group.rows = omega (arith, k.1, length-map group.rows (parts_in group)) in
    (r.0, k.0, (r.1, within), sym (get_or-map (parts_in group) group.rows k.0 [] p within) ∙ k.2)

-- ---- what holds of groups of listed parts

parts_named : (G : NumberedGraph) (K : List Shape) → IsGraph G → ((key : ℕ) (Q : Shape) → slice_get K key ≡ Some Q → PatternFacts Q) →
    (group : GroupShape) (row : List ℕ) → ArePartsOfSome G K (parts_in group row) → IsNamedRow (length G.literal) row
parts_named G K graph facts group row h =
    let Q = h.0 in
    let v = h.1 in
    let name : slice_index row 0 ≡ slice_index v 0 = ap (λ (p : SignatureParts). p.name) h.4 in
    let images : drop 1 row ≡ images_of Q v = ap (λ (p : SignatureParts). p.images) h.4 in
    record {
      name = subst (λ n. n < length G.literal) (sym name) (first_named G graph Q (facts group.key Q h.2) v h.3);
      images = subst (All (λ m. m < length G.literal)) (sym images) (images_named G graph Q v h.3);
    }

parts_wide : (G : NumberedGraph) (K : List Shape) (group : GroupShape) (row other : List ℕ) → ArePartsOfSome G K (parts_in group row) → ArePartsOfSome G K (parts_in group other) →
    length (drop 1 row) ≡ length (drop 1 other)
parts_wide G K group row other h k =
    let one : h.0 ≡ k.0 = same_Some h.0 k.0 (sym h.2 ∙ k.2) in
    ap (λ (p : SignatureParts). length p.images) h.4
    ∙ ap (λ (Q : Shape). length (images_of Q h.1)) one
    ∙ length-images k.0 h.1 k.1
    ∙ sym (ap (λ (p : SignatureParts). length p.images) k.4)

pub groups_of : (G : NumberedGraph) (K : List Shape) → IsGraph G → ((key : ℕ) (Q : Shape) → slice_get K key ≡ Some Q → PatternFacts Q) →
    (groups : List GroupShape) → ListsShared G K (listed_of groups) → (g : ℕ) → g < length groups → IsGroupOf G K (group_at groups g)
groups_of G K graph facts groups lists g in_g = record {
  parts = some;
  named = λ i h. parts_named G K graph facts (group_at groups g) (row_in (group_at groups g) i) (some i h);
  wide = λ i j hi hj. parts_wide G K (group_at groups g) (row_in (group_at groups g) i) (row_in (group_at groups g) j) (some i hi) (some j hj);
}
  where
    some : (i : ℕ) → i < length (group_at groups g).rows → ArePartsOfSome G K (parts_in (group_at groups g) (row_in (group_at groups g) i))
    some i h = All-contains (ArePartsOfSome G K) (listed_of groups) (parts_in (group_at groups g) (row_in (group_at groups g) i)) lists.only (in_listed groups g i (in_g, h))

-- where each group is settled, the listed parts are
pub listed_settled : (groups : List GroupShape) → AreApart groups → (labels : List ℕ) → ((g : ℕ) → g < length groups → IsSettled labels (group_at groups g)) →
    AreListedSettled labels (listed_of groups)
listed_settled groups apart labels settled p q hp hq key values images =
    let x = from_listed groups p hp in
    let y = from_listed groups q hq in
    let g = x.0 in
    let h = y.0 in
    let same_key : (group_at groups g).key ≡ (group_at groups h).key = ap (λ (r : SignatureParts). r.key) x.3 ∙ key ∙ sym (ap (λ (r : SignatureParts). r.key) y.3) in
    let same_values : (group_at groups g).values ≡ (group_at groups h).values = ap (λ (r : SignatureParts). r.values) x.3 ∙ values ∙ sym (ap (λ (r : SignatureParts). r.values) y.3) in
    let one : h ≡ g = sym (apart.apart g h x.2.0 y.2.0 same_key same_values) in
    let group = group_at groups g in
    let in_j : y.1 < length group.rows = subst (λ k. y.1 < length (group_at groups k).rows) one y.2.1 in
    let is_q : parts_in group (row_in group y.1) ≡ q = subst (λ k. parts_in (group_at groups k) (row_in (group_at groups k) y.1) ≡ q) one y.3 in
    let same_images : image_labels labels (row_in group x.1) ≡ image_labels labels (row_in group y.1) =
    ap (λ (r : SignatureParts). labels_of labels r.images) x.3 ∙ images ∙ sym (ap (λ (r : SignatureParts). labels_of labels r.images) is_q) in
    sym (ap (λ (r : SignatureParts). slice_index labels r.name) x.3)
    ∙ settled g x.2.0 x.1 y.1 x.2.1 in_j same_images
    ∙ ap (λ (r : SignatureParts). slice_index labels r.name) is_q
