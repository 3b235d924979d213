-- What entries of a journal need.
use Rattle.std.proofs.Common.{List, [], ◌∷◌, ℕ, zero, suc, ◌<◌, ◌≤◌, true, Some, All, Contains, length, slice_get, slice_index, get_or, take, ◌≡◌, inl, inr, refl, sym, ap, subst, ◌∙◌, arith}
use Rattle.std.specs.List.{flat_map}
use Rattle.std.proofs.lemmas.List.{length-map, take-map}
use Rattle.std.proofs.lemmas.List.Elements.{Contains-append_left, Contains-append_right, Contains-append_cases}
use Rattle.std.proofs.lemmas.Option.{slice_get_within, slice_get-get_or, get_or_from_slice_get}
use Rattle.chase_laws.specs.declared.entry.Entry.{Entry}
use Rattle.chase_laws.specs.declared.pattern.Slot.TheVariants.{Entity}
use Rattle.chase_laws.specs.Shape.{Shape}
use Rattle.chase_laws.specs.Joined.{joined, joined_by, links}
use Rattle.chase_laws.proofs.CallerLemmas.{slice_get-from_Contains}
use Rattle.proof_graph.specs.Way.{way}
use Rattle.proof_file.specs.Tells.{supported_slots, AreSupported}
use Rattle.proof_graph.specs.Built.{pattern_at, IsJoinedAt}
use Rattle.why_pair.specs.Needed.{way_at, needs_of}
use Rattle.proof_file.proofs.CallerLemmas.{supported_at}
use Rattle.proof_graph.proofs.CallerLemmas.{fronts, on_way, way-stable}

-- ---- lists of lists

pub in_flat : {X Y : Type 0} (f : X → List Y) (xs : List X) (y : Y) → Contains (flat_map f xs) y → (k : ℕ) × (x : X) × (slice_get xs k ≡ Some x) × Contains (f x) y
in_flat f [] y h = let r = slice_get-from_Contains [] y h in let e = r.1 in absurd cc
in_flat f (x ∷ xs) y h = elim (Contains-append_cases (f x) (flat_map f xs) y h) [
  | inl a ↦ (0, x, refl, a)
  | inr b ↦ let r = in_flat f xs y b in (suc r.0, r.1, r.2, r.3)
]

pub flat_in : {X Y : Type 0} (f : X → List Y) (xs : List X) (y : Y) (k : ℕ) (x : X) → slice_get xs k ≡ Some x → Contains (f x) y → Contains (flat_map f xs) y
flat_in f [] y k x at h = absurd cc
flat_in f (z ∷ xs) y zero x at h = let same : x ≡ z = cc in Contains-append_left (f z) (flat_map f xs) y (subst (λ w. Contains (f w) y) same h)
flat_in f (z ∷ xs) y (suc k) x at h = Contains-append_right (f z) (flat_map f xs) y (flat_in f xs y k x at h)

-- ---- ways along a whole journal

whole : {X : Type 0} (n : ℕ) (xs : List X) → length xs ≤ n → take n xs ≡ xs
whole zero [] l = refl
whole zero (x ∷ xs) l = absurd (omega arith)
whole (suc n) [] l = refl
whole (suc n) (x ∷ xs) l = ap (λ ys. x ∷ ys) (whole n xs (omega arith))

pub all_links : (H : List Entry) → take (length H) (links H) ≡ links H
all_links H = let n : length (links H) ≡ length H = length-map H (λ (f : Entry). (f.a, f.b)) in whole (length H) (links H) (omega arith)

pub way_inside : (H : List Entry) (a b : ℕ) → joined_by H a b ≡ true → All (λ p. p < length H) (way (links H) (length H) a b)
way_inside H a b h k d l =
    (on_way (links H) (length H) a b (ap (λ ps. joined ps a b) (all_links H) ∙ h) k (get_or (way (links H) (length H) a b) k d) (slice_get-get_or (way (links H) (length H) a b) k d l)).below

-- ---- the images of an entry at an entity variable but the first

pub links-take : (i : ℕ) (H : List Entry) → take i (links H) ≡ links (take i H)
links-take i H = take-map (λ (e : Entry). (e.a, e.b)) i H

pub pattern_is : (K : List Shape) (key : ℕ) (Q : Shape) → slice_get K key ≡ Some Q → pattern_at K key ≡ Q
pattern_is K key Q at = get_or_from_slice_get K key Q (record { slots = []; edges = [] }) at

-- a slot of an entry's key that has a support, and its images
pub record SlotOf (names : ℕ) (H : List Entry) (p : ℕ) (e : Entry) (s : ℕ) : Type 0 where
  pub left : s < length e.left
  pub right : s < length e.right
  pub x_named : slice_index e.left s < names
  pub y_named : slice_index e.right s < names
  pub joined : joined (take p (links H)) (slice_index e.left s) (slice_index e.right s) ≡ true

module _ (names : ℕ) (K : List Shape) (H : List Entry) (sup : AreSupported names K H) (p : ℕ) (e : Entry) (at : slice_get H p ≡ Some e) where
  pub slot_of : (k s : ℕ) → slice_get (supported_slots (pattern_at K e.key).slots) k ≡ Some s → SlotOf names H p e s
  slot_of k s in_slots =
      let u = sup p e at in
      let Q = u.pattern in
      let r = supported_at Q.slots k s (ap (λ (P : Shape). slice_get (supported_slots P.slots) k) (sym (pattern_is K e.key Q u.key)) ∙ in_slots) in
      let w = slice_get_within Q.slots s (Entity r.1) r.2 in
      let lc = u.left_count in
      let rc = u.right_count in
      let l : s < length e.left = omega arith in
      let m : s < length e.right = omega arith in
      record {
        left = l;
        right = m;
        x_named = u.left_named s 0 l;
        y_named = u.right_named s 0 m;
        joined = ap (λ ps. joined ps (slice_index e.left s) (slice_index e.right s)) (links-take p H) ∙ u.joined s r.1 r.2 r.0;
      }

  -- the way between them is that of the entries before this one
  pub way_before : (s : ℕ) → SlotOf names H p e s → way_at H e s ≡ way (links H) p (slice_index e.left s) (slice_index e.right s)
  way_before s o =
      let l = slice_get_within H p e at in
      way-stable (links H) p (length H) (slice_index e.left s) (slice_index e.right s) (omega arith) o.joined

  pub way_below : (s q : ℕ) → SlotOf names H p e s → Contains (way_at H e s) q → q < p
  way_below s q o h =
      let x = slice_index e.left s in
      let y = slice_index e.right s in
      let r = slice_get-from_Contains (way (links H) p x y) q (subst (λ l. Contains l q) (way_before s o) h) in
      (on_way (links H) p x y o.joined r.0 q r.1).below

  pub needs_below : (q : ℕ) → Contains (needs_of H (pattern_at K e.key).slots e) q → q < p
  needs_below q h =
      let r = in_flat (way_at H e) (supported_slots (pattern_at K e.key).slots) q h in
      way_below r.1 q (slot_of r.0 r.1 r.2) r.3

  -- what a caller of a function over the ways of the whole journal shows
  pub joined_all : (Q : Shape) → slice_get K e.key ≡ Some Q → (length e.left ≡ length Q.slots) × (length e.right ≡ length Q.slots) × IsJoinedAt H Q.slots e
  joined_all Q key =
      let u = sup p e at in
      let same : u.pattern ≡ Q = (let two : Some u.pattern ≡ Some Q = sym u.key ∙ key in cc) in
      let l = slice_get_within H p e at in (
        u.left_count ∙ ap (λ (P : Shape). length P.slots) same,
        u.right_count ∙ ap (λ (P : Shape). length P.slots) same,
        λ s t there nonzero.
            let x = slice_index e.left s in
            let y = slice_index e.right s in
            let before : joined (take p (links H)) x y ≡ true =
            ap (λ ps. joined ps x y) (links-take p H) ∙ u.joined s t (ap (λ (P : Shape). slice_get P.slots s) same ∙ there) nonzero in
            ap (λ ps. joined ps x y) (sym (all_links H)) ∙ fronts (links H) p (length H) (omega arith) x y before,
      )
