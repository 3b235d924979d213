-- Two valuations coincide up to what entries join exactly if they have one signature.
use Rattle.std.proofs.Common.{List, [], ◌∷◌, ◌++◌, ℕ, zero, suc, Bool, Option, Some, None, All, IsSomeAnd, slice_get, slice_index, map, length, ◌≡◌, ◌↔◌, ◌<◌, ◌+◌, inl, inr, refl, sym, ◌∙◌, ap, subst, arith}
use Rattle.std.specs.List.{flat_map, range_with_len}
use Rattle.std.proofs.lemmas.List.Elements.{All-contains}
use Rattle.std.proofs.lemmas.Option.{slice_get_within}
use Rattle.std.proofs.lemmas.Bool.{cases_eq}
use Rattle.chase_laws.specs.declared.entry.Entry.{Entry}
use Rattle.chase_laws.specs.declared.pattern.Slot.{Slot}
use Rattle.chase_laws.specs.declared.pattern.Slot.TheVariants.{Entity, Any as AnyOf, Value, Folded, Fixed}
use Rattle.chase_laws.specs.Shape.{Shape, IsPattern, slot_numbers}
use Rattle.chase_laws.specs.Graph.{NumberedGraph, HasRow, IsGraph}
use Rattle.chase_laws.specs.Valuation.{FitsSlot, IsValuation, AgreeAt, Coincide, Matches}
use Rattle.chase_laws.specs.Joined.{joined_by, Joined, LabelsJoin}
use Rattle.chase_laws.specs.Chase.{IsStep, IsDerivation, AreSame, IsClosed}
use Rattle.chase_laws.specs.Signature.{value_at, image_at, values_of, images_of, labels_of, signature, ShareSignature, LabelsAll, IsCoarser, AreSettled, SignatureParts, parts_of, ListsShared, AreListedSettled}
use Rattle.chase_laws.proofs.Patterns.{pattern_facts}
use Rattle.chase_laws.proofs.Lists.{All-at, slice_get-within}
use Rattle.chase_laws.proofs.ChaseLaws.{chase}

-- ---- lists that are put together of pieces

append_split : (xs ys us vs : List ℕ) → length xs ≡ length ys → xs ++ us ≡ ys ++ vs → (xs ≡ ys) × (us ≡ vs)
append_split [] [] us vs n h = (refl, h)
append_split [] (y ∷ ys) us vs n h = absurd (omega arith)
append_split (x ∷ xs) [] us vs n h = absurd (omega arith)
append_split (x ∷ xs) (y ∷ ys) us vs n h =
    let first : x ≡ y = cc in
    let others : xs ++ us ≡ ys ++ vs = cc in
    let r = append_split xs ys us vs (omega arith) others in
    let both : x ∷ xs ≡ y ∷ ys = ap (λ z. z ∷ xs) first ∙ ap (λ zs. y ∷ zs) r.0 in
    (both, r.1)

-- equal lists of pieces of equal lengths have equal pieces, and the other way round
pieces_equal : (f g : ℕ → List ℕ) (k n : ℕ) → ((s : ℕ) → length (f s) ≡ length (g s)) → flat_map f (range_with_len k n) ≡ flat_map g (range_with_len k n) →
    (s : ℕ) → s < n → f (k + s) ≡ g (k + s)
pieces_equal f g k zero same h s lt = absurd (omega arith)
pieces_equal f g k (suc n) same h zero lt =
    let e : k + 0 ≡ k = omega arith in
    rw e ((append_split (f k) (g k) (flat_map f (range_with_len (k + 1) n)) (flat_map g (range_with_len (k + 1) n)) (same k) h).0)
pieces_equal f g k (suc n) same h (suc s) lt =
    let e : (k + 1) + s ≡ k + suc s = omega arith in
    let others = (append_split (f k) (g k) (flat_map f (range_with_len (k + 1) n)) (flat_map g (range_with_len (k + 1) n)) (same k) h).1 in
    subst (λ m. f m ≡ g m) e (pieces_equal f g (k + 1) n same others s (omega arith))

pieces_same : (f g : ℕ → List ℕ) (k n : ℕ) → ((s : ℕ) → s < k + n → f s ≡ g s) → flat_map f (range_with_len k n) ≡ flat_map g (range_with_len k n)
pieces_same f g k zero h = refl
pieces_same f g k (suc n) h =
    let first : f k ≡ g k = h k (omega arith) in
    let others : flat_map f (range_with_len (k + 1) n) ≡ flat_map g (range_with_len (k + 1) n) = pieces_same f g (k + 1) n (λ s lt. h s (omega arith)) in
    ap (λ xs. xs ++ flat_map f (range_with_len (k + 1) n)) first ∙ ap (λ ys. g k ++ ys) others

map_append : (h : ℕ → ℕ) (xs ys : List ℕ) → map h (xs ++ ys) ≡ map h xs ++ map h ys
map_append h [] ys = refl
map_append h (x ∷ xs) ys = ap (λ zs. h x ∷ zs) (map_append h xs ys)

map_pieces : (h : ℕ → ℕ) (f : ℕ → List ℕ) (xs : List ℕ) → map h (flat_map f xs) ≡ flat_map (λ s. map h (f s)) xs
map_pieces h f [] = refl
map_pieces h f (x ∷ xs) = map_append h (f x) (flat_map f xs) ∙ ap (λ ys. map h (f x) ++ ys) (map_pieces h f xs)

-- ---- names with labels

-- what fits an entity slot is a name, and so has a label
pub fit_named : (G : NumberedGraph) → IsGraph G → (labels : List ℕ) → LabelsAll G labels → (t n : ℕ) → FitsSlot G (Entity t) n → n < length labels
fit_named G graph labels all t n h = rw all (by G.rdf_type h.1)
  where
    by : (o : Option ℕ) → IsSomeAnd o (λ p. HasRow G n p t) → n < length G.literal
    by (Some p) row = All-contains (λ r. All (λ m. m < length G.literal) r) G.rows (n ∷ p ∷ t ∷ []) graph row 0 0 (omega arith)
    by None none = absurd none

-- ---- one slot

-- what two names at a slot give to signatures under two lists of labels: the same values, and images of the same labels
abbrev SignedAt : NumberedGraph → List ℕ → ℕ → Option Slot → ℕ → ℕ → Type 0
SignedAt G labels s slot m n = (value_at G slot m ≡ value_at G slot n) × (labels_of labels (image_at s slot m) ≡ labels_of labels (image_at s slot n))

single : (a b : ℕ) → a ∷ [] ≡ b ∷ [] → a ≡ b
single a b h = cc

agree_signed : (G : NumberedGraph) → IsGraph G → (labels : List ℕ) (H : List Entry) → LabelsAll G labels → LabelsJoin labels H →
    (s : ℕ) (slot : Slot) (m n : ℕ) → FitsSlot G slot m → FitsSlot G slot n → AgreeAt G (joined_by H) s slot m n → SignedAt G labels s (Some slot) m n
agree_signed G graph labels H all joins zero (Entity t) m n fm fn h = (refl, refl)
agree_signed G graph labels H all joins (suc s) (Entity t) m n fm fn h =
    (refl, ap (λ l. l ∷ []) ((joins m n (fit_named G graph labels all t m fm) (fit_named G graph labels all t n fn)).1 (h (λ e. omega arith))))
agree_signed G graph labels H all joins s (AnyOf t) m n fm fn h = (refl, refl)
agree_signed G graph labels H all joins s Value m n fm fn h = (ap (λ l. l ∷ []) h, refl)
agree_signed G graph labels H all joins s Folded m n fm fn h = (ap (λ l. l ∷ []) h, refl)
agree_signed G graph labels H all joins s (Fixed c) m n fm fn h = (refl, refl)

signed_agree : (G : NumberedGraph) → IsGraph G → (labels : List ℕ) (H : List Entry) → LabelsAll G labels → LabelsJoin labels H →
    (s : ℕ) (slot : Slot) (m n : ℕ) → FitsSlot G slot m → FitsSlot G slot n → SignedAt G labels s (Some slot) m n → AgreeAt G (joined_by H) s slot m n
signed_agree G graph labels H all joins zero (Entity t) m n fm fn h = λ o. absurd (o refl)
signed_agree G graph labels H all joins (suc s) (Entity t) m n fm fn h =
    λ o. (joins m n (fit_named G graph labels all t m fm) (fit_named G graph labels all t n fn)).0 (single (slice_index labels m) (slice_index labels n) h.1)
signed_agree G graph labels H all joins s (AnyOf t) m n fm fn h = tt
signed_agree G graph labels H all joins s Value m n fm fn h = single m n h.0
signed_agree G graph labels H all joins s Folded m n fm fn h = single (slice_index G.alike m) (slice_index G.alike n) h.0
signed_agree G graph labels H all joins s (Fixed c) m n fm fn h = tt

signed_coarser : (G : NumberedGraph) → IsGraph G → (labels labels' : List ℕ) → LabelsAll G labels → IsCoarser labels labels' →
    (s : ℕ) (slot : Slot) (m n : ℕ) → FitsSlot G slot m → FitsSlot G slot n → SignedAt G labels s (Some slot) m n → SignedAt G labels' s (Some slot) m n
signed_coarser G graph labels labels' all coarser zero (Entity t) m n fm fn h = (refl, refl)
signed_coarser G graph labels labels' all coarser (suc s) (Entity t) m n fm fn h =
    (refl, ap (λ l. l ∷ []) (coarser m n (fit_named G graph labels all t m fm) (fit_named G graph labels all t n fn) (single (slice_index labels m) (slice_index labels n) h.1)))
signed_coarser G graph labels labels' all coarser s (AnyOf t) m n fm fn h = (refl, refl)
signed_coarser G graph labels labels' all coarser s Value m n fm fn h = (h.0, refl)
signed_coarser G graph labels labels' all coarser s Folded m n fm fn h = (h.0, refl)
signed_coarser G graph labels labels' all coarser s (Fixed c) m n fm fn h = (refl, refl)

-- what agrees has the same values, whatever is the same
agree_valued : (G : NumberedGraph) (same : ℕ → ℕ → Bool) (s : ℕ) (slot : Slot) (m n : ℕ) → AgreeAt G same s slot m n → value_at G (Some slot) m ≡ value_at G (Some slot) n
agree_valued G same s (Entity t) m n h = refl
agree_valued G same s (AnyOf t) m n h = refl
agree_valued G same s Value m n h = ap (λ l. l ∷ []) h
agree_valued G same s Folded m n h = ap (λ l. l ∷ []) h
agree_valued G same s (Fixed c) m n h = refl

-- how much a slot gives depends on the slot alone
value_count : (G : NumberedGraph) (slot : Option Slot) (m n : ℕ) → length (value_at G slot m) ≡ length (value_at G slot n)
value_count G (Some (Entity t)) m n = refl
value_count G (Some (AnyOf t)) m n = refl
value_count G (Some Value) m n = refl
value_count G (Some Folded) m n = refl
value_count G (Some (Fixed c)) m n = refl
value_count G None m n = refl

label_count : (labels : List ℕ) (s : ℕ) (slot : Option Slot) (m n : ℕ) → length (labels_of labels (image_at s slot m)) ≡ length (labels_of labels (image_at s slot n))
label_count labels zero (Some (Entity t)) m n = refl
label_count labels (suc s) (Some (Entity t)) m n = refl
label_count labels s (Some (AnyOf t)) m n = refl
label_count labels s (Some Value) m n = refl
label_count labels s (Some Folded) m n = refl
label_count labels s (Some (Fixed c)) m n = refl
label_count labels s None m n = refl

-- ---- all slots

abbrev value_piece : NumberedGraph → Shape → List ℕ → ℕ → List ℕ
value_piece G Q v s = value_at G (slice_get Q.slots s) (slice_index v s)

abbrev image_piece : Shape → List ℕ → ℕ → List ℕ
image_piece Q v s = image_at s (slice_get Q.slots s) (slice_index v s)

abbrev label_piece : Shape → List ℕ → List ℕ → ℕ → List ℕ
label_piece Q labels v s = labels_of labels (image_piece Q v s)

labels_pieces : (Q : Shape) (labels v : List ℕ) → labels_of labels (images_of Q v) ≡ flat_map (label_piece Q labels v) (slot_numbers Q)
labels_pieces Q labels v = map_pieces (slice_index labels) (image_piece Q v) (slot_numbers Q)

values_from : (G : NumberedGraph) (Q : Shape) (v w : List ℕ) →
    ((s : ℕ) (slot : Slot) → slice_get Q.slots s ≡ Some slot → value_at G (Some slot) (slice_index v s) ≡ value_at G (Some slot) (slice_index w s)) →
    values_of G Q v ≡ values_of G Q w
values_from G Q v w each = pieces_same (value_piece G Q v) (value_piece G Q w) 0 (length Q.slots) (λ s lt.
    let at = slice_get-within Q.slots s (omega (arith, lt)) in
    subst (λ o. value_at G o (slice_index v s) ≡ value_at G o (slice_index w s)) (sym at.1) (each s at.0 at.1))

labels_from : (Q : Shape) (labels v w : List ℕ) →
    ((s : ℕ) (slot : Slot) → slice_get Q.slots s ≡ Some slot →
    labels_of labels (image_at s (Some slot) (slice_index v s)) ≡ labels_of labels (image_at s (Some slot) (slice_index w s))) →
    labels_of labels (images_of Q v) ≡ labels_of labels (images_of Q w)
labels_from Q labels v w each = labels_pieces Q labels v ∙ pieces_same (label_piece Q labels v) (label_piece Q labels w) 0 (length Q.slots) (λ s lt.
    let at = slice_get-within Q.slots s (omega (arith, lt)) in
    subst (λ o. labels_of labels (image_at s o (slice_index v s)) ≡ labels_of labels (image_at s o (slice_index w s))) (sym at.1) (each s at.0 at.1))
    ∙ sym (labels_pieces Q labels w)

pub signed_from : (G : NumberedGraph) (Q : Shape) (labels v w : List ℕ) →
    ((s : ℕ) (slot : Slot) → slice_get Q.slots s ≡ Some slot → SignedAt G labels s (Some slot) (slice_index v s) (slice_index w s)) →
    signature G Q labels v ≡ signature G Q labels w
signed_from G Q labels v w each =
    let values : values_of G Q v ≡ values_of G Q w = values_from G Q v w (λ s slot k. (each s slot k).0) in
    let images : labels_of labels (images_of Q v) ≡ labels_of labels (images_of Q w) = labels_from Q labels v w (λ s slot k. (each s slot k).1) in
    cc

-- one signature is one at each slot
signed_at : (G : NumberedGraph) (Q : Shape) (labels v w : List ℕ) → signature G Q labels v ≡ signature G Q labels w →
    (s : ℕ) (slot : Slot) → slice_get Q.slots s ≡ Some slot → SignedAt G labels s (Some slot) (slice_index v s) (slice_index w s)
signed_at G Q labels v w h s slot k =
    let within : s < length Q.slots = slice_get_within Q.slots s slot k in
    let values : values_of G Q v ≡ values_of G Q w = ap (λ x. x.0) h in
    let images : labels_of labels (images_of Q v) ≡ labels_of labels (images_of Q w) = ap (λ x. x.1) h in
    let zero_more : 0 + s ≡ s = omega arith in
    let value : value_piece G Q v s ≡ value_piece G Q w s = subst (λ i. value_piece G Q v i ≡ value_piece G Q w i) zero_more
    (pieces_equal (value_piece G Q v) (value_piece G Q w) 0 (length Q.slots) (λ i. value_count G (slice_get Q.slots i) (slice_index v i) (slice_index w i)) values s within) in
    let image : label_piece Q labels v s ≡ label_piece Q labels w s = subst (λ i. label_piece Q labels v i ≡ label_piece Q labels w i) zero_more
    (pieces_equal (label_piece Q labels v) (label_piece Q labels w) 0 (length Q.slots) (λ i. label_count labels i (slice_get Q.slots i) (slice_index v i) (slice_index w i))
    (sym (labels_pieces Q labels v) ∙ images ∙ labels_pieces Q labels w) s within) in
    subst (λ o. SignedAt G labels s o (slice_index v s) (slice_index w s)) k (value, image)

pub signed_coincide : (G : NumberedGraph) → IsGraph G → (labels : List ℕ) (H : List Entry) → LabelsAll G labels → LabelsJoin labels H →
    (Q : Shape) (v w : List ℕ) → IsValuation G Q v → IsValuation G Q w → Coincide G Q (joined_by H) v w ↔ (signature G Q labels v ≡ signature G Q labels w)
signed_coincide G graph labels H all joins Q v w fv fw = (
  (λ same. signed_from G Q labels v w (λ s slot k.
      agree_signed G graph labels H all joins s slot (slice_index v s) (slice_index w s) (fv.kinds s slot k) (fw.kinds s slot k) (same s slot k))),
  (λ h s slot k. signed_agree G graph labels H all joins s slot (slice_index v s) (slice_index w s) (fv.kinds s slot k) (fw.kinds s slot k)
      (signed_at G Q labels v w h s slot k)),
)

-- valuations that coincide, whatever is the same, have the same values
pub coincide_valued : (G : NumberedGraph) (Q : Shape) (same : ℕ → ℕ → Bool) (v w : List ℕ) → Coincide G Q same v w → values_of G Q v ≡ values_of G Q w
coincide_valued G Q same v w h = values_from G Q v w (λ s slot k. agree_valued G same s slot (slice_index v s) (slice_index w s) (h s slot k))

-- ---- some key

pub matches_signed : (G : NumberedGraph) (K : List Shape) → IsGraph G → (labels : List ℕ) (H : List Entry) → LabelsAll G labels → LabelsJoin labels H →
    (a b : ℕ) → Matches G K (joined_by H) a b ↔ ShareSignature G K labels a b
matches_signed G K graph labels H all joins a b = (there, back)
  where
    there : Matches G K (joined_by H) a b → ShareSignature G K labels a b
    there h = let x = h.witness in record {
      key = h.key;
      pattern = h.pattern;
      found = h.found;
      left = h.left;
      right = h.right;
      at_left = x.left;
      at_right = x.right;
      at_a = x.at_a;
      at_b = x.at_b;
      signed = (signed_coincide G graph labels H all joins h.pattern h.left h.right x.left x.right).0 x.coincide;
    }

    back : ShareSignature G K labels a b → Matches G K (joined_by H) a b
    back h = record {
      key = h.key;
      pattern = h.pattern;
      found = h.found;
      left = h.left;
      right = h.right;
      witness = record {
        left = h.at_left;
        right = h.at_right;
        at_a = h.at_a;
        at_b = h.at_b;
        coincide = (signed_coincide G graph labels H all joins h.pattern h.left h.right h.at_left h.at_right).1 h.signed;
      };
    }

pub signature_coarser : (G : NumberedGraph) → IsGraph G → (labels labels' : List ℕ) → LabelsAll G labels → IsCoarser labels labels' →
    (Q : Shape) (v w : List ℕ) → IsValuation G Q v → IsValuation G Q w → signature G Q labels v ≡ signature G Q labels w → signature G Q labels' v ≡ signature G Q labels' w
signature_coarser G graph labels labels' all coarser Q v w fv fw h = signed_from G Q labels' v w (λ s slot k.
    signed_coarser G graph labels labels' all coarser s slot (slice_index v s) (slice_index w s) (fv.kinds s slot k) (fw.kinds s slot k) (signed_at G Q labels v w h s slot k))

-- ---- steps and their end

-- an entry of two valuations of one signature is a step
pub signed_step : (G : NumberedGraph) (K : List Shape) → IsGraph G → (labels : List ℕ) (H : List Entry) → LabelsAll G labels → LabelsJoin labels H →
    (Q : Shape) (e : Entry) → slice_get K e.key ≡ Some Q → IsValuation G Q e.left → IsValuation G Q e.right →
    slice_index e.left 0 ≡ e.a → slice_index e.right 0 ≡ e.b → signature G Q labels e.left ≡ signature G Q labels e.right → IsStep G K H e
signed_step G K graph labels H all joins Q e at fv fw at_a at_b h = record {
  pattern = Q;
  key = at;
  witness = record { left = fv; right = fw; at_a = at_a; at_b = at_b; coincide = (signed_coincide G graph labels H all joins Q e.left e.right fv fw).1 h };
}

-- the name at slot 0 has a label
pub first_named : (G : NumberedGraph) (K : List Shape) → IsGraph G → All IsPattern K → (labels : List ℕ) → LabelsAll G labels →
    (key : ℕ) (Q : Shape) (v : List ℕ) → slice_get K key ≡ Some Q → IsValuation G Q v → slice_index v 0 < length labels
first_named G K graph valid labels all key Q v at fits =
    let first = (pattern_facts Q (All-at IsPattern K key Q valid at)).first in
    fit_named G graph labels all first.0 (slice_index v 0) (fits.kinds 0 (Entity first.0) first.1)

pub settled_closed : (G : NumberedGraph) (K : List Shape) → IsGraph G → All IsPattern K → (labels : List ℕ) (H : List Entry) → LabelsAll G labels → LabelsJoin labels H →
    AreSettled G K labels ↔ IsClosed G K H
settled_closed G K graph valid labels H all joins = (there, back)
  where
    there : AreSettled G K labels → IsClosed G K H
    there settled a b m =
        let x = (matches_signed G K graph labels H all joins a b).0 m in
        let same = settled x.key x.pattern x.left x.right x.found x.at_left x.at_right x.signed in
        let met : Joined H (slice_index x.left 0) (slice_index x.right 0) =
        (joins (slice_index x.left 0) (slice_index x.right 0) (first_named G K graph valid labels all x.key x.pattern x.left x.found x.at_left)
        (first_named G K graph valid labels all x.key x.pattern x.right x.found x.at_right)).0 same in
        subst (λ n. Joined H n b) x.at_a (subst (Joined H (slice_index x.left 0)) x.at_b met)

    back : IsClosed G K H → AreSettled G K labels
    back closed key Q v w at fv fw h =
        (joins (slice_index v 0) (slice_index w 0) (first_named G K graph valid labels all key Q v at fv) (first_named G K graph valid labels all key Q w at fw)).1
        (closed (slice_index v 0) (slice_index w 0) ((matches_signed G K graph labels H all joins (slice_index v 0) (slice_index w 0)).1
        (record { key = key; pattern = Q; found = at; left = v; right = w; at_left = fv; at_right = fw; at_a = refl; at_b = refl; signed = h })))

-- a derivation whose labels are settled has found all that is the same
pub settled_same : (G : NumberedGraph) (K : List Shape) → IsGraph G → All IsPattern K → (labels : List ℕ) (H : List Entry) → LabelsAll G labels → LabelsJoin labels H →
    IsDerivation G K H → AreSettled G K labels → (a b : ℕ) → AreSame G K a b ↔ Joined H a b
settled_same G K graph valid labels H all joins derived settled = chase G K H derived ((settled_closed G K graph valid labels H all joins).0 settled)

-- ---- listed parts

pub listed_settled : (G : NumberedGraph) (K : List Shape) (listed : List SignatureParts) → ListsShared G K listed → (labels : List ℕ) → AreListedSettled labels listed → AreSettled G K labels
listed_settled G K listed lists labels settled key Q v w at fv fw h = elim (cases_eq (slice_index v 0) (slice_index w 0)) [
  | inl e ↦ ap (slice_index labels) e
  | inr apart ↦
      (let values : values_of G Q v ≡ values_of G Q w = ap (λ x. x.0) h in
      let images : labels_of labels (images_of Q v) ≡ labels_of labels (images_of Q w) = ap (λ x. x.1) h in
      settled (parts_of G key Q v) (parts_of G key Q w) (lists.every key Q v w at fv fw apart values)
      (lists.every key Q w v at fw fv (λ e. apart (sym e)) (sym values)) refl values images)
]
