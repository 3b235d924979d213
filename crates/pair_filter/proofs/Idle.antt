-- A key with a match pairs its ends to every depth, so a key that does not is idle.
use Rattle.std.proofs.Common.{List, ℕ, zero, suc, Bool, Some, All, slice_get, slice_index, get_or, length, ◌≡◌, ◌<◌, ◌+◌, ◌≤◌, inl, inr, sym, ◌∙◌, ap, subst, arith}
use Rattle.std.proofs.lemmas.Bool.{cases_eq}
use Rattle.std.proofs.lemmas.Option.{get_or_from_slice_get, slice_get-get_or}
use Rattle.chase_laws.specs.declared.pattern.Slot.{Slot}
use Rattle.chase_laws.specs.declared.pattern.Slot.TheVariants.{Entity, Any as AnyOf, Value, Folded, Fixed}
use Rattle.chase_laws.specs.declared.pattern.Edge.{Edge}
use Rattle.chase_laws.specs.Shape.{Shape}
use Rattle.chase_laws.specs.Graph.{NumberedGraph, HasRow}
use Rattle.chase_laws.specs.Valuation.{FitsSlot, AgreeAt, IsMatch}
use Rattle.chase_laws.specs.Pairing.{GoTogether, PairedHere, ArePaired}
use Rattle.pair_filter.specs.Depth.{filter_depth}
use Rattle.pair_filter.specs.Keys.{ArePairedUnder, IsRuledOut}

pub some_same : {A : Type 0} (x y : A) → Some x ≡ Some y → x ≡ y
some_same x y e = cc

module _ (G : NumberedGraph) where
  -- two images that agree can go together
  together : (same : ℕ → ℕ → Bool) (s : ℕ) (slot : Slot) (u w : ℕ) → FitsSlot G slot u → FitsSlot G slot w → AgreeAt G same s slot u w → GoTogether G slot u w
  together same s (Entity t) u w h k agree = tt
  together same s (AnyOf t) u w h k agree = tt
  together same s Value u w h k agree = agree
  together same s Folded u w h k agree = agree
  together same s (Fixed c) u w h k agree = h ∙ sym k

module _ (G : NumberedGraph) (Q : Shape) (same : ℕ → ℕ → Bool) (a b : ℕ) (v w : List ℕ) (x : IsMatch G Q same a b v w) where
  here : (s : ℕ) → PairedHere G Q s (slice_index v s) (slice_index w s)
  here s slot at =
      let left = x.left.kinds s slot at in
      let right = x.right.kinds s slot at in
      (left, right, together G same s slot (slice_index v s) (slice_index w s) left right (x.coincide s slot at))

  -- the images of each slot are paired there to every depth
  images : (d s : ℕ) → ArePaired G Q d s (slice_index v s) (slice_index w s)
  images zero s = here s
  images (suc d) s = (here s, forth (images d), back (images d))
    where
      forth : ((t : ℕ) → ArePaired G Q d t (slice_index v t) (slice_index w t)) →
          All (λ e. e.from ≡ s → (u' w' : ℕ) × ArePaired G Q d e.to u' w' × HasRow G (slice_index v s) e.pred u' × HasRow G (slice_index w s) e.pred w') Q.edges
      forth before k e lt at =
          let f : Edge = get_or Q.edges k e in (
            slice_index v f.to,
            slice_index w f.to,
            before f.to,
            subst (λ i. HasRow G (slice_index v i) f.pred (slice_index v f.to)) at (x.left.edges k e lt),
            subst (λ i. HasRow G (slice_index w i) f.pred (slice_index w f.to)) at (x.right.edges k e lt),
          )

      back : ((t : ℕ) → ArePaired G Q d t (slice_index v t) (slice_index w t)) →
          All (λ e. e.to ≡ s → (u' w' : ℕ) × ArePaired G Q d e.from u' w' × HasRow G u' e.pred (slice_index v s) × HasRow G w' e.pred (slice_index w s)) Q.edges
      back before k e lt at =
          let f : Edge = get_or Q.edges k e in (
            slice_index v f.from,
            slice_index w f.from,
            before f.from,
            subst (λ i. HasRow G (slice_index v f.from) f.pred (slice_index v i)) at (x.left.edges k e lt),
            subst (λ i. HasRow G (slice_index w f.from) f.pred (slice_index w i)) at (x.right.edges k e lt),
          )

  match_under : (t : ℕ) → slice_get Q.slots 0 ≡ Some (Entity t) → ArePairedUnder G Q a b
  match_under t first = record {
    left = (Entity t, first, subst (FitsSlot G (Entity t)) x.at_a (x.left.kinds 0 (Entity t) first));
    right = (Entity t, first, subst (FitsSlot G (Entity t)) x.at_b (x.right.kinds 0 (Entity t) first));
    paired = subst (λ n. ArePaired G Q filter_depth 0 n b) x.at_a (subst (ArePaired G Q filter_depth 0 (slice_index v 0)) x.at_b (images filter_depth 0));
  }

module _ (G : NumberedGraph) (Q : Shape) (a b t : ℕ) (first : slice_get Q.slots 0 ≡ Some (Entity t)) where
  -- what does not pair the two is idle
  pub unpaired_out : ¬ (ArePairedUnder G Q a b) → IsRuledOut G Q a b
  unpaired_out none = record { unpaired = none; idle = λ same v w x. none (match_under G Q same a b v w x t first) }

  -- two that are paired are so under the key
  pub under_paired : ArePaired G Q filter_depth 0 a b → ArePairedUnder G Q a b
  under_paired paired =
      let here = paired.0 (Entity t) first in
      record { left = (Entity t, first, here.0); right = (Entity t, first, here.1); paired = paired }

-- ---- key by key

-- what holds of the keys before one, and of whatever key stands there
pub all_up_to : (K : List Shape) (P : Shape → Type 0) (i : ℕ)
    → ((k : ℕ) (R : Shape) → k < i → slice_get K k ≡ Some R → P R) → ((R : Shape) → slice_get K i ≡ Some R → P R)
    → (k : ℕ) (R : Shape) → k < i + 1 → slice_get K k ≡ Some R → P R
all_up_to K P i before here k R lt at = elim (cases_eq k i) [
  | inl e ↦ here R (ap (slice_get K) (sym e) ∙ at)
  | inr ne ↦ before k R (omega arith) at
]

-- what holds of the keys behind one, and of whatever key stands there
pub all_from : (K : List Shape) (P : Shape → Type 0) (i : ℕ)
    → ((k : ℕ) (R : Shape) → i + 1 ≤ k → slice_get K k ≡ Some R → P R) → ((R : Shape) → slice_get K i ≡ Some R → P R)
    → (k : ℕ) (R : Shape) → i ≤ k → slice_get K k ≡ Some R → P R
all_from K P i behind here k R le at = elim (cases_eq k i) [
  | inl e ↦ here R (ap (slice_get K) (sym e) ∙ at)
  | inr ne ↦ behind k R (omega arith) at
]

-- the pattern of a key is the one at its place
pub at_key : (K : List Shape) (key : ℕ) (R Q : Shape) → R ≡ get_or K key R → slice_get K key ≡ Some Q → R ≡ Q
at_key K key R Q is at = is ∙ get_or_from_slice_get K key Q R at

pub key_at : (K : List Shape) (key : ℕ) (R : Shape) → key < length K → R ≡ get_or K key R → slice_get K key ≡ Some R
key_at K key R lt is = slice_get-get_or K key R lt ∙ ap (λ (x : Shape). Some x) (sym is)
