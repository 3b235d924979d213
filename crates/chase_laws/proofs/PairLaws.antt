-- No pair that a key could identify is dropped.
use Rattle.std.proofs.Common.{List, [], ◌∷◌, ℕ, zero, suc, Bool, Some, All, length, slice_get, slice_index, get_or, ◌≡◌, ◌<◌, refl, sym, ◌∙◌, ap, subst, arith}
use Rattle.chase_laws.specs.declared.pattern.Slot.{Slot}
use Rattle.chase_laws.specs.declared.pattern.Slot.TheVariants.{Entity, Any as AnyOf, Value, Folded, Fixed}
use Rattle.chase_laws.specs.declared.pattern.Edge.{Edge}
use Rattle.chase_laws.specs.Shape.{Shape}
use Rattle.chase_laws.specs.Graph.{NumberedGraph, HasRow}
use Rattle.chase_laws.specs.Valuation.{FitsSlot, Designates, AgreeAt, IsMatch}
use Rattle.chase_laws.specs.Chase.{IsAble}
use Rattle.chase_laws.specs.Joined.{joined}
use Rattle.chase_laws.specs.Candidate.{Shares, IsCandidateUnder, IsCandidate}
use Rattle.chase_laws.specs.Pairing.{GoTogether, PairedHere, ArePaired, ArePairedBy}

together : (G : NumberedGraph) (same : ℕ → ℕ → Bool) (s : ℕ) (slot : Slot) (u w : ℕ) → FitsSlot G slot u → FitsSlot G slot w → AgreeAt G same s slot u w → GoTogether G slot u w
together G same s (Entity t) u w h k agree = tt
together G same s (AnyOf t) u w h k agree = tt
together G same s Value u w h k agree = agree
together G same s Folded u w h k agree = agree
together G same s (Fixed c) u w h k agree = h ∙ sym k

paired_here : (G : NumberedGraph) (Q : Shape) (same : ℕ → ℕ → Bool) (a b : ℕ) (v w : List ℕ) → IsMatch G Q same a b v w → (s : ℕ) → PairedHere G Q s (slice_index v s) (slice_index w s)
paired_here G Q same a b v w x s slot at =
    (x.left.kinds s slot at, x.right.kinds s slot at, together G same s slot (slice_index v s) (slice_index w s) (x.left.kinds s slot at) (x.right.kinds s slot at) (x.coincide s slot at))

pub witness_paired : (G : NumberedGraph) (Q : Shape) (same : ℕ → ℕ → Bool) (a b : ℕ) (v w : List ℕ) → IsMatch G Q same a b v w → (d s : ℕ) → ArePaired G Q d s (slice_index v s) (slice_index w s)
witness_paired G Q same a b v w x zero s = paired_here G Q same a b v w x s
witness_paired G Q same a b v w x (suc d) s =
    (paired_here G Q same a b v w x s, leaving (witness_paired G Q same a b v w x d), arriving (witness_paired G Q same a b v w x d))
  where
    leaving : ((t : ℕ) → ArePaired G Q d t (slice_index v t) (slice_index w t)) →
        All (λ e. e.from ≡ s → (u' w' : ℕ) × ArePaired G Q d e.to u' w' × HasRow G (slice_index v s) e.pred u' × HasRow G (slice_index w s) e.pred w') Q.edges
    leaving before k e h at =
        let f : Edge = get_or Q.edges k e in (
          slice_index v f.to,
          slice_index w f.to,
          before f.to,
          subst (λ i. HasRow G (slice_index v i) f.pred (slice_index v f.to)) at (x.left.edges k e h),
          subst (λ i. HasRow G (slice_index w i) f.pred (slice_index w f.to)) at (x.right.edges k e h),
        )

    arriving : ((t : ℕ) → ArePaired G Q d t (slice_index v t) (slice_index w t)) →
        All (λ e. e.to ≡ s → (u' w' : ℕ) × ArePaired G Q d e.from u' w' × HasRow G u' e.pred (slice_index v s) × HasRow G w' e.pred (slice_index w s)) Q.edges
    arriving before k e h at =
        let f : Edge = get_or Q.edges k e in (
          slice_index v f.from,
          slice_index w f.from,
          before f.from,
          subst (λ i. HasRow G (slice_index v f.from) f.pred (slice_index v i)) at (x.left.edges k e h),
          subst (λ i. HasRow G (slice_index w f.from) f.pred (slice_index w i)) at (x.right.edges k e h),
        )

shares : (G : NumberedGraph) (same : ℕ → ℕ → Bool) (s p : ℕ) (slot : Slot) (a b l m : ℕ) → FitsSlot G slot l → FitsSlot G slot m → AgreeAt G same s slot l m → HasRow G a p l → HasRow G b p m → Shares G slot p a b
shares G same s p (Entity t) a b l m h k agree row1 row2 = tt
shares G same s p (AnyOf t) a b l m h k agree row1 row2 = tt
shares G same s p Value a b l m h k agree row1 row2 = (l, h, row1, subst (HasRow G b p) (sym agree) row2)
shares G same s p Folded a b l m h k agree row1 row2 = (l, m, h, k, row1, row2, agree)
shares G same s p (Fixed c) a b l m h k agree row1 row2 = tt

-- a pattern with a match between two different names has a slot 0
first_slot : (G : NumberedGraph) (Q : Shape) (same : ℕ → ℕ → Bool) (a b : ℕ) (v w : List ℕ) → IsMatch G Q same a b v w → a < b → (slot : Slot) × (slice_get Q.slots 0 ≡ Some slot)
first_slot G Q same a b v w x lt = by Q.slots v w x.left.one_each x.right.one_each x.at_a x.at_b
  where
    by : (slots : List Slot) (v w : List ℕ) → length v ≡ length slots → length w ≡ length slots → slice_index v 0 ≡ a → slice_index w 0 ≡ b → (slot : Slot) × (slice_get slots 0 ≡ Some slot)
    by (slot ∷ slots) v w lv lw ea eb = (slot, refl)
    by [] [] [] lv lw ea eb = absurd (omega arith)
    by [] (m ∷ v) w lv lw ea eb = absurd (omega arith)
    by [] [] (n ∷ w) lv lw ea eb = absurd (omega arith)

-- a match between two different names stands at names of a type that its key designates
pub Designates-match : (G : NumberedGraph) (Q : Shape) (same : ℕ → ℕ → Bool) (a b : ℕ) (v w : List ℕ) → IsMatch G Q same a b v w → a < b → Designates G Q a × Designates G Q b
Designates-match G Q same a b v w x lt =
    let s = first_slot G Q same a b v w x lt in
    ((s.0, s.1, subst (FitsSlot G s.0) x.at_a (x.left.kinds 0 s.0 s.1)), (s.0, s.1, subst (FitsSlot G s.0) x.at_b (x.right.kinds 0 s.0 s.1)))

IsCandidateUnder-match : (G : NumberedGraph) (Q : Shape) (same : ℕ → ℕ → Bool) (a b : ℕ) (v w : List ℕ) → IsMatch G Q same a b v w → a < b → IsCandidateUnder G Q a b
IsCandidateUnder-match G Q same a b v w x lt =
    let d = Designates-match G Q same a b v w x lt in
    record {
      left = d.0;
      right = d.1;
      share = λ k e i from slot at.
          let f : Edge = get_or Q.edges k e in
          shares G same f.to f.pred slot a b (slice_index v f.to) (slice_index w f.to) (x.left.kinds f.to slot at) (x.right.kinds f.to slot at) (x.coincide f.to slot at)
          (subst (λ n. HasRow G n f.pred (slice_index v f.to)) (ap (slice_index v) from ∙ x.at_a) (x.left.edges k e i))
          (subst (λ n. HasRow G n f.pred (slice_index w f.to)) (ap (slice_index w) from ∙ x.at_b) (x.right.edges k e i));
    }

pub able_candidate : (G : NumberedGraph) (K : List Shape) (a b : ℕ) → IsAble G K a b → IsCandidate G K a b
able_candidate G K a b h =
    let m = h.1.1 in
    let x = m.witness in
    record {
      below = h.0;
      key = m.key;
      pattern = m.pattern;
      found = m.found;
      under = IsCandidateUnder-match G m.pattern (joined h.1.0) a b m.left m.right x h.0;
    }

-- an able pair is paired to every depth at slot 0 of the key that can identify it
pub able_paired : (G : NumberedGraph) (K : List Shape) (a b : ℕ) → IsAble G K a b →
    (key : ℕ) × (Q : Shape) × (slice_get K key ≡ Some Q) × Designates G Q a × Designates G Q b × ((depth : ℕ) → ArePaired G Q depth 0 a b)
able_paired G K a b h =
    let m = h.1.1 in
    let x = m.witness in
    let d = Designates-match G m.pattern (joined h.1.0) a b m.left m.right x h.0 in (
      m.key,
      m.pattern,
      m.found,
      d.0,
      d.1,
      (λ depth. subst (λ n. ArePaired G m.pattern depth 0 n b) x.at_a
          (subst (ArePaired G m.pattern depth 0 (slice_index m.left 0)) x.at_b
          (witness_paired G m.pattern (joined h.1.0) a b m.left m.right x depth 0))),
    )

pub able_paired_by : (G : NumberedGraph) (K : List Shape) (a b : ℕ) → IsAble G K a b → (depth : ℕ) → ArePairedBy G K depth a b
able_paired_by G K a b h depth =
    let p = able_paired G K a b h in
    record { key = p.0; pattern = p.1; found = p.2; left = p.3; right = p.4; paired = p.5 depth }
