-- What is paired is paired with itself, pairing goes edge by edge, and an edge that leads back need not be asked.
use Rattle.std.proofs.Common.{List, ℕ, zero, suc, Option, Some, None, Contains, get_or, slice_get, take, length, ◌≡◌, ◌≢◌, ◌<◌, ◌+◌, ◌↔◌, ◌⊎◌, ◌∙◌, inl, inr, ap, refl, sym, subst, arith}
use Rattle.std.proofs.lemmas.Bool.{cases_eq}
use Rattle.std.proofs.lemmas.List.{take_more}
use Rattle.std.proofs.lemmas.List.Elements.{Contains-push_cases}
use Rattle.std.proofs.lemmas.Option.{slice_get_within, get_or_from_slice_get, slice_get-get_or}
use Rattle.chase_laws.specs.declared.pattern.Slot.{Slot}
use Rattle.chase_laws.specs.declared.pattern.Slot.TheVariants.{Entity, Any, Value, Folded, Fixed}
use Rattle.chase_laws.specs.declared.pattern.Edge.{Edge}
use Rattle.chase_laws.specs.Shape.{Shape}
use Rattle.chase_laws.specs.Graph.{NumberedGraph, HasRow, IsLiteral}
use Rattle.chase_laws.specs.Valuation.{FitsSlot}
use Rattle.chase_laws.specs.Pairing.{GoTogether, PairedHere, ArePaired}
use Rattle.pair_filter.specs.Along.{ArePairedAlong, ArePairedExcept, MaySkip, HavePaired, HaveCommon, IsValueEdge, IsLeaf}
use Rattle.pair_filter.proofs.Idle.{some_same}

-- the place that an edge is skipped at
same_place : (k j : ℕ) → Some k ≡ Some j → k ≡ j
same_place k j e = cc

module _ (G : NumberedGraph) (Q : Shape) where
  -- each number goes together with itself
  pub itself : (slot : Slot) (u : ℕ) → GoTogether G slot u u
  itself (Entity t) u = tt
  itself (Any t) u = tt
  itself Value u = refl
  itself Folded u = refl
  itself (Fixed c) u = refl

  pub left_here : (s u w : ℕ) → PairedHere G Q s u w → PairedHere G Q s u u
  left_here s u w h slot at = let x = h slot at in (x.0, x.0, itself slot u)

  pub right_here : (s u w : ℕ) → PairedHere G Q s u w → PairedHere G Q s w w
  right_here s u w h slot at = let x = h slot at in (x.1, x.1, itself slot w)

  -- what is paired with any number is paired with itself
  pub left_paired : (d s u w : ℕ) → ArePaired G Q d s u w → ArePaired G Q d s u u
  left_paired zero s u w h = left_here s u w h
  left_paired (suc d) s u w h = (
    left_here s u w h.0,
    (λ k x lt at. let r = h.1 k x lt at in (r.0, r.0, left_paired d (get_or Q.edges k x).to r.0 r.1 r.2, r.3, r.3)),
    (λ k x lt at. let r = h.2 k x lt at in (r.0, r.0, left_paired d (get_or Q.edges k x).from r.0 r.1 r.2, r.3, r.3)),
  )

  pub right_paired : (d s u w : ℕ) → ArePaired G Q d s u w → ArePaired G Q d s w w
  right_paired zero s u w h = right_here s u w h
  right_paired (suc d) s u w h = (
    right_here s u w h.0,
    (λ k x lt at. let r = h.1 k x lt at in (r.1, r.1, right_paired d (get_or Q.edges k x).to r.0 r.1 r.2, r.4, r.4)),
    (λ k x lt at. let r = h.2 k x lt at in (r.1, r.1, right_paired d (get_or Q.edges k x).from r.0 r.1 r.2, r.4, r.4)),
  )

  -- what is paired is paired here
  pub here_of : (d s u w : ℕ) → ArePaired G Q d s u w → PairedHere G Q s u w
  here_of zero s u w h = h
  here_of (suc d) s u w h = h.0

  pub along_edge : (depth d s u w : ℕ) → depth ≡ suc d → ArePaired G Q depth s u w → (k : ℕ) (e : Edge) → slice_get Q.edges k ≡ Some e → ArePairedAlong G Q d e s u w
  along_edge depth d s u w is h k e at =
      let lt = slice_get_within Q.edges k e at in
      let paired : ArePaired G Q (suc d) s u w = subst (λ n. ArePaired G Q n s u w) is h in
      subst (λ (x : Edge). ArePairedAlong G Q d x s u w) (get_or_from_slice_get Q.edges k e e at) (paired.1 k e lt, paired.2 k e lt)

  -- the same where an edge is skipped
  pub left_alone : (skipped : Option ℕ) (depth s u w : ℕ) → ArePairedExcept G Q skipped depth s u w → ArePairedExcept G Q skipped depth s u u
  left_alone skipped depth s u w h = record {
    here = left_here s u w h.here;
    along = λ d k e is asked at. let r = h.along d k e is asked at in (
      (λ from. let x = r.0 from in (x.0, x.0, left_paired d e.to x.0 x.1 x.2, x.3, x.3)),
      (λ to. let x = r.1 to in (x.0, x.0, left_paired d e.from x.0 x.1 x.2, x.3, x.3)),
    );
  }

  pub right_alone : (skipped : Option ℕ) (depth s u w : ℕ) → ArePairedExcept G Q skipped depth s u w → ArePairedExcept G Q skipped depth s w w
  right_alone skipped depth s u w h = record {
    here = right_here s u w h.here;
    along = λ d k e is asked at. let r = h.along d k e is asked at in (
      (λ from. let x = r.0 from in (x.1, x.1, right_paired d e.to x.0 x.1 x.2, x.4, x.4)),
      (λ to. let x = r.1 to in (x.1, x.1, right_paired d e.from x.0 x.1 x.2, x.4, x.4)),
    );
  }

  -- to depth 0 no edge is asked
  pub paired_at_once : (skipped : Option ℕ) (depth s u w : ℕ) → depth ≡ 0 → PairedHere G Q s u w → ArePairedExcept G Q skipped depth s u w
  paired_at_once skipped depth s u w none here = record { here = here; along = λ d k e is asked at. absurd (omega arith) }

  -- paired here, and along each edge that is not skipped
  pub paired_by_edges : (skipped : Option ℕ) (depth d s u w : ℕ) → depth ≡ suc d → PairedHere G Q s u w
      → ((k : ℕ) (e : Edge) → k < length Q.edges → skipped ≢ Some k → slice_get Q.edges k ≡ Some e → ArePairedAlong G Q d e s u w) → ArePairedExcept G Q skipped depth s u w
  paired_by_edges skipped depth d s u w is here along = record {
    here = here;
    along = λ m k e is_m asked at.
        let same : d ≡ m = omega arith in
        subst (λ n. ArePairedAlong G Q n e s u w) same (along k e (slice_get_within Q.edges k e at) asked at);
  }

  -- Where an edge that is not skipped is refused, the two are not paired.
  pub not_along : (skipped : Option ℕ) (depth d s u w : ℕ) → depth ≡ suc d → (k : ℕ) (e : Edge) → skipped ≢ Some k → slice_get Q.edges k ≡ Some e → ¬ (ArePairedAlong G Q d e s u w)
      → ¬ (ArePairedExcept G Q skipped depth s u w)
  not_along skipped depth d s u w is k e asked at none h = none (h.along d k e is asked at)

  -- what is paired is so except along any edge, and what is so except along none is paired
  pub except_any : (skipped : Option ℕ) (depth s u w : ℕ) → ArePaired G Q depth s u w → ArePairedExcept G Q skipped depth s u w
  except_any skipped depth s u w h = record { here = here_of depth s u w h; along = λ d k e is asked at. along_edge depth d s u w is h k e at }

  pub except_none : (depth s u w : ℕ) → ArePairedExcept G Q None depth s u w → ArePaired G Q depth s u w
  except_none zero s u w h = h.here
  except_none (suc d) s u w h = (
    h.here,
    (λ k x lt. (h.along d k (get_or Q.edges k x) refl (λ e. absurd (cc)) (slice_get-get_or Q.edges k x lt)).0),
    (λ k x lt. (h.along d k (get_or Q.edges k x) refl (λ e. absurd (cc)) (slice_get-get_or Q.edges k x lt)).1),
  )

  -- What is so except along an edge that may be skipped is paired, if it is so along that edge.
  unskipped : (skipped : Option ℕ) (depth place s u w : ℕ) (e : Edge) → MaySkip skipped depth place e → slice_get Q.edges place ≡ Some e
      → (e.from ≢ e.to → ArePairedAlong G Q 0 e s u w) → ArePairedExcept G Q skipped depth s u w → ArePaired G Q depth s u w
  unskipped None depth place s u w e may at back h = except_none depth s u w h
  unskipped (Some j) depth place s u w e may at back h = except_none depth s u w (record {
    here = h.here;
    along = λ d k x is asked at_k. elim (cases_eq k place) [
      | inl same ↦
          (let both : Some e ≡ Some x = sym at ∙ ap (slice_get Q.edges) (sym same) ∙ at_k in
          let edge : e ≡ x = cc in
          let zero_is : 0 ≡ d = omega (arith, may.1) in
          subst (λ (y : Edge). ArePairedAlong G Q d y s u w) edge (subst (λ n. ArePairedAlong G Q n e s u w) zero_is (back may.2)))
      | inr other ↦ h.along d k x is (λ skip. other (sym (same_place j k skip) ∙ may.0)) at_k
    ];
  })

  -- what an edge leads to, in either direction, from two that are paired here
  pub led_forth : (skipped : Option ℕ) (depth place s u w : ℕ) (e : Edge) → MaySkip skipped depth place e → slice_get Q.edges place ≡ Some e → e.from ≡ s → PairedHere G Q s u w
      → (u' w' : ℕ) → HasRow G u e.pred u' → HasRow G w e.pred w' → ArePairedExcept G Q skipped depth e.to u' w' → ArePaired G Q depth e.to u' w'
  led_forth skipped depth place s u w e may at from here u' w' row_u row_w h = unskipped skipped depth place e.to u' w' e may at
      (λ ends. (
        (λ same. absurd (ends same)),
        (λ same. (u, w, subst (λ r. PairedHere G Q r u w) (sym from) here, row_u, row_w)),
      )) h

  pub led_back : (skipped : Option ℕ) (depth place s u w : ℕ) (e : Edge) → MaySkip skipped depth place e → slice_get Q.edges place ≡ Some e → e.to ≡ s → PairedHere G Q s u w
      → (u' w' : ℕ) → HasRow G u' e.pred u → HasRow G w' e.pred w → ArePairedExcept G Q skipped depth e.from u' w' → ArePaired G Q depth e.from u' w'
  led_back skipped depth place s u w e may at to here u' w' row_u row_w h = unskipped skipped depth place e.from u' w' e may at
      (λ ends. (
        (λ same. (u, w, subst (λ r. PairedHere G Q r u w) (sym to) here, row_u, row_w)),
        (λ same. absurd (ends (sym same))),
      )) h

  -- numbers that rows lead to, as a list has them
  pub have_paired_rows : (R S : ℕ → Type 0) (us ws : List ℕ) → ((o : ℕ) → Contains us o ↔ R o) → ((o : ℕ) → Contains ws o ↔ S o) → (skipped : Option ℕ) (d s : ℕ)
      → ((u w : ℕ) → R u → S w → ArePairedExcept G Q skipped d s u w → ArePaired G Q d s u w)
      → HavePaired G Q skipped d s us ws ↔ ((u w : ℕ) × ArePaired G Q d s u w × R u × S w)
  have_paired_rows R S us ws left right skipped d s led = (
    (λ h.
        let row_u = (left h.left).0 h.in_left in
        let row_w = (right h.right).0 h.in_right in
        (h.left, h.right, led h.left h.right row_u row_w h.paired, row_u, row_w)),
    (λ r. record { left = r.0; right = r.1; in_left = (left r.0).1 r.3; in_right = (right r.1).1 r.4; paired = except_any skipped d s r.0 r.1 r.2 }),
  )

  -- what is paired at a value variable or a constant is one number
  pub same_value : (skipped : Option ℕ) (d s u w : ℕ) → slice_get Q.slots s ≡ Some Value → ArePairedExcept G Q skipped d s u w → u ≡ w
  same_value skipped d s u w at h = (h.here Value at).2

  pub same_constant : (skipped : Option ℕ) (d s u w c : ℕ) → slice_get Q.slots s ≡ Some (Fixed c) → ArePairedExcept G Q skipped d s u w → u ≡ w
  same_constant skipped d s u w c at h = (h.here (Fixed c) at).2

  -- where the two are one number, both lists have it
  pub common_name : (skipped : Option ℕ) (d s : ℕ) (us ws : List ℕ) → ((u w : ℕ) → ArePairedExcept G Q skipped d s u w → u ≡ w)
      → HaveCommon G Q skipped d s us ws ↔ HavePaired G Q skipped d s us ws
  common_name skipped d s us ws one = (
    (λ m. record { left = m.number; right = m.number; in_left = m.in_left; in_right = m.in_right; paired = m.paired }),
    (λ h. record {
      number = h.left;
      in_left = h.in_left;
      in_right = subst (λ n. Contains ws n) (sym (one h.left h.right h.paired)) h.in_right;
      paired = left_alone skipped d s h.left h.right h.paired;
    }),
  )

  -- where no edge is asked, at a value variable a literal of both lists is all that is asked
  pub shared_literal : (skipped : Option ℕ) (d s : ℕ) (us ws : List ℕ) → slice_get Q.slots s ≡ Some Value → IsLeaf Q skipped d s
      → ((l : ℕ) × Contains us l × Contains ws l × IsLiteral G l) ↔ HavePaired G Q skipped d s us ws
  shared_literal skipped d s us ws at leaf = (
    (λ h.
        let here : PairedHere G Q s h.0 h.0 = λ slot there. (let same = some_same Value slot (sym at ∙ there) in subst (λ (x : Slot). FitsSlot G x h.0 × FitsSlot G x h.0 × GoTogether G x h.0 h.0) same (h.3, h.3, refl)) in
        record { left = h.0; right = h.0; in_left = h.1; in_right = h.2; paired = leaf G h.0 h.0 here }),
    (λ h.
        let x = h.paired.here Value at in
        (h.left, h.in_left, subst (λ n. Contains ws n) (sym x.2) h.in_right, x.0)),
  )

  -- two that are paired share a value along an edge to a value variable that is not skipped
  pub shares_value : (skipped : Option ℕ) (depth d s u w : ℕ) → depth ≡ suc d → (e : Edge) → IsValueEdge Q skipped s e → ArePairedExcept G Q skipped depth s u w
      → (l : ℕ) × HasRow G u e.pred l × HasRow G w e.pred l
  shares_value skipped depth d s u w is e value h =
      let r = (h.along d value.place e is value.asked value.edge).0 value.from in
      let same = (here_of d e.to r.0 r.1 r.2 Value value.to).2 in
      (r.0, r.3, subst (λ l. HasRow G w e.pred l) (sym same) r.4)

-- an element of one number more is among the ones before, or that number
pub contains_more : (xs : List ℕ) (i x : ℕ) → i < length xs → Contains (take (i + 1) xs) x → Contains (take i xs) x ⊎ (get_or xs i 0 ≡ x)
contains_more xs i x h c = Contains-push_cases (take i xs) (get_or xs i 0) x (rw (take_more xs i 0 h) at c)
