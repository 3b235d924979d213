-- What a key looks at is near.
use Rattle.std.proofs.Common.{List, [], ◌∷◌, ℕ, zero, suc, Bool, true, false, Option, Some, None, All, Any, Contains, slice_get, slice_index, length, ◌≡◌, ◌↔◌, ◌<◌, ◌≤◌, ◌⊎◌, inl, inr, ◌==◌, ◌||◌, IsTrue, IsSomeAnd, refl, sym, ◌∙◌, ap, subst, arith, eqb-true, true≢false}
use Rattle.std.specs.List.{list_any}
use Rattle.std.proofs.lemmas.Bool.{or_cases, or_left, and_parts, cases_Bool, cases_eq}
use Rattle.std.proofs.lemmas.List.Folds.{Any-from_list_any}
use Rattle.std.proofs.lemmas.Option.{slice_get_within, get_or_from_slice_get}
use Rattle.chase_laws.specs.declared.pattern.Slot.{Slot}
use Rattle.chase_laws.specs.declared.pattern.Slot.TheVariants.{Entity, Any as AnyOf, Value, Folded, Fixed}
use Rattle.chase_laws.specs.declared.pattern.Edge.{Edge}
use Rattle.chase_laws.specs.Shape.{Shape, touches, marks, reached, IsPattern}
use Rattle.chase_laws.proofs.Patterns.{pattern_facts, marked, get_or-map_range}
use Rattle.chase_laws.specs.Graph.{NumberedGraph, HasRow, HasType, IsEntity, IsLiteral}
use Rattle.chase_laws.specs.Valuation.{IsValuation, FitsSlot, FitsAt, AgreeAt, Matches}
use Rattle.chase_laws.specs.Near.{edge_of, StandsAt, IsNear}

past : (p : ℕ → Bool) (n m : ℕ) → p n ≡ false → p m ≡ true → n ≤ m → suc n ≤ m
past p n m h k le = elim (cases_eq m n) [
  | inl e ↦ absurd (true≢false (sym k ∙ (ap p e ∙ h)))
  | inr ne ↦ omega arith
]

-- the least number that passes a test
least_upto : (p : ℕ → Bool) (n : ℕ) → ((r : ℕ) × (r < n) × (p r ≡ true) × ((m : ℕ) → p m ≡ true → r ≤ m)) ⊎ ((m : ℕ) → p m ≡ true → n ≤ m)
least_upto p zero = inr (λ m h. omega arith)
least_upto p (suc n) = elim (least_upto p n) [
  | inl r ↦ inl (r.0, omega (arith, r.1), r.2, r.3)
  | inr none ↦ elim (cases_Bool (p n)) [
    | inl h ↦ inl (n, omega arith, h, none)
    | inr h ↦ inr (λ m k. past p n m h k (none m k))
  ]
]

pub least : (p : ℕ → Bool) (n : ℕ) → p n ≡ true → (r : ℕ) × (p r ≡ true) × ((m : ℕ) → p m ≡ true → r ≤ m)
least p n h = elim (least_upto p (suc n)) [
  | inl r ↦ (r.0, r.2, r.3)
  | inr none ↦ absurd (let k : suc n ≤ n = none n h in omega arith)
]

-- ---- how far slots are

reached_within : (Q : Shape) (n s : ℕ) → reached Q n s ≡ true → s < length Q.slots
reached_within Q zero s h = (marked (λ t. t == 0) (length Q.slots) s h).0
reached_within Q (suc n) s h = (marked (λ t. reached Q n t || list_any (touches (marks Q n) t) Q.edges) (length Q.slots) s h).0

-- what one edge more reaches
pub reached_next : (Q : Shape) (n s : ℕ) → s < length Q.slots → (reached Q n s || list_any (touches (marks Q n) s) Q.edges) ≡ true → reached Q (suc n) s ≡ true
reached_next Q n s within h =
    let f : ℕ → Bool = λ t. reached Q n t || list_any (touches (marks Q n) t) Q.edges in
    get_or-map_range f 0 (length Q.slots) s false within ∙ ap f (omega arith) ∙ h

-- what fewer edges reach
pub reached_later : (Q : Shape) (m n s : ℕ) → m ≤ n → reached Q m s ≡ true → reached Q n s ≡ true
reached_later Q m zero s le h = let e : m ≡ 0 = omega arith in subst (λ k. reached Q k s ≡ true) e h
reached_later Q m (suc n) s le h = elim (cases_eq m (suc n)) [
  | inl e ↦ subst (λ k. reached Q k s ≡ true) e h
  | inr d ↦ reached_next Q n s (reached_within Q m s h) (or_left (reached Q n s) (list_any (touches (marks Q n) s) Q.edges) (reached_later Q m n s (omega arith) h))
]

-- ---- what stands at a slot

slot_at : (xs : List Slot) (s : ℕ) → s < length xs → (slot : Slot) × (slice_get xs s ≡ Some slot)
slot_at [] s h = absurd (omega arith)
slot_at (x ∷ xs) zero h = (x, refl)
slot_at (x ∷ xs) (suc s) h = slot_at xs s (omega arith)

image_fits : (G : NumberedGraph) (Q : Shape) (v : List ℕ) → IsValuation G Q v → (s : ℕ) → s < length Q.slots → FitsAt G Q s (slice_index v s)
image_fits G Q v fits s within = let slot = slot_at Q.slots s within in (slot.0, slot.1, fits.kinds s slot.0 slot.1)

-- what stands at a slot fits it
pub stands_fit : (G : NumberedGraph) (Q : Shape) (e d s n : ℕ) → StandsAt G Q e d s n → FitsAt G Q s n
stands_fit G Q e zero s n h = subst (λ t. FitsAt G Q t n) (sym h.0) (subst (λ m. FitsAt G Q 0 m) (sym h.1) h.2)
stands_fit G Q e (suc d) s n h = h.1

-- an edge and the images of its ends
image_linked : (G : NumberedGraph) (Q : Shape) (v : List ℕ) → IsValuation G Q v → (e : Edge) → Contains Q.edges e → HasRow G (slice_index v e.from) e.pred (slice_index v e.to)
image_linked G Q v fits e at = subst (λ (f : Edge). HasRow G (slice_index v f.from) f.pred (slice_index v f.to)) at.2 (fits.edges at.0 e at.1)

-- one edge more
image_step : (G : NumberedGraph) (Q : Shape) (v : List ℕ) → IsValuation G Q v → (n s : ℕ) → s < length Q.slots → reached Q n s ≡ false →
    ((u : ℕ) → reached Q n u ≡ true → (d : ℕ) × (d ≤ n) × StandsAt G Q (slice_index v 0) d u (slice_index v u)) →
    Any (λ e. touches (marks Q n) s e ≡ true) Q.edges → (d : ℕ) × (d ≤ suc n) × StandsAt G Q (slice_index v 0) d s (slice_index v s)
image_step G Q v fits n s within far before a =
    let e : Edge = a.1 in
    let at : Contains Q.edges e = (a.0, a.2, a.3) in
    let row = image_linked G Q v fits e at in
    let apart : (d : ℕ) → d ≤ n → reached Q d s ≡ true → ⊥ = λ d le h. true≢false (sym (reached_later Q d n s le h) ∙ far) in
    elim (or_cases _ _ a.4) [
      | inl h ↦
          let p = and_parts _ _ h in
          let same : e.to ≡ s = eqb-true e.to s p.0 in
          let near = before e.from p.1 in
          let edge : Contains Q.edges (edge_of e.from e.pred s) = subst (λ u. Contains Q.edges (edge_of e.from e.pred u)) same at in (
            suc near.0,
            omega (arith, near.1),
            (
              apart near.0 near.1,
              image_fits G Q v fits s within,
              (e.from, slice_index v e.from, near.2, (e.pred, inl (edge, subst (λ u. HasRow G (slice_index v e.from) e.pred (slice_index v u)) same row))),
            ),
          )
      | inr h ↦
          let p = and_parts _ _ h in
          let same : e.from ≡ s = eqb-true e.from s p.0 in
          let near = before e.to p.1 in
          let edge : Contains Q.edges (edge_of s e.pred e.to) = subst (λ u. Contains Q.edges (edge_of u e.pred e.to)) same at in (
            suc near.0,
            omega (arith, near.1),
            (
              apart near.0 near.1,
              image_fits G Q v fits s within,
              (e.to, slice_index v e.to, near.2, (e.pred, inr (edge, subst (λ u. HasRow G (slice_index v u) e.pred (slice_index v e.to)) same row))),
            ),
          )
    ]

-- the image of each slot that is reached stands there
image_reached : (G : NumberedGraph) (Q : Shape) (v : List ℕ) → IsValuation G Q v → (n s : ℕ) → reached Q n s ≡ true →
    (d : ℕ) × (d ≤ n) × StandsAt G Q (slice_index v 0) d s (slice_index v s)
image_reached G Q v fits zero s h =
    let m = marked (λ t. t == 0) (length Q.slots) s h in
    let same : s ≡ 0 = eqb-true s 0 m.1 in
    (0, omega arith, (same, ap (slice_index v) same, image_fits G Q v fits 0 (omega (arith, m.0))))
image_reached G Q v fits (suc n) s h =
    let m = marked (λ t. reached Q n t || list_any (touches (marks Q n) t) Q.edges) (length Q.slots) s h in
    elim (cases_Bool (reached Q n s)) [
      | inl k ↦ let r = image_reached G Q v fits n s k in (r.0, omega (arith, r.1), r.2)
      | inr k ↦ elim (or_cases _ _ m.1) [
        | inl y ↦ absurd (true≢false (sym y ∙ k))
        | inr y ↦ image_step G Q v fits n s m.0 k (image_reached G Q v fits n) (Any-from_list_any _ Q.edges y)
      ]
    ]

-- a number with a type stands in a row
entity_from_type : (G : NumberedGraph) (n t : ℕ) → ¬ (IsLiteral G n) → HasType G n t → IsEntity G n
entity_from_type G n t other h = (other, go G.rdf_type h)
  where
    go : (o : Option ℕ) → IsSomeAnd o (λ p. HasRow G n p t) → (s p o : ℕ) × HasRow G s p o × ((n ≡ s) ⊎ (n ≡ o))
    go None h = elim h [ ]
    go (Some p) h = (n, p, t, h, inl refl)

-- what is near is an entity
pub near_entity : (G : NumberedGraph) (K : List Shape) (e n : ℕ) → IsNear G K e n → IsEntity G n
near_entity G K e n h =
    let r = h.reach in
    let f = stands_fit G h.pattern e r.distance r.slot n r.stands in
    let same : f.0 ≡ Entity r.type_of = let both : Some f.0 ≡ Some (Entity r.type_of) = sym f.1 ∙ r.is in (cc) in
    let kind : FitsSlot G (Entity r.type_of) n = subst (λ slot. FitsSlot G slot n) same f.2 in
    entity_from_type G n r.type_of kind.0 kind.1

-- the number at an entity slot is near to the one at slot 0
pub image_near : (G : NumberedGraph) (K : List Shape) → All IsPattern K → (key : ℕ) (Q : Shape) (v : List ℕ) (s t : ℕ) →
    slice_get K key ≡ Some Q → IsValuation G Q v → slice_get Q.slots s ≡ Some (Entity t) → IsNear G K (slice_index v 0) (slice_index v s)
image_near G K valid key Q v s t at fits slot =
    let ok : IsPattern Q = subst IsPattern (get_or_from_slice_get K key Q Q at) (valid key Q (slice_get_within K key Q at)) in
    let r = image_reached G Q v fits (length Q.slots) s ((pattern_facts Q ok).connected s (slice_get_within Q.slots s (Entity t) slot)) in
    record {
      key = key;
      pattern = Q;
      found = at;
      reach = record { slot = s; type_of = t; is = slot; distance = r.0; stands = r.2 };
    }

-- what two lists that fit need of a sameness is about near numbers
AgreeAt-local : (G : NumberedGraph) (K : List Shape) → All IsPattern K → (key : ℕ) (Q : Shape) (p q : ℕ → ℕ → Bool) (v w : List ℕ) →
    slice_get K key ≡ Some Q → IsValuation G Q v → IsValuation G Q w →
    ((m n : ℕ) → IsNear G K (slice_index v 0) m → IsNear G K (slice_index w 0) n → IsTrue (p m n) → IsTrue (q m n)) →
    (s : ℕ) (slot : Slot) → slice_get Q.slots s ≡ Some slot → AgreeAt G p s slot (slice_index v s) (slice_index w s) → AgreeAt G q s slot (slice_index v s) (slice_index w s)
AgreeAt-local G K valid key Q p q v w at left right u s (Entity t) k h =
    λ o. u (slice_index v s) (slice_index w s) (image_near G K valid key Q v s t at left k) (image_near G K valid key Q w s t at right k) (h o)
AgreeAt-local G K valid key Q p q v w at left right u s (AnyOf t) k h = tt
AgreeAt-local G K valid key Q p q v w at left right u s Value k h = h
AgreeAt-local G K valid key Q p q v w at left right u s Folded k h = h
AgreeAt-local G K valid key Q p q v w at left right u s (Fixed c) k h = tt

-- so a sameness may be changed where nothing is near
pub Matches-local : (G : NumberedGraph) (K : List Shape) → All IsPattern K → (p q : ℕ → ℕ → Bool) (a b : ℕ) →
    ((m n : ℕ) → IsNear G K a m → IsNear G K b n → IsTrue (p m n) → IsTrue (q m n)) → Matches G K p a b → Matches G K q a b
Matches-local G K valid p q a b u h =
    let x = h.witness in
    let near : (m n : ℕ) → IsNear G K (slice_index h.left 0) m → IsNear G K (slice_index h.right 0) n → IsTrue (p m n) → IsTrue (q m n) =
    λ m n i j. u m n (subst (λ c. IsNear G K c m) x.at_a i) (subst (λ c. IsNear G K c n) x.at_b j) in
    record {
      key = h.key;
      pattern = h.pattern;
      found = h.found;
      left = h.left;
      right = h.right;
      witness = record {
        left = x.left;
        right = x.right;
        at_a = x.at_a;
        at_b = x.at_b;
        coincide = λ s slot k. AgreeAt-local G K valid h.key h.pattern p q h.left h.right h.found x.left x.right near s slot k (x.coincide s slot k);
      };
    }

-- the same for two samenesses that agree
pub Matches-same : (G : NumberedGraph) (K : List Shape) → All IsPattern K → (p q : ℕ → ℕ → Bool) (a b : ℕ) →
    ((m n : ℕ) → IsNear G K a m → IsNear G K b n → p m n ≡ q m n) → Matches G K p a b ↔ Matches G K q a b
Matches-same G K valid p q a b e =
    (Matches-local G K valid p q a b (λ m n i j h. sym (e m n i j) ∙ h), Matches-local G K valid q p a b (λ m n i j h. e m n i j ∙ h))
