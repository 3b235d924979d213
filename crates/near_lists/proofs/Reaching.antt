-- What the legs of a pattern bring to an entity variable is what stands there.
use Rattle.std.proofs.Common.{List, ℕ, zero, suc, Bool, true, false, Some, All, Any, Contains, length, slice_get, ◌≡◌, ◌≢◌, ◌<◌, ◌≤◌, ◌+◌, ◌⊎◌, inl, inr, IsTrue, refl, sym, ◌∙◌, ap, subst, arith, eq-eqb, ◌==◌}
use Rattle.std.proofs.lemmas.Bool.{cases_eq}
use Rattle.std.proofs.lemmas.Option.{slice_get_within, get_or_from_slice_get, slice_get-get_or}
use Rattle.chase_laws.specs.declared.pattern.Slot.{Slot}
use Rattle.chase_laws.specs.Shape.{Shape, reached, is_entity}
use Rattle.chase_laws.specs.Graph.{NumberedGraph}
use Rattle.chase_laws.specs.Valuation.{Designates}
use Rattle.chase_laws.specs.Near.{AreLinked, StandsAt}
use Rattle.chase_laws.proofs.CallerLemmas.{get_or-map_range}
use Rattle.key_plan.specs.Distance.{IsDistance}
use Rattle.near_lists.specs.declared.legs.Leg.{Leg}
use Rattle.near_lists.specs.Legs.{edge_by, IsLeg, LeadsOn, AreLegs}
use Rattle.near_lists.specs.Walks.{HasRowBy, Brings}
use Rattle.near_lists.proofs.Levels.{one_distance, edge_reaches, next_distance}

-- ---- distances

linked_reaches : (G : NumberedGraph) (Q : Shape) (r m s n d : ℕ) → AreLinked G Q r m s n → s < length Q.slots → reached Q d r ≡ true → reached Q (suc d) s ≡ true
linked_reaches G Q r m s n d h within before = elim h.1 [
  | inl k ↦ edge_reaches Q true r h.0 s d k.0 within before
  | inr k ↦ edge_reaches Q false r h.0 s d k.0 within before
]

-- slot 0 is reached at once
first_reached : (Q : Shape) → 0 < length Q.slots → reached Q 0 0 ≡ true
first_reached Q within = get_or-map_range (λ s. s == 0) 0 (length Q.slots) 0 false within ∙ eq-eqb (0 + 0) 0 (omega arith)

-- a walk to a slot has as many edges as the slot is away
pub stands_distance : (G : NumberedGraph) (Q : Shape) (e d s n : ℕ) → StandsAt G Q e d s n → IsDistance Q s d
stands_distance G Q e zero s n h =
    let within = slice_get_within Q.slots 0 h.2.0 h.2.1 in
    subst (λ t. IsDistance Q t 0) (sym h.0) (record { within = first_reached Q within; least = λ k _. omega arith })
stands_distance G Q e (suc d) s n h =
    let walk = h.2 in
    let before = stands_distance G Q e d walk.0 walk.1 walk.2 in
    next_distance Q d s (linked_reaches G Q walk.0 walk.1 s n d walk.3 (slice_get_within Q.slots s h.1.0 h.1.1) before.within) h.0

-- ---- what is brought stands there

leg_links : (G : NumberedGraph) (Q : Shape) (forward : Bool) (near pred far m n : ℕ) → Contains Q.edges (edge_by forward near pred far) → HasRowBy G forward m pred n → AreLinked G Q near m far n
leg_links G Q true near pred far m n at row = (pred, inl (at, row))
leg_links G Q false near pred far m n at row = (pred, inr (at, row))

pub brought_stands : (G : NumberedGraph) (Q : Shape) (legs : List Leg) (e : ℕ) → All (IsLeg Q) legs → Designates G Q e → (k s n : ℕ) → Brings G legs e k s n → (d : ℕ) × StandsAt G Q e d s n
brought_stands G Q legs e only fits zero s n h = (0, (h.0, h.1, fits))
brought_stands G Q legs e only fits (suc k) s n h = elim h [
  | inl before ↦ brought_stands G Q legs e only fits k s n before
  | inr b ↦
      let leg : Leg = b.0 in
      let step = b.3 in
      let is : IsLeg Q leg = subst (IsLeg Q) (get_or_from_slice_get legs k leg leg b.1) (only k leg (slice_get_within legs k leg b.1)) in
      let before = brought_stands G Q legs e only fits k leg.near step.0 step.1 in
      let same : before.0 ≡ is.distance = one_distance Q leg.near before.0 is.distance (stands_distance G Q e before.0 leg.near step.0 before.1) is.near in
      let there : StandsAt G Q e (suc is.distance) leg.far n =
      (is.far, (leg.slot, is.slot, step.2.0), (leg.near, step.0, subst (λ d. StandsAt G Q e d leg.near step.0) same before.1, leg_links G Q leg.forward leg.near leg.pred leg.far step.0 n is.edge step.2.1)) in
      (suc is.distance, subst (λ t. StandsAt G Q e (suc is.distance) t n) b.2 there)
]

-- ---- what stands is brought

brings_later : (G : NumberedGraph) (legs : List Leg) (e j k s n : ℕ) → j ≤ k → Brings G legs e j s n → Brings G legs e k s n
brings_later G legs e j zero s n le h = let same : j ≡ 0 = omega arith in subst (λ i. Brings G legs e i s n) same h
brings_later G legs e j (suc k) s n le h = elim (cases_eq j (suc k)) [
  | inl same ↦ subst (λ i. Brings G legs e i s n) same h
  | inr d ↦ inl (brings_later G legs e j k s n (omega arith) h)
]

-- where no leg from place j on leads, the first j legs bring all
brings_before : (G : NumberedGraph) (legs : List Leg) (e j k s n : ℕ) → j ≤ k → ((i : ℕ) (l : Leg) → j ≤ i → slice_get legs i ≡ Some l → l.far ≢ s) → Brings G legs e k s n → Brings G legs e j s n
brings_before G legs e j zero s n le none h = let same : 0 ≡ j = omega arith in subst (λ i. Brings G legs e i s n) same h
brings_before G legs e j (suc k) s n le none h = elim (cases_eq j (suc k)) [
  | inl same ↦ subst (λ i. Brings G legs e i s n) (sym same) h
  | inr d ↦ elim h [
    | inl before ↦ brings_before G legs e j k s n (omega arith) none before
    | inr b ↦ absurd (none k b.0 (omega arith) b.1 b.2)
  ]
]

-- an entity variable, or a slot where one of the legs begins
abbrev pub IsUseful : Shape → List Leg → ℕ → Type 0
IsUseful Q legs s = IsTrue (is_entity (slice_get Q.slots s)) ⊎ Any (λ l. l.near ≡ s) legs

-- the leg along an edge that a walk takes
leg_between : (G : NumberedGraph) (Q : Shape) (r m s n : ℕ) (slot : Slot) → AreLinked G Q r m s n →
    (forward : Bool) × (pred : ℕ) × Contains Q.edges (edge_by forward r pred s) × HasRowBy G forward m pred n
leg_between G Q r m s n slot h = elim h.1 [
  | inl k ↦ (true, h.0, k.0, k.1)
  | inr k ↦ (false, h.0, k.0, k.1)
]

pub stands_brought : (G : NumberedGraph) (Q : Shape) (legs : List Leg) (e : ℕ) → AreLegs Q legs → (d s n : ℕ) → StandsAt G Q e d s n → IsUseful Q legs s → Brings G legs e (length legs) s n
stands_brought G Q legs e are zero s n h useful = brings_later G legs e 0 (length legs) s n (omega arith) (h.0, h.1)
stands_brought G Q legs e are (suc d) s n h useful =
    let slot : Slot = h.1.0 in
    let walk = h.2 in
    let r = walk.0 in
    let m = walk.1 in
    let between = leg_between G Q r m s n slot walk.3 in
    let leg : Leg = record { near = r; pred = between.1; far = s; slot = slot; forward = between.0 } in
    let is : IsLeg Q leg = record { edge = between.2; slot = h.1.1; distance = d; near = stands_distance G Q e d r m walk.2; far = h.0 } in
    let on : LeadsOn legs leg = elim useful [
      | inl entity ↦ inl (subst (λ o. IsTrue (is_entity o)) h.1.1 entity)
      | inr begins ↦ inr begins
    ] in
    let at : Contains legs leg = are.every leg is on in
    let j = at.0 in
    let at_j : slice_get legs j ≡ Some leg = slice_get-get_or legs j leg at.1 ∙ ap Some at.2 in
    let before = stands_brought G Q legs e are d r m walk.2 (inr (j, leg, at.1, at.2, refl)) in
    let first = brings_before G legs e j (length legs) r m (omega (arith, at.1)) (λ i l le at_i. are.ordered i j l leg at_i at_j le) before in
    brings_later G legs e (suc j) (length legs) s n (omega (arith, at.1)) (inr (leg, at_j, refl, (m, first, (h.1.2, between.3))))
