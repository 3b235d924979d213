-- What a walk along legs finds.
use Rattle.std.proofs.Common.{List, [], ◌∷◌, ◌++◌, ℕ, zero, suc, Some, Contains, length, get_or, slice_get, ◌≡◌, ◌<◌, ◌⊎◌, ◌↔◌, inl, inr, IsTrue, refl, sym, ◌∙◌, ap, subst, arith}
use Rattle.std.proofs.lemmas.Bool.{cases_lt}
use Rattle.std.proofs.lemmas.List.{get_or_append_left, get_or_push, length_push}
use Rattle.std.proofs.lemmas.Option.{slice_get-get_or, slice_get_within, get_or_from_slice_get}
use Rattle.chase_laws.specs.declared.pattern.Slot.{Slot}
use Rattle.chase_laws.specs.declared.pattern.Slot.TheVariants.{Entity, Any as AnyOf, Value, Folded, Fixed}
use Rattle.chase_laws.specs.Shape.{Shape, is_entity}
use Rattle.chase_laws.specs.Graph.{NumberedGraph}
use Rattle.chase_laws.specs.Valuation.{FitsSlot, Designates}
use Rattle.chase_laws.specs.Near.{StandsAt, IsInReach, IsNear}
use Rattle.near_lists.specs.declared.legs.Leg.{Leg}
use Rattle.near_lists.specs.Adding.{Adds}
use Rattle.list_pool.specs.Pool.{list_at}
use Rattle.near_lists.specs.Legs.{IsLeg, AreLegs}
use Rattle.near_lists.specs.Walks.{Leads, Brings, IsFound}
use Rattle.near_lists.proofs.Adding.{Below, adds_same}
use Rattle.near_lists.proofs.Nearness.{listed}
use Rattle.near_lists.proofs.Reaching.{IsUseful, brought_stands, stands_brought}

-- what the list of leg k leads to, if that leg leads to where a leg begins
abbrev pub LedFrom : NumberedGraph → List Leg → List (List ℕ) → Leg → ℕ → ℕ → Type 0
LedFrom G legs lists leg k n = (before : Leg) × (slice_get legs k ≡ Some before) × (before.far ≡ leg.near) × ((m : ℕ) × Contains (list_at lists k) m × Leads G leg m n)

pub led_from : (G : NumberedGraph) (legs : List Leg) (lists : List (List ℕ)) (leg : Leg) (k : ℕ) (d : Leg) (xs mid new : List ℕ) → k < length legs → xs ≡ list_at lists k →
    Adds mid new (λ n. ((get_or legs k d).far ≡ leg.near) × ((m : ℕ) × Contains xs m × Leads G leg m n)) → Adds mid new (LedFrom G legs lists leg k)
led_from G legs lists leg k d xs mid new within same adds =
    let x = get_or legs k d in
    adds_same mid new (λ n. (x.far ≡ leg.near) × ((m : ℕ) × Contains xs m × Leads G leg m n)) (LedFrom G legs lists leg k)
    (λ n. (
      (λ h. (x, slice_get-get_or legs k d within, h.0, (h.1.0, subst (λ (ys : List ℕ). Contains ys h.1.0) same h.1.1, h.1.2))),
      (λ h.
          let is : h.0 ≡ x = sym (get_or_from_slice_get legs k h.0 d h.1) in
          (subst (λ (l : Leg). l.far ≡ leg.near) is h.2, (h.3.0, subst (λ (ys : List ℕ). Contains ys h.3.0) (sym same) h.3.1, h.3.2))),
    )) adds

-- one leg more
found_more : (G : NumberedGraph) (legs : List Leg) (lists : List (List ℕ)) (e k : ℕ) (leg : Leg) (xs : List ℕ) → length lists ≡ k → slice_get legs k ≡ Some leg →
    ((s n : ℕ) → IsFound legs lists e s n ↔ Brings G legs e k s n) → ((n : ℕ) → Contains xs n ↔ ((m : ℕ) × IsFound legs lists e leg.near m × Leads G leg m n)) →
    (s n : ℕ) → IsFound legs (lists ++ xs ∷ []) e s n ↔ Brings G legs e (suc k) s n
found_more G legs lists e k leg xs long at before here s n =
    let new = lists ++ xs ∷ [] in
    let left : (j : ℕ) → j < k → list_at new j ≡ list_at lists j = λ j lt. get_or_append_left lists (xs ∷ []) [] j (omega arith) in
    let last : list_at new k ≡ xs = get_or_push lists xs [] k long in (
      (λ h. elim h [
        | inl b ↦ inl ((before s n).0 (inl b))
        | inr b ↦ elim (cases_lt b.0 k) [
          | inl lt ↦ inl ((before s n).0 (inr (b.0, b.1, b.2, b.3, subst (λ (ys : List ℕ). Contains ys n) (left b.0 lt) b.4)))
          | inr ge ↦
              (let within : b.0 < length new = listed new b.0 n b.4 in
              let more = length_push lists xs in
              let same : b.0 ≡ k = omega arith in
              let is : b.1 ≡ leg = (let both : Some b.1 ≡ Some leg = sym b.2 ∙ ap (slice_get legs) same ∙ at in cc) in
              let in_xs : Contains xs n = subst (λ (ys : List ℕ). Contains ys n) (ap (list_at new) same ∙ last) b.4 in
              let led = (here n).0 in_xs in
              inr (leg, at, subst (λ (l : Leg). l.far ≡ s) is b.3, (led.0, (before leg.near led.0).0 led.1, led.2)))
        ]
      ]),
      (λ h. elim h [
        | inl b ↦ elim ((before s n).1 b) [
          | inl r ↦ inl r
          | inr r ↦ (let lt = listed lists r.0 n r.4 in inr (r.0, r.1, r.2, r.3, subst (λ (ys : List ℕ). Contains ys n) (sym (left r.0 (omega arith))) r.4))
        ]
        | inr b ↦
            (let is : b.0 ≡ leg = (let both : Some b.0 ≡ Some leg = sym b.1 ∙ at in cc) in
            let led : (m : ℕ) × IsFound legs lists e leg.near m × Leads G leg m n =
            (b.3.0, (before leg.near b.3.0).1 (subst (λ (l : Leg). Brings G legs e k l.near b.3.0) is b.3.1), subst (λ (l : Leg). Leads G l b.3.0 n) is b.3.2) in
            inr (k, b.0, b.1, b.2, subst (λ (ys : List ℕ). Contains ys n) (sym last) ((here n).1 led)))
      ]),
    )

pub found_at : (G : NumberedGraph) (legs : List Leg) (lists : List (List ℕ)) (e k : ℕ) (d : Leg) (xs ys : List ℕ) → length lists ≡ k → k < length legs → xs ≡ ys →
    ((s n : ℕ) → IsFound legs lists e s n ↔ Brings G legs e k s n) → ((n : ℕ) → Contains ys n ↔ ((m : ℕ) × IsFound legs lists e (get_or legs k d).near m × Leads G (get_or legs k d) m n)) →
    (s n : ℕ) → IsFound legs (lists ++ xs ∷ []) e s n ↔ Brings G legs e (suc k) s n
found_at G legs lists e k d xs ys long within same before here =
    found_more G legs lists e k (get_or legs k d) xs long (slice_get-get_or legs k d within) before
    (λ n. subst (λ (zs : List ℕ). Contains zs n ↔ ((m : ℕ) × IsFound legs lists e (get_or legs k d).near m × Leads G (get_or legs k d) m n)) (sym same) (here n))

-- no list is made yet
pub found_none : (legs : List Leg) (e s n : ℕ) → IsFound legs [] e s n ↔ ((s ≡ 0) × (n ≡ e))
found_none legs e s n = (
  (λ h. elim h [ inl b ↦ b | inr b ↦ absurd (let lt = listed [] b.0 n b.4 in omega arith) ]),
  (λ b. inl b),
)

-- ---- entity variables

-- what stands in the list of leg k, if that one leads to an entity variable
abbrev pub EntityFrom : List Leg → List (List ℕ) → ℕ → ℕ → Type 0
EntityFrom legs lists k n = (leg : Leg) × (slice_get legs k ≡ Some leg) × IsTrue (is_entity (Some leg.slot)) × Contains (list_at lists k) n

pub entity_from : (legs : List Leg) (lists : List (List ℕ)) (k : ℕ) (d : Leg) (xs mid new : List ℕ) → k < length legs → xs ≡ list_at lists k →
    Adds mid new (λ n. IsTrue (is_entity (Some (get_or legs k d).slot)) × Contains xs n) → Adds mid new (EntityFrom legs lists k)
entity_from legs lists k d xs mid new within same adds =
    let x = get_or legs k d in
    adds_same mid new (λ n. IsTrue (is_entity (Some x.slot)) × Contains xs n) (EntityFrom legs lists k)
    (λ n. (
      (λ h. (x, slice_get-get_or legs k d within, h.0, subst (λ (ys : List ℕ). Contains ys n) same h.1)),
      (λ h.
          let is : h.0 ≡ x = sym (get_or_from_slice_get legs k h.0 d h.1) in
          (subst (λ (l : Leg). IsTrue (is_entity (Some l.slot))) is h.2, subst (λ (ys : List ℕ). Contains ys n) (sym same) h.3)),
    )) adds

slot_entity : (s : Slot) → IsTrue (is_entity (Some s)) → (t : ℕ) × (s ≡ Entity t)
slot_entity (Entity t) h = (t, refl)
slot_entity (AnyOf t) h = absurd (cc)
slot_entity Value h = absurd (cc)
slot_entity Folded h = absurd (cc)
slot_entity (Fixed c) h = absurd (cc)

-- what stands anywhere, e fits slot 0
stands_start : (G : NumberedGraph) (Q : Shape) (e d s n : ℕ) → StandsAt G Q e d s n → Designates G Q e
stands_start G Q e zero s n h = h.2
stands_start G Q e (suc d) s n h = stands_start G Q e d h.2.0 h.2.1 h.2.2

-- where e does not fit slot 0, nothing is in reach
pub none_in_reach : (G : NumberedGraph) (Q : Shape) (e t n : ℕ) → slice_get Q.slots 0 ≡ Some (Entity t) → ¬ (FitsSlot G (Entity t) e) → ¬ (IsInReach G Q e n)
none_in_reach G Q e t n first misfit h =
    let fits = stands_start G Q e h.distance h.slot n h.stands in
    let same : fits.0 ≡ Entity t = (let both : Some fits.0 ≡ Some (Entity t) = sym fits.1 ∙ first in cc) in
    misfit (subst (λ slot. FitsSlot G slot e) same fits.2)

-- e itself, and the lists of the legs to entity variables, are what is in reach
pub in_reach : (G : NumberedGraph) (Q : Shape) (legs : List Leg) (lists : List (List ℕ)) (e t n : ℕ) → AreLegs Q legs → slice_get Q.slots 0 ≡ Some (Entity t) → FitsSlot G (Entity t) e →
    ((s m : ℕ) → IsFound legs lists e s m ↔ Brings G legs e (length legs) s m) →
    ((e ≡ n) ⊎ ((k : ℕ) × EntityFrom legs lists k n)) ↔ IsInReach G Q e n
in_reach G Q legs lists e t n are first fits exact =
    let is_leg : (k : ℕ) (leg : Leg) → slice_get legs k ≡ Some leg → IsLeg Q leg = λ k leg at. subst (IsLeg Q) (get_or_from_slice_get legs k leg leg at) (are.only k leg (slice_get_within legs k leg at)) in (
      (λ h. elim h [
        | inl same ↦ record { slot = 0; type_of = t; is = first; distance = 0; stands = (refl, sym same, (Entity t, first, fits)) }
        | inr b ↦
            (let leg : Leg = b.1.0 in
            let entity = slot_entity leg.slot b.1.2 in
            let stands = brought_stands G Q legs e are.only (Entity t, first, fits) (length legs) leg.far n ((exact leg.far n).0 (inr (b.0, leg, b.1.1, refl, b.1.3))) in
            record { slot = leg.far; type_of = entity.0; is = (is_leg b.0 leg b.1.1).slot ∙ ap Some entity.1; distance = stands.0; stands = stands.1 })
      ]),
      (λ h.
          let useful : IsUseful Q legs h.slot = inl (ap is_entity h.is) in
          elim ((exact h.slot n).1 (stands_brought G Q legs e are h.distance h.slot n h.stands useful)) [
            | inl b ↦ inl (sym b.1)
            | inr b ↦
                (let leg : Leg = b.1 in
                let at : Some leg.slot ≡ Some (Entity h.type_of) = sym (is_leg b.0 leg b.2).slot ∙ ap (slice_get Q.slots) b.3 ∙ h.is in
                inr (b.0, (leg, b.2, ap is_entity at, b.4)))
          ]),
    )

-- ---- all keys

-- what the key at a place has in reach
abbrev pub ByKey : NumberedGraph → List Shape → ℕ → ℕ → ℕ → Type 0
ByKey G K e k n = (Q : Shape) × (slice_get K k ≡ Some Q) × IsInReach G Q e n

pub by_key : (G : NumberedGraph) (K : List Shape) (e k : ℕ) (Q : Shape) (old new : List ℕ) → slice_get K k ≡ Some Q → Adds old new (IsInReach G Q e) → Adds old new (ByKey G K e k)
by_key G K e k Q old new at adds =
    adds_same old new (IsInReach G Q e) (ByKey G K e k)
    (λ n. (
      (λ h. (Q, at, h)),
      (λ h. let is : h.0 ≡ Q = (let both : Some h.0 ≡ Some Q = sym h.1 ∙ at in cc) in subst (λ (S : Shape). IsInReach G S e n) is h.2),
    )) adds

pub near_by_keys : (G : NumberedGraph) (K : List Shape) (e i n : ℕ) → i ≡ length K → Below (ByKey G K e) i n ↔ IsNear G K e n
near_by_keys G K e i n all = (
  (λ b. let by = b.2 in record { key = b.0; pattern = by.0; found = by.1; reach = by.2 }),
  (λ h. (h.key, (let lt = slice_get_within K h.key h.pattern h.found in omega arith), (h.pattern, h.found, h.reach))),
)
