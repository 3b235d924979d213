-- The legs of a pattern.
use Rattle.std.proofs.Common.{List, [], ◌∷◌, ℕ, zero, suc, Bool, true, false, Some, All, Any, Contains, length, get_or, slice_get, slice_index, ◌≡◌, ◌≢◌, ◌<◌, ◌≤◌, ◌+◌, ◌-◌, ◌⊎◌, ◌↔◌, inl, inr, ◌==◌, ◌&&◌, IsTrue, refl, sym, ◌∙◌, ap, subst, arith, eq-eqb, add-one, true≢false}
use Rattle.std.specs.List.{list_any}
use Rattle.std.proofs.lemmas.Bool.{or_left, or_right, and_from, cases_Bool, cases_eq, cases_lt}
use Rattle.std.proofs.lemmas.List.Folds.{list_any-from_Any}
use Rattle.std.proofs.lemmas.List.Elements.{All-contains, All-cons}
use Rattle.std.proofs.lemmas.Option.{slice_get_within, get_or_from_slice_get, slice_get-get_or}
use Rattle.chase_laws.specs.declared.pattern.Slot.{Slot}
use Rattle.chase_laws.specs.declared.pattern.Edge.{Edge}
use Rattle.chase_laws.specs.Shape.{Shape, PatternFacts, touches, marks, reached}
use Rattle.chase_laws.specs.Near.{edge_of}
use Rattle.chase_laws.proofs.CallerLemmas.{reached_next, reached_later}
use Rattle.key_plan.specs.Distance.{IsDistance, AreDistances}
use Rattle.near_lists.specs.declared.legs.Leg.{Leg}
use Rattle.near_lists.specs.Legs.{edge_by, edge_along, IsAtLevel, IsLegAt, IsLegOf, RiseTo, IsLeg, LeadsOn, AreOrdered, AreAllLegs, AreUseful, AreLegs}
use Rattle.near_lists.specs.Adding.{Adds}
use Rattle.near_lists.proofs.Adding.{Below, adds_same, adds_to_none}

-- ---- distances

pub one_distance : (Q : Shape) (s d e : ℕ) → IsDistance Q s d → IsDistance Q s e → d ≡ e
one_distance Q s d e i j = let k = i.least e j.within in let l = j.least d i.within in omega arith

-- an edge leads one further
pub edge_reaches : (Q : Shape) (forward : Bool) (near pred far n : ℕ) → Contains Q.edges (edge_by forward near pred far) → far < length Q.slots → reached Q n near ≡ true → reached Q (suc n) far ≡ true
edge_reaches Q true near pred far n at within h =
    reached_next Q n far within (or_right (reached Q n far) (list_any (touches (marks Q n) far) Q.edges) (list_any-from_Any (touches (marks Q n) far) Q.edges
    (at.0, edge_of near pred far, at.1, at.2, or_left (far == far && reached Q n near) (near == far && reached Q n far) (and_from (far == far) (reached Q n near) (eq-eqb far far refl) h))))
edge_reaches Q false near pred far n at within h =
    reached_next Q n far within (or_right (reached Q n far) (list_any (touches (marks Q n) far) Q.edges) (list_any-from_Any (touches (marks Q n) far) Q.edges
    (at.0, edge_of far pred near, at.1, at.2, or_right (near == far && reached Q n far) (far == far && reached Q n near) (and_from (far == far) (reached Q n near) (eq-eqb far far refl) h))))

-- a slot that one edge more reaches first
pub next_distance : (Q : Shape) (d s : ℕ) → reached Q (suc d) s ≡ true → ¬ (IsTrue (reached Q d s)) → IsDistance Q s (suc d)
next_distance Q d s within far = record {
  within = within;
  least = λ n h. elim (cases_lt d n) [ inl lt ↦ omega arith | inr ge ↦ absurd (far (reached_later Q n d s ge h)) ];
}

pub leg_far : (Q : Shape) (leg : Leg) (h : IsLeg Q leg) → IsDistance Q leg.far (suc h.distance)
leg_far Q leg h = next_distance Q h.distance leg.far (edge_reaches Q leg.forward leg.near leg.pred leg.far h.distance h.edge (slice_get_within Q.slots leg.far leg.slot h.slot) h.near.within) h.far

-- ---- all legs

ends_by : (Q : Shape) (forward : Bool) (near pred far : ℕ) → PatternFacts Q → Contains Q.edges (edge_by forward near pred far) → near < length Q.slots
ends_by Q true near pred far facts at = (All-contains (λ (e : Edge). (e.from < length Q.slots) × (e.to < length Q.slots)) Q.edges (edge_of near pred far) facts.ends at).0
ends_by Q false near pred far facts at = (All-contains (λ (e : Edge). (e.from < length Q.slots) × (e.to < length Q.slots)) Q.edges (edge_of far pred near) facts.ends at).1

pub leg_exact : (Q : Shape) (distances : List ℕ) → PatternFacts Q → AreDistances Q distances → (leg : Leg) → Below (IsLegOf Q distances) (length Q.slots) leg ↔ IsLeg Q leg
leg_exact Q distances facts are leg = (
  (λ h.
      let level = h.0 in
      let is : IsLegAt Q.slots distances level h.2.0 leg = h.2.2 in
      let edge : Contains Q.edges (edge_along leg) = subst (Contains Q.edges) (sym is.along) h.2.1 in
      let near = are.each leg.near (ends_by Q leg.forward leg.near leg.pred leg.far facts edge) in
      let far = are.each leg.far (slice_get_within Q.slots leg.far leg.slot is.slot) in
      record {
        edge = edge;
        slot = is.slot;
        distance = level;
        near = subst (IsDistance Q leg.near) is.at.near near;
        far = λ r. let k = far.least level r in let e = is.at.far in omega arith;
      }),
  (λ h.
      let far_in = slice_get_within Q.slots leg.far leg.slot h.slot in
      let near = one_distance Q leg.near (slice_index distances leg.near) h.distance (are.each leg.near (ends_by Q leg.forward leg.near leg.pred leg.far facts h.edge)) h.near in
      let far_is = leg_far Q leg h in
      let far = one_distance Q leg.far (slice_index distances leg.far) (suc h.distance) (are.each leg.far far_in) far_is in
      let most = far_is.least (length Q.slots) (facts.connected leg.far far_in) in
      (h.distance, omega (arith, most), (edge_along leg, h.edge, record { along = refl; at = record { near = near; far = far ∙ sym (add-one h.distance) }; slot = h.slot }))),
)

-- one leg for each edge and direction
leg_is : (slots : List Slot) (f g : Bool) (a p b a' p' b' : ℕ) (s s' : Slot) → edge_by f a p b ≡ edge_by g a' p' b' → f ≡ g → slice_get slots b ≡ Some s → slice_get slots b' ≡ Some s' →
    let l : Leg = record { near = a; pred = p; far = b; slot = s; forward = f } in let m : Leg = record { near = a'; pred = p'; far = b'; slot = s'; forward = g } in l ≡ m
leg_is slots true true a p b a' p' b' s s' e same h k =
    let x : a ≡ a' = ap (λ (d : Edge). d.from) e in
    let y : p ≡ p' = ap (λ (d : Edge). d.pred) e in
    let z : b ≡ b' = ap (λ (d : Edge). d.to) e in
    let w : s ≡ s' = cc in
    cc
leg_is slots true false a p b a' p' b' s s' e same h k = absurd (true≢false same)
leg_is slots false true a p b a' p' b' s s' e same h k = absurd (true≢false (sym same))
leg_is slots false false a p b a' p' b' s s' e same h k =
    let x : b ≡ b' = ap (λ (d : Edge). d.from) e in
    let y : p ≡ p' = ap (λ (d : Edge). d.pred) e in
    let z : a ≡ a' = ap (λ (d : Edge). d.to) e in
    let w : s ≡ s' = cc in
    cc

same_leg : (slots : List Slot) (l m : Leg) → edge_along l ≡ edge_along m → l.forward ≡ m.forward → slice_get slots l.far ≡ Some l.slot → slice_get slots m.far ≡ Some m.slot → l ≡ m
same_leg slots l m = leg_is slots l.forward m.forward l.near l.pred l.far m.near m.pred m.far l.slot m.slot

-- the two legs along an edge are all
pub legs_along : (slots : List Slot) (distances : List ℕ) (level : ℕ) (edge : Edge) (forth back : Leg) → edge_along forth ≡ edge → forth.forward ≡ true → slice_get slots forth.far ≡ Some forth.slot →
    edge_along back ≡ edge → back.forward ≡ false → slice_get slots back.far ≡ Some back.slot →
    (l : Leg) → (((forth ≡ l) × IsAtLevel distances level forth) ⊎ ((back ≡ l) × IsAtLevel distances level back)) ↔ IsLegAt slots distances level edge l
legs_along slots distances level edge forth back forth_on forth_is forth_slot back_on back_is back_slot l = (
  (λ h. elim h [
    | inl k ↦ subst (IsLegAt slots distances level edge) k.0 (record { along = forth_on; at = k.1; slot = forth_slot })
    | inr k ↦ subst (IsLegAt slots distances level edge) k.0 (record { along = back_on; at = k.1; slot = back_slot })
  ]),
  (λ h. elim (cases_Bool l.forward) [
    | inl f ↦ (let e : forth ≡ l = same_leg slots forth l (forth_on ∙ sym h.along) (forth_is ∙ sym f) forth_slot h.slot in inl (e, subst (IsAtLevel distances level) (sym e) h.at))
    | inr b ↦ (let e : back ≡ l = same_leg slots back l (back_on ∙ sym h.along) (back_is ∙ sym b) back_slot h.slot in inr (e, subst (IsAtLevel distances level) (sym e) h.at))
  ]),
)

-- legs that rise to a level rise to the next
pub rise_on : (distances : List ℕ) (level : ℕ) (legs : List Leg) → RiseTo distances level legs → RiseTo distances (level + 1) legs
rise_on distances level legs h = record { next = h.next; below = λ k d lt. let b = h.below k d lt in omega arith; rise = h.rise }

-- legs that rise are in order
pub rising_ordered : (distances : List ℕ) (level : ℕ) (legs : List Leg) → RiseTo distances level legs → AreOrdered legs
rising_ordered distances level legs h i j l m at_i at_j le same =
    let in_i = slice_get_within legs i l at_i in
    let is_i = get_or_from_slice_get legs i l l at_i in
    let is_j = get_or_from_slice_get legs j m l at_j in
    let next : slice_index distances l.far ≡ slice_index distances l.near + 1 = subst (λ (x : Leg). slice_index distances x.far ≡ slice_index distances x.near + 1) is_i (h.next i l in_i) in
    let met : slice_index distances l.far ≡ slice_index distances m.near = ap (slice_index distances) same in
    elim (cases_lt j i) [
      | inl lt ↦
          let rise = subst (λ (x : Leg). slice_index distances x.near ≤ slice_index distances l.near) is_j (subst (λ (y : Leg). slice_index distances (get_or legs j l).near ≤ slice_index distances y.near) is_i (h.rise j i l lt in_i)) in
          omega arith
      | inr ge ↦
          let e : i ≡ j = omega arith in
          let one : l ≡ m = sym is_i ∙ ap (λ k. get_or legs k l) e ∙ is_j in
          let nears : slice_index distances l.near ≡ slice_index distances m.near = ap (λ (x : Leg). slice_index distances x.near) one in
          omega arith
    ]

-- the leg goes along the edge at a place
abbrev pub FromEdge : Shape → List ℕ → ℕ → ℕ → Leg → Type 0
FromEdge Q distances level k leg = (edge : Edge) × (slice_get Q.edges k ≡ Some edge) × IsLegAt Q.slots distances level edge leg

pub from_edge : (Q : Shape) (distances : List ℕ) (level k : ℕ) (d : Edge) (old new : List Leg) → k < length Q.edges → Adds old new (IsLegAt Q.slots distances level (get_or Q.edges k d)) → Adds old new (FromEdge Q distances level k)
from_edge Q distances level k d old new within adds =
    adds_same old new (IsLegAt Q.slots distances level (get_or Q.edges k d)) (FromEdge Q distances level k)
    (λ leg. (
      (λ h. (get_or Q.edges k d, slice_get-get_or Q.edges k d within, h)),
      (λ h. subst (λ (edge : Edge). IsLegAt Q.slots distances level edge leg) (sym (get_or_from_slice_get Q.edges k h.0 d h.1)) h.2),
    )) adds

pub from_edges : (Q : Shape) (distances : List ℕ) (level i : ℕ) (old new : List Leg) → i ≡ length Q.edges → Adds old new (Below (FromEdge Q distances level) i) → Adds old new (IsLegOf Q distances level)
from_edges Q distances level i old new all adds =
    adds_same old new (Below (FromEdge Q distances level) i) (IsLegOf Q distances level)
    (λ leg. (
      (λ h. let at = h.2 in let within = slice_get_within Q.edges h.0 at.0 at.1 in (at.0, (h.0, within, get_or_from_slice_get Q.edges h.0 at.0 at.0 at.1), at.2)),
      (λ h. let c = h.1 in (c.0, omega (arith, c.1), (h.0, slice_get-get_or Q.edges c.0 h.0 c.1 ∙ ap Some c.2, h.2))),
    )) adds

-- ---- legs that lead on

-- of the legs from a place on those that lead on, in order
pub record AreUsefulFrom (all : List Leg) (place : ℕ) (legs : List Leg) : Type 0 where
  pub only : All (λ l. (i : ℕ) × (place ≤ i) × (slice_get all i ≡ Some l)) legs
  pub every : (i : ℕ) (l : Leg) → place ≤ i → slice_get all i ≡ Some l → LeadsOn legs l → Contains legs l
  pub ordered : AreOrdered legs

pub useful_none : (all : List Leg) → AreUsefulFrom all (length all) []
useful_none all = record {
  only = λ k d lt. absurd (omega arith);
  every = λ i l le at. absurd (let lt = slice_get_within all i l at in omega arith);
  ordered = λ i j l m at. absurd (let lt = slice_get_within [] i l at in omega arith);
}

later : (all : List Leg) (p : ℕ) (l : Leg) → (i : ℕ) × (suc p ≤ i) × (slice_get all i ≡ Some l) → (i : ℕ) × (p ≤ i) × (slice_get all i ≡ Some l)
later all p l h = (h.0, omega (arith, h.1), h.2)

keep_ordered : (all legs : List Leg) (p : ℕ) (leg : Leg) → AreOrdered all → slice_get all p ≡ Some leg → All (λ l. (i : ℕ) × (suc p ≤ i) × (slice_get all i ≡ Some l)) legs → AreOrdered legs → AreOrdered (leg ∷ legs)
keep_ordered all legs p leg sorted at only ordered zero zero l m at_i at_j le =
    let i : leg ≡ l = cc in
    let j : leg ≡ m = cc in
    λ e. sorted p p leg leg at at (omega arith) (ap (λ (x : Leg). x.far) i ∙ e ∙ sym (ap (λ (x : Leg). x.near) j))
keep_ordered all legs p leg sorted at only ordered zero (suc j) l m at_i at_j le = absurd (omega arith)
keep_ordered all legs p leg sorted at only ordered (suc i) zero l m at_i at_j le =
    let stands : (k : ℕ) × (suc p ≤ k) × (slice_get all k ≡ Some l) = subst (λ (x : Leg). (k : ℕ) × (suc p ≤ k) × (slice_get all k ≡ Some x)) (get_or_from_slice_get legs i l l at_i) (only i l (slice_get_within legs i l at_i)) in
    let first : leg ≡ m = cc in
    λ e. sorted stands.0 p l leg stands.2 at (omega (arith, stands.1)) (e ∙ sym (ap (λ (x : Leg). x.near) first))
keep_ordered all legs p leg sorted at only ordered (suc i) (suc j) l m at_i at_j le = ordered i j l m at_i at_j (omega arith)

begins_behind : (legs : List Leg) (leg : Leg) (far : ℕ) → (far ≡ leg.near → ⊥) → (k : ℕ) (x : Leg) → k < length (leg ∷ legs) → get_or (leg ∷ legs) k x ≡ x → x.near ≡ far → Any (λ l. l.near ≡ far) legs
begins_behind legs leg far other zero x lt e same = absurd (other (sym same ∙ sym (ap (λ (y : Leg). y.near) e)))
begins_behind legs leg far other (suc k) x lt e same = (k, x, omega arith, e, same)

still_leads : (legs : List Leg) (leg l : Leg) → l.far ≢ leg.near → LeadsOn (leg ∷ legs) l → LeadsOn legs l
still_leads legs leg l other on = elim on [
  | inl e ↦ inl e
  | inr a ↦ inr (begins_behind legs leg l.far other a.0 a.1 a.2 a.3 a.4)
]

pub useful_keep : (all legs : List Leg) (q p : ℕ) (leg : Leg) → AreOrdered all → q ≡ suc p → slice_get all p ≡ Some leg → AreUsefulFrom all q legs → AreUsefulFrom all p (leg ∷ legs)
useful_keep all legs q p leg sorted step at before =
    let h : AreUsefulFrom all (suc p) legs = subst (λ k. AreUsefulFrom all k legs) step before in
    record {
      only = All-cons (λ l. (i : ℕ) × (p ≤ i) × (slice_get all i ≡ Some l)) leg legs (p, omega arith, at) (λ k d lt. later all p (get_or legs k d) (h.only k d lt));
      every = λ i l le at_i on. elim (cases_eq i p) [
        | inl same ↦ (let is : leg ≡ l = (let both : Some leg ≡ Some l = sym at ∙ sym (ap (slice_get all) same) ∙ at_i in cc) in (0, omega arith, is))
        | inr d ↦ (let c = h.every i l (omega arith) at_i (still_leads legs leg l (sorted i p l leg at_i at le) on) in (suc c.0, omega (arith, c.1), c.2))
      ];
      ordered = keep_ordered all legs p leg sorted at h.only h.ordered;
    }

pub useful_skip : (all legs : List Leg) (q p : ℕ) (leg : Leg) → q ≡ suc p → slice_get all p ≡ Some leg → ¬ (LeadsOn legs leg) → AreUsefulFrom all q legs → AreUsefulFrom all p legs
useful_skip all legs q p leg step at off before =
    let h : AreUsefulFrom all (suc p) legs = subst (λ k. AreUsefulFrom all k legs) step before in
    record {
      only = λ k d lt. later all p (get_or legs k d) (h.only k d lt);
      every = λ i l le at_i on. elim (cases_eq i p) [
        | inl same ↦ absurd (let is : l ≡ leg = (let both : Some l ≡ Some leg = sym at_i ∙ ap (slice_get all) same ∙ at in cc) in off (subst (LeadsOn legs) is on))
        | inr d ↦ h.every i l (omega arith) at_i on
      ];
      ordered = h.ordered;
    }

pub useful_all : (all legs : List Leg) (p : ℕ) → p ≡ 0 → AreUsefulFrom all p legs → AreUseful all legs
useful_all all legs p none h = record {
  only = λ k d lt. let at = h.only k d lt in (at.0, slice_get_within all at.0 (get_or legs k d) at.2, get_or_from_slice_get all at.0 (get_or legs k d) (get_or legs k d) at.2);
  every = λ leg c on. h.every c.0 leg (omega arith) (slice_get-get_or all c.0 leg c.1 ∙ ap Some c.2) on;
  ordered = h.ordered;
}

-- those that lead on of all legs of a pattern
pub legs_useful : (Q : Shape) (all legs : List Leg) → AreAllLegs Q all → AreUseful all legs → AreLegs Q legs
legs_useful Q all legs are useful = record {
  only = λ k d lt. (are.exact (get_or legs k d)).0 (useful.only k d lt);
  every = λ leg is on. useful.every leg ((are.exact leg).1 is) on;
  ordered = useful.ordered;
}

-- one place before
abbrev pub LeadsIf : List Leg → Leg → Bool → Type 0
LeadsIf legs leg leads = (IsTrue leads → LeadsOn legs leg) × (LeadsOn legs leg → IsTrue leads)

pub useful_step : (all legs given : List Leg) (place : ℕ) (d : Leg) (leads : Bool) → 0 < place → place ≤ length all → given ≡ legs → leads ≡ false → LeadsIf given (get_or all (place - 1) d) leads →
    AreUsefulFrom all place legs → AreUsefulFrom all (place - 1) legs
useful_step all legs given place d leads some within same off test h =
    let step : place ≡ suc (place - 1) = omega arith in
    let at = slice_get-get_or all (place - 1) d (omega arith) in
    useful_skip all legs place (place - 1) (get_or all (place - 1) d) step at (λ on. true≢false (sym (test.1 (subst (λ (ls : List Leg). LeadsOn ls (get_or all (place - 1) d)) (sym same) on)) ∙ off)) h

pub useful_push : (all legs new : List Leg) (place : ℕ) (d : Leg) → AreOrdered all → 0 < place → place ≤ length all → new ≡ get_or all (place - 1) d ∷ legs → AreUsefulFrom all place legs → AreUsefulFrom all (place - 1) new
useful_push all legs new place d sorted some within same h =
    let step : place ≡ suc (place - 1) = omega arith in
    let at = slice_get-get_or all (place - 1) d (omega arith) in
    subst (AreUsefulFrom all (place - 1)) (sym same) (useful_keep all legs place (place - 1) (get_or all (place - 1) d) sorted step at h)

-- all levels make all legs
pub all_levels : (Q : Shape) (distances : List ℕ) (level i : ℕ) (legs : List Leg) → PatternFacts Q → AreDistances Q distances → i ≡ length Q.slots → Adds [] legs (Below (IsLegOf Q distances) i) → RiseTo distances level legs → AreAllLegs Q legs
all_levels Q distances level i legs facts are all adds rise = record {
  exact = λ leg.
      let here = adds_to_none [] legs (Below (IsLegOf Q distances) (length Q.slots)) refl (subst (λ j. Adds [] legs (Below (IsLegOf Q distances) j)) all adds) leg in
      let is = leg_exact Q distances facts are leg in
      ((λ c. is.0 (here.0 c)), (λ h. here.1 (is.1 h)));
  ordered = rising_ordered distances level legs rise;
}

pub from_edge_at : (Q : Shape) (slots : List Slot) (edges : List Edge) (distances : List ℕ) (level k : ℕ) (d : Edge) (old new : List Leg) → slots ≡ Q.slots → edges ≡ Q.edges → k < length edges →
    Adds old new (IsLegAt slots distances level (get_or edges k d)) → Adds old new (FromEdge Q distances level k)
from_edge_at Q slots edges distances level k d old new same_slots same_edges within adds =
    let long : length edges ≡ length Q.edges = ap length same_edges in
    from_edge Q distances level k d old new (omega arith)
    (subst (λ (es : List Edge). Adds old new (IsLegAt Q.slots distances level (get_or es k d))) same_edges (subst (λ (ss : List Slot). Adds old new (IsLegAt ss distances level (get_or edges k d))) same_slots adds))
