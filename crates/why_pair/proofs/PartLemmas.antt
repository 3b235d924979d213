-- The entries that are kept of a journal: what leads between names along it, leads along them.
use Rattle.std.proofs.Common.{List, [], ◌∷◌, ℕ, zero, suc, ◌<◌, Bool, true, nat_eq, Some, option_map, IsTrue, length, map, slice_get, slice_index, get_or, take, ◌≡◌, ◌≢◌, refl, sym, ap, subst, ◌∙◌, arith}
use Rattle.std.proofs.lemmas.Option.{slice_get_within, slice_get-get_or, slice_get-map}
use Rattle.chase_laws.specs.declared.entry.Entry.{Entry}
use Rattle.chase_laws.specs.declared.pattern.Slot.{Slot}
use Rattle.chase_laws.specs.declared.pattern.Slot.TheVariants.{Entity, Any, Value, Folded, Fixed}
use Rattle.chase_laws.specs.Shape.{Shape, PatternFacts}
use Rattle.chase_laws.specs.Graph.{NumberedGraph}
use Rattle.chase_laws.specs.Valuation.{AgreeAt}
use Rattle.chase_laws.specs.Chase.{IsDerivation}
use Rattle.chase_laws.specs.Joined.{joined, joined_by, links}
use Rattle.chase_laws.proofs.CallerLemmas.{Contains-from_slice_get}
use Rattle.proof_file.specs.Leads.{end_along}
use Rattle.proof_graph.specs.Way.{way}
use Rattle.proof_file.specs.Tells.{supported_slots, AreSupported}
use Rattle.proof_graph.specs.Built.{pattern_at}
use Rattle.why_pair.specs.Kept.{IsMarkedAt, kept_by, place_kept}
use Rattle.why_pair.specs.Needed.{AreClosed, way_at}
use Rattle.why_pair.specs.Marking.{MarksFrom}
use Rattle.proof_graph.proofs.CallerLemmas.{fronts, way-end_along}
use Rattle.why_pair.proofs.SlotLemmas.{supported_has}
use Rattle.why_pair.proofs.KeptLemmas.{at_kept, kept_at, place_less}
use Rattle.why_pair.proofs.NeedLemmas.{flat_in, all_links, pattern_is, slot_of, way_below}
use Rattle.why_pair.proofs.LeadLemmas.{led_joined, led_same}

slice-take : {X : Type 0} (xs : List X) (i n : ℕ) → n < i → slice_get (take i xs) n ≡ slice_get xs n
slice-take xs zero n h = absurd (omega arith)
slice-take [] (suc i) n h = refl
slice-take (x ∷ xs) (suc i) zero h = refl
slice-take (x ∷ xs) (suc i) (suc n) h = slice-take xs i n (omega arith)

-- how numbers agree, up to a sameness that has the images at entity variables
agree : (G : NumberedGraph) (same more : ℕ → ℕ → Bool) (s : ℕ) (slot : Slot) (m n : ℕ) → ((t : ℕ) → slot ≡ Entity t → s ≢ 0 → IsTrue (more m n)) → AgreeAt G same s slot m n → AgreeAt G more s slot m n
agree G same more s (Entity t) m n has h = has t refl
agree G same more s (Any t) m n has h = h
agree G same more s Value m n has h = h
agree G same more s Folded m n has h = h
agree G same more s (Fixed c) m n has h = h

-- marks of what a goal needs are closed under need
pub closed_marks : (K : List Shape) (H : List Entry) (goal : List ℕ) (marks : List Bool) → MarksFrom K H goal 0 marks → AreClosed K H marks
closed_marks K H goal marks m p q e at marked need = m.closed p q e (omega arith) at marked need

module _ (names : ℕ) (K : List Shape) (H : List Entry) (sup : AreSupported names K H) (marks : List Bool) (closed : AreClosed K H marks) where
  abbrev pub kept : List Entry
  kept = kept_by marks H

  -- a link that is kept, among those before a place
  pub link_before : (i q : ℕ) → q < length H → IsMarkedAt marks q → place_kept marks q < i → slice_get (links (take i kept)) (place_kept marks q) ≡ slice_get (links H) q
  link_before i q inside marked less =
      let f : Entry → ℕ × ℕ = λ e. (e.a, e.b) in
      let e : Entry = get_or H q (record { a = 0; b = 0; key = 0; left = []; right = [] }) in
      let at : slice_get H q ≡ Some e = slice_get-get_or H q (record { a = 0; b = 0; key = 0; left = []; right = [] }) inside in
      slice_get-map f (take i kept) (place_kept marks q)
      ∙ ap (option_map f) (slice-take kept i (place_kept marks q) less ∙ kept_at marks H q e at marked ∙ sym at)
      ∙ sym (slice_get-map f H q)

  -- what an entry with a mark needs has one
  pub way_marked : (p : ℕ) (e : Entry) → slice_get H p ≡ Some e → IsMarkedAt marks p → (k s : ℕ) → slice_get (supported_slots (pattern_at K e.key).slots) k ≡ Some s →
      (j q : ℕ) → slice_get (way_at H e s) j ≡ Some q → IsMarkedAt marks q × (place_kept marks q < place_kept marks p) × (q < length H)
  way_marked p e at marked k s in_slots j q in_way =
      let o = slot_of names K H sup p e at k s in_slots in
      let c = Contains-from_slice_get (way_at H e s) j q in_way in
      let is = closed q p e at marked (flat_in (way_at H e) (supported_slots (pattern_at K e.key).slots) q k s in_slots c) in
      let before = way_below names K H sup p e at s q o c in
      let inside = slice_get_within H p e at in
      (is, place_less marks q p before is, omega arith)

  -- the way between its images leads along the kept entries before it
  pub kept_leads : (p : ℕ) (e : Entry) (at : slice_get H p ≡ Some e) → IsMarkedAt marks p → (k s : ℕ) → slice_get (supported_slots (pattern_at K e.key).slots) k ≡ Some s →
      end_along nat_eq (links (take (place_kept marks p) kept)) (map (place_kept marks) (way_at H e s)) (Some (slice_index e.left s)) ≡ Some (slice_index e.right s)
  kept_leads p e at marked k s in_slots =
      let x = slice_index e.left s in
      let y = slice_index e.right s in
      let o = slot_of names K H sup p e at k s in_slots in
      let l = slice_get_within H p e at in
      let all = fronts (links H) p (length H) (omega arith) x y o.joined in
      led_same (links H) (links (take (place_kept marks p) kept)) (place_kept marks) (way_at H e s)
      (λ j q in_way. let r = way_marked p e at marked k s in_slots j q in_way in link_before (place_kept marks p) q r.2 r.0 r.1) (Some x)
      ∙ way-end_along (links H) (length H) x y all

  -- so they join them
  pub kept_joined : (i : ℕ) (e : Entry) → slice_get kept i ≡ Some e → (Q : Shape) → slice_get K e.key ≡ Some Q → (s t : ℕ) → slice_get Q.slots s ≡ Some (Entity t) → s ≢ 0 →
      joined (links (take i kept)) (slice_index e.left s) (slice_index e.right s) ≡ true
  kept_joined i e at Q key s t there nonzero =
      let r = at_kept marks H i e at in
      let k = supported_has Q.slots s t there nonzero in
      let in_slots = ap (λ (P : Shape). slice_get (supported_slots P.slots) k.0) (pattern_is K e.key Q key) ∙ k.1 in
      subst (λ n. joined (links (take n kept)) (slice_index e.left s) (slice_index e.right s) ≡ true) r.is
      (led_joined (links (take (place_kept marks r.place) kept)) (map (place_kept marks) (way_at H e s)) (slice_index e.left s) (slice_index e.right s)
      (kept_leads r.place e r.at r.marked k.0 s in_slots))

  -- each is supported by those before it, and is a step under them
  pub kept_supported : AreSupported names K kept
  kept_supported i e at =
      let r = at_kept marks H i e at in
      let u = sup r.place e r.at in
      record {
        pattern = u.pattern;
        key = u.key;
        left_count = u.left_count;
        right_count = u.right_count;
        left_named = u.left_named;
        right_named = u.right_named;
        at_a = u.at_a;
        at_b = u.at_b;
        joined = λ s t there nonzero. kept_joined i e at u.pattern u.key s t there nonzero;
      }

  pub kept_derivation : (G : NumberedGraph) → IsDerivation G K H → IsDerivation G K kept
  kept_derivation G derivation i e at =
      let r = at_kept marks H i e at in
      let d = derivation r.place e r.at in
      record {
        pattern = d.pattern;
        key = d.key;
        witness = record {
          left = d.witness.left;
          right = d.witness.right;
          coincide = λ s slot there. agree G (joined_by (take r.place H)) (joined_by (take i kept)) s slot (slice_index e.left s) (slice_index e.right s)
              (λ t is nonzero. kept_joined i e at d.pattern d.key s t (there ∙ ap Some is) nonzero) (d.witness.coincide s slot there);
          at_a = d.witness.at_a;
          at_b = d.witness.at_b;
        };
      }

  -- the names of an end
  pub ends_named : ((key : ℕ) (Q : Shape) → slice_get K key ≡ Some Q → PatternFacts Q) → (k : ℕ) (e : Entry) → slice_get kept k ≡ Some e →
      (0 < length e.left) × (0 < length e.right) × (e.a < names) × (e.b < names)
  ends_named facts k e at =
      let r = at_kept marks H k e at in
      let u = sup r.place e r.at in
      let first = (facts e.key u.pattern u.key).first in
      let w = slice_get_within u.pattern.slots 0 (Entity first.0) first.1 in
      let lc = u.left_count in
      let rc = u.right_count in
      let l : 0 < length e.left = omega arith in
      let n : 0 < length e.right = omega arith in
      (l, n, subst (λ v. v < names) u.at_a (u.left_named 0 0 l), subst (λ v. v < names) u.at_b (u.right_named 0 0 n))

-- the goal's way leads along them all
module _ (names : ℕ) (K : List Shape) (H : List Entry) (sup : AreSupported names K H) (marks : List Bool) (goal : List ℕ) (m : MarksFrom K H goal 0 marks) where
  pub goal_marked : (j q : ℕ) → slice_get goal j ≡ Some q → IsMarkedAt marks q
  goal_marked j q at = m.goal_marked q (Contains-from_slice_get goal j q at)

  goal_inside : (j q : ℕ) → slice_get goal j ≡ Some q → q < length H
  goal_inside j q at =
      let w = slice_get_within marks q true (goal_marked j q at) in
      let count = m.count in
      omega arith

  pub goal_placed : (j q : ℕ) → slice_get goal j ≡ Some q → place_kept marks q < length (kept_by marks H)
  goal_placed j q at =
      let marked = goal_marked j q at in
      let e : Entry = get_or H q (record { a = 0; b = 0; key = 0; left = []; right = [] }) in
      let there : slice_get H q ≡ Some e = slice_get-get_or H q (record { a = 0; b = 0; key = 0; left = []; right = [] }) (goal_inside j q at) in
      slice_get_within (kept_by marks H) (place_kept marks q) e (kept_at marks H q e there marked)

  pub goal_leads : (a b : ℕ) → joined_by H a b ≡ true → goal ≡ way (links H) (length H) a b → end_along nat_eq (links (kept_by marks H)) (map (place_kept marks) goal) (Some a) ≡ Some b
  goal_leads a b joins is =
      let kept = kept_by marks H in
      let all : take (length kept) kept ≡ kept = take_whole kept in
      ap (λ (l : List Entry). end_along nat_eq (links l) (map (place_kept marks) goal) (Some a)) (sym all)
      ∙ led_same (links H) (links (take (length kept) kept)) (place_kept marks) goal
      (λ j q at. link_before names K H sup marks (closed_marks K H goal marks m) (length kept) q (goal_inside j q at) (goal_marked j q at) (goal_placed j q at)) (Some a)
      ∙ ap (λ ns. end_along nat_eq (links H) ns (Some a)) is
      ∙ way-end_along (links H) (length H) a b (ap (λ ps. joined ps a b) (all_links H) ∙ joins)
    where
      take_whole : {X : Type 0} (xs : List X) → take (length xs) xs ≡ xs
      take_whole [] = refl
      take_whole (x ∷ xs) = ap (λ ys. x ∷ ys) (take_whole xs)
