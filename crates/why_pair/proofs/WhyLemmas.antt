-- The steps of what is kept, with supports anew: they tell the kept entries, each is reached, and none stands twice in a support.
use Rattle.std.proofs.Common.{List, [], ◌∷◌, ℕ, zero, suc, ◌+◌, ◌<◌, Bool, true, nat_eq, Some, option_map, All, Contains, length, map, slice_get, slice_index, get_or, take, ◌≡◌, refl, sym, ap, ap₂, subst, ◌∙◌, arith, eq-eqb}
use Rattle.std.specs.List.{list_all}
use Rattle.std.proofs.lemmas.Bool.{and_from}
use Rattle.std.proofs.lemmas.List.{length-take-le, take-map, get_or-map}
use Rattle.std.proofs.lemmas.Option.{slice_get-map, slice_get_within, slice_get-get_or}
use Rattle.gk_base.specs.declared.term.Term.{Term}
use Rattle.gk_base.specs.declared.term.Term.TheVariants.{Plain}
use Rattle.chase_laws.specs.declared.entry.Entry.{Entry}
use Rattle.chase_laws.specs.Shape.{Shape, PatternFacts}
use Rattle.chase_laws.specs.Joined.{joined, joined_by, links}
use Rattle.chase_laws.proofs.CallerLemmas.{Contains-from_slice_get, slice_get-from_Contains, slice_get-map_from}
use Rattle.term_table.specs.Numbering.{same_term, AreDistinct}
use Rattle.proof_file.specs.Leads.{end_along, arrives, links_lead}
use Rattle.proof_graph.specs.Way.{way}
use Rattle.proof_file.specs.Steps.{SupportShape, StepShape, NoneTwice, NoneTwiceInSupports, term_at, step_ends}
use Rattle.proof_file.specs.Tells.{supported_slots, AreSupported, are_earlier, places_of, leads_there, Tells, TellsAll}
use Rattle.proof_graph.specs.Built.{pattern_at}
use Rattle.proof_graph.proofs.CallerLemmas.{fronts, leads_same, way-once}
use Rattle.why_pair.specs.Kept.{IsMarkedAt, kept_by, place_kept}
use Rattle.why_pair.specs.Needed.{AreClosed, way_at, IsNeeded, in_goal, by_entry}
use Rattle.why_pair.specs.Marking.{MarksFrom}
use Rattle.why_pair.specs.Relinked.{places_from, step_number, IsLinked, relinked, relinked_step, with_each}
use Rattle.why_pair.specs.Why.{StepsLead, IsStepReached, of_goal, of_step, AllReached, TellsPart}
use Rattle.why_pair.proofs.KeptLemmas.{at_kept, kept_at, kept_lean}
use Rattle.why_pair.proofs.NeedLemmas.{in_flat, links-take, all_links, pattern_is, slot_of}
use Rattle.why_pair.proofs.LinkLemmas.{made_at, make_at, length-with_each}
use Rattle.why_pair.proofs.LeadLemmas.{number_is, numbers_back, numbers_earlier, none_twice}
use Rattle.why_pair.proofs.PartLemmas.{closed_marks, way_marked, kept_leads, kept_derivation, goal_marked, goal_placed, goal_leads, ends_named}

-- ---- lists

all_pass : {X : Type 0} (p : X → Bool) (xs : List X) → ((k : ℕ) (x : X) → slice_get xs k ≡ Some x → p x ≡ true) → list_all p xs ≡ true
all_pass p [] h = refl
all_pass p (x ∷ xs) h = and_from (p x) (list_all p xs) (h 0 x refl) (all_pass p xs (λ k y at. h (suc k) y at))

each_at : {X : Type 0} (P : X → Type 0) (xs : List X) → ((k : ℕ) (x : X) → slice_get xs k ≡ Some x → P x) → All P xs
each_at P xs h = λ k d l. h k (get_or xs k d) (slice_get-get_or xs k d l)

at_take : {X : Type 0} (i : ℕ) (xs : List X) (k : ℕ) (x : X) → slice_get (take i xs) k ≡ Some x → slice_get xs k ≡ Some x
at_take zero xs k x at = absurd cc
at_take (suc i) [] k x at = absurd cc
at_take (suc i) (y ∷ xs) zero x at = at
at_take (suc i) (y ∷ xs) (suc k) x at = at_take i xs k x at

map_at : {X Y : Type 0} (f : X → Y) (xs : List X) (k : ℕ) (x : X) → slice_get xs k ≡ Some x → slice_get (map f xs) k ≡ Some (f x)
map_at f xs k x at = slice_get-map f xs k ∙ ap (option_map f) at

module _ (names : List Term) (distinct : AreDistinct names) (K : List Shape) (key_names : List (List ℕ)) (facts : (key : ℕ) (Q : Shape) → slice_get K key ≡ Some Q → PatternFacts Q)
    (H : List Entry) (sup : AreSupported (length names) K H) (marks : List Bool) (goal : List ℕ) (m : MarksFrom K H goal 0 marks)
    (steps : List StepShape) (told : TellsAll names K key_names (kept_by marks H) steps) where
  abbrev kept : List Entry
  kept = kept_by marks H

  closed : AreClosed K H marks
  closed = closed_marks K H goal marks m

  abbrev places : List ℕ
  places = places_from 0 marks

  abbrev both : ℕ × ℕ → Term × Term
  both p = (term_at names p.0, term_at names p.1)

  abbrev pub anew : List StepShape
  anew = with_each (relinked_step H places) kept steps

  length-anew : length anew ≡ length kept
  length-anew = let o = told.one_each in length-with_each (relinked_step H places) kept steps (omega arith) ∙ o

  -- the slot of a support is one that has a support
  slot_in : (k : ℕ) (e : Entry) (step : StepShape) → slice_get kept k ≡ Some e → slice_get steps k ≡ Some step → (j : ℕ) (u : SupportShape) → slice_get step.supports j ≡ Some u →
      slice_get (supported_slots (pattern_at K e.key).slots) j ≡ Some u.slot
  slot_in k e step at is j u in_supports =
      let t = told.each k e step at is in
      ap (λ (P : Shape). slice_get (supported_slots P.slots) j) (pattern_is K e.key t.pattern t.found)
      ∙ ap (λ l. slice_get l j) (sym t.slots) ∙ map_at (λ (v : SupportShape). v.slot) step.supports j u in_supports

  -- what is asked of the supports that are made anew
  pub linked_all : (k : ℕ) (e : Entry) (step : StepShape) → slice_get kept k ≡ Some e → slice_get steps k ≡ Some step → All (IsLinked H e) step.supports
  linked_all k e step at is = each_at (IsLinked H e) step.supports (λ j u in_supports.
      let r = at_kept marks H k e at in
      let l = slice_get_within H r.place e r.at in
      let o = slot_of (length names) K H sup r.place e r.at j u.slot (slot_in k e step at is j u in_supports) in
      (o.left, o.right, ap (λ ps. joined ps (slice_index e.left u.slot) (slice_index e.right u.slot)) (sym (all_links H)) ∙ fronts (links H) r.place (length H) (omega arith) (slice_index e.left u.slot) (slice_index e.right u.slot) o.joined))

  -- ---- the ends of steps

  ends_same : (E : List Entry) (S : List StepShape) → length S ≡ length E → ((k : ℕ) (e : Entry) (s : StepShape) → slice_get E k ≡ Some e → slice_get S k ≡ Some s → step_ends s ≡ both (e.a, e.b)) →
      map step_ends S ≡ map both (links E)
  ends_same [] [] n h = refl
  ends_same [] (s ∷ S) n h = absurd (omega arith)
  ends_same (e ∷ E) [] n h = absurd (omega arith)
  ends_same (e ∷ E) (s ∷ S) n h = ap₂ (λ t ts. t ∷ ts) (h 0 e s refl refl) (ends_same E S (omega arith) (λ k f u at is. h (suc k) f u at is))

  ends_anew : map step_ends anew ≡ map both (links kept)
  ends_anew = ends_same kept anew length-anew (λ k e made at is.
      let r = made_at (relinked_step H places) kept steps k e made at is in
      let t = told.each k e r.0 at r.1 in
      let n = ends_named (length names) K H sup marks closed facts k e at in
      let w = at_kept marks H k e at in
      let u = sup w.place e w.at in
      let left : term_at r.0.left 0 ≡ term_at names e.a = ap (λ l. term_at l 0) t.left ∙ get_or-map (term_at names) e.left 0 0 (Plain []) n.0 ∙ ap (term_at names) u.at_a in
      let right : term_at r.0.right 0 ≡ term_at names e.b = ap (λ l. term_at l 0) t.right ∙ get_or-map (term_at names) e.right 0 0 (Plain []) n.1 ∙ ap (term_at names) u.at_b in
      ap step_ends (sym r.2) ∙ (λ i. (left i, right i)))

  ends_before : (i : ℕ) → map step_ends (take i anew) ≡ map both (links (take i kept))
  ends_before i = sym (take-map step_ends i anew) ∙ ap (take i) ends_anew ∙ take-map both i (links kept) ∙ ap (map both) (links-take i kept)

  links_in : (E : List Entry) → ((k : ℕ) (e : Entry) → slice_get E k ≡ Some e → slice_get kept k ≡ Some e) → (k : ℕ) (p : ℕ × ℕ) → slice_get (links E) k ≡ Some p → (p.0 < length names) × (p.1 < length names)
  links_in E inside k p at =
      let f : Entry → ℕ × ℕ = λ e. (e.a, e.b) in
      let r = slice_get-map_from f E k p at in
      let n = ends_named (length names) K H sup marks closed facts k r.0 (inside k r.0 r.1) in
      subst (λ (q : ℕ × ℕ). (q.0 < length names) × (q.1 < length names)) r.2 (n.2, n.3)

  -- ---- the steps tell the kept entries

  slots_same : (e : Entry) (supports : List SupportShape) → map (λ (v : SupportShape). v.slot) (map (relinked H places e) supports) ≡ map (λ (v : SupportShape). v.slot) supports
  slots_same e [] = refl
  slots_same e (u ∷ supports) = ap (λ l. u.slot ∷ l) (slots_same e supports)

  -- what stands on the way of a support
  on_support : (k : ℕ) (e : Entry) (step : StepShape) (at : slice_get kept k ≡ Some e) → slice_get steps k ≡ Some step → (j : ℕ) (u : SupportShape) → slice_get step.supports j ≡ Some u →
      (i q : ℕ) → slice_get (way_at H e u.slot) i ≡ Some q → IsMarkedAt marks q × (place_kept marks q < k)
  on_support k e step at is j u in_supports i q in_way =
      let r = at_kept marks H k e at in
      let w = way_marked (length names) K H sup marks closed r.place e r.at r.marked j u.slot (slot_in k e step at is j u in_supports) i q in_way in
      (w.0, subst (λ n. place_kept marks q < n) r.is w.1)

  leads_at : (k : ℕ) (e : Entry) (step : StepShape) → slice_get kept k ≡ Some e → slice_get steps k ≡ Some step → (j : ℕ) (u : SupportShape) → slice_get step.supports j ≡ Some u →
      leads_there (map step_ends (take k anew)) (relinked_step H places e step) (relinked H places e u) ≡ true
  leads_at k e step at is j u in_supports =
      let r = at_kept marks H k e at in
      let t = told.each k e step at is in
      let s = u.slot in
      let x = slice_index e.left s in
      let y = slice_index e.right s in
      let W = way_at H e s in
      let in_slots = slot_in k e step at is j u in_supports in
      let o = slot_of (length names) K H sup r.place e r.at j s in_slots in
      let ns = places_of (map (step_number places) W) in
      let front = links (take k kept) in
      let back : ns ≡ map (place_kept marks) W = numbers_back marks W (λ i q in_way. (on_support k e step at is j u in_supports i q in_way).0) in
      let left : term_at step.left s ≡ term_at names x = ap (λ l. term_at l s) t.left ∙ get_or-map (term_at names) e.left s 0 (Plain []) o.left in
      let right : term_at step.right s ≡ term_at names y = ap (λ l. term_at l s) t.right ∙ get_or-map (term_at names) e.right s 0 (Plain []) o.right in
      let numbers : links_lead nat_eq front (map (place_kept marks) W) x y ≡ true =
      ap (λ n. arrives nat_eq (end_along nat_eq (links (take n kept)) (map (place_kept marks) W) (Some x)) y) (sym r.is)
      ∙ ap (λ p. arrives nat_eq p y) (kept_leads (length names) K H sup marks closed r.place e r.at r.marked j s in_slots) ∙ eq-eqb y y refl in
      ap (λ ends. links_lead same_term ends ns (term_at step.left s) (term_at step.right s)) (ends_before k)
      ∙ ap (λ l. links_lead same_term (map both front) l (term_at step.left s) (term_at step.right s)) back
      ∙ ap₂ (λ v w. links_lead same_term (map both front) (map (place_kept marks) W) v w) left right
      ∙ sym (leads_same names distinct front (links_in (take k kept) (λ i f there. at_take k kept i f there)) (map (place_kept marks) W) x y o.x_named o.y_named)
      ∙ numbers

  tells_one : (k : ℕ) (e : Entry) (step : StepShape) → slice_get kept k ≡ Some e → slice_get steps k ≡ Some step → Tells names K key_names (take k anew) e (relinked_step H places e step)
  tells_one k e step at is =
      let t = told.each k e step at is in
      let w = slice_get_within kept k e at in
      let n = length-anew in
      let count : length (take k anew) ≡ k = length-take-le k anew (omega arith) in
      record {
        pattern = t.pattern;
        found = t.found;
        key = t.key;
        left = t.left;
        right = t.right;
        slots = slots_same e step.supports ∙ t.slots;
        earlier = all_pass (are_earlier (length (take k anew))) (map (relinked H places e) step.supports) (λ j made in_made.
            let r = slice_get-map_from (relinked H places e) step.supports j made in_made in
            ap (are_earlier (length (take k anew))) (sym r.2) ∙ ap (λ c. are_earlier c (relinked H places e r.0)) count
            ∙ numbers_earlier marks (way_at H e r.0.slot) k (on_support k e step at is j r.0 r.1));
        leads_to = all_pass (leads_there (map step_ends (take k anew)) (relinked_step H places e step)) (map (relinked H places e) step.supports) (λ j made in_made.
            let r = slice_get-map_from (relinked H places e) step.supports j made in_made in
            ap (leads_there (map step_ends (take k anew)) (relinked_step H places e step)) (sym r.2) ∙ leads_at k e step at is j r.0 r.1);
      }

  pub tells_anew : TellsAll names K key_names kept anew
  tells_anew = record {
    one_each = length-anew;
    each = λ k e made at is.
        let r = made_at (relinked_step H places) kept steps k e made at is in
        subst (λ s. Tells names K key_names (take k anew) e s) r.2 (tells_one k e r.0 at r.1);
  }

  pub part_anew : TellsPart names K key_names H anew
  part_anew = record { marks = marks; tells = tells_anew; derivation = kept_derivation (length names) K H sup marks closed; lean = kept_lean marks H }

  -- ---- none stands twice in a support

  entry_at : (k : ℕ) → k < length anew → (e : Entry) × (slice_get kept k ≡ Some e)
  entry_at k l =
      let n = length-anew in
      let none : Entry = record { a = 0; b = 0; key = 0; left = []; right = [] } in
      (get_or kept k none, slice_get-get_or kept k none (omega arith))

  pub once_anew : NoneTwiceInSupports anew
  once_anew = each_at (λ (step : StepShape). All (λ (v : SupportShape). NoneTwice v.steps) step.supports) anew (λ k made there.
      let e = entry_at k (slice_get_within anew k made there) in
      let r = made_at (relinked_step H places) kept steps k e.0 made e.1 there in
      subst (λ (step : StepShape). All (λ (v : SupportShape). NoneTwice v.steps) step.supports) r.2
      (each_at (λ (v : SupportShape). NoneTwice v.steps) (map (relinked H places e.0) r.0.supports) (λ j support in_made.
      let u = slice_get-map_from (relinked H places e.0) r.0.supports j support in_made in
      let linked = linked_all k e.0 r.0 e.1 r.1 j u.0 (slice_get_within r.0.supports j u.0 u.1) in
      subst (λ (v : SupportShape). NoneTwice v.steps) u.2
      (none_twice marks (way_at H e.0 u.0.slot) (once_way k e.0 r.0 e.1 r.1 j u.0 u.1) (λ i q in_way. (on_support k e.0 r.0 e.1 r.1 j u.0 u.1 i q in_way).0)))))
    where
      once_way : (k : ℕ) (e : Entry) (step : StepShape) → slice_get kept k ≡ Some e → slice_get steps k ≡ Some step → (j : ℕ) (u : SupportShape) → slice_get step.supports j ≡ Some u →
          (i i' q : ℕ) → slice_get (way_at H e u.slot) i ≡ Some q → slice_get (way_at H e u.slot) i' ≡ Some q → i ≡ i'
      once_way k e step at is j u in_supports =
          let r = at_kept marks H k e at in
          let l = slice_get_within H r.place e r.at in
          let x = slice_index e.left u.slot in
          let y = slice_index e.right u.slot in
          let o = slot_of (length names) K H sup r.place e r.at j u.slot (slot_in k e step at is j u in_supports) in
          way-once (links H) (length H) x y (fronts (links H) r.place (length H) (omega arith) x y o.joined)

  -- ---- the goal

  abbrev pub goal_numbers : List ℕ
  goal_numbers = map (step_number places) goal

  pub goal_once : (a b : ℕ) → joined_by H a b ≡ true → goal ≡ way (links H) (length H) a b → NoneTwice goal_numbers
  goal_once a b joins is =
      none_twice marks goal
      (λ i j p at_i at_j. way-once (links H) (length H) a b (ap (λ ps. joined ps a b) (all_links H) ∙ joins) i j p (ap (λ l. slice_get l i) (sym is) ∙ at_i) (ap (λ l. slice_get l j) (sym is) ∙ at_j))
      (goal_marked (length names) K H sup marks goal m)

  pub goal_there : (a b : ℕ) → a < length names → b < length names → joined_by H a b ≡ true → goal ≡ way (links H) (length H) a b → StepsLead anew goal_numbers (term_at names a) (term_at names b)
  goal_there a b ha hb joins is =
      let n = length-anew in
      let marked = goal_marked (length names) K H sup marks goal m in (
        numbers_earlier marks goal (length anew) (λ j q at. let l = goal_placed (length names) K H sup marks goal m j q at in (marked j q at, omega arith)),
        ap (λ ends. links_lead same_term ends (places_of goal_numbers) (term_at names a) (term_at names b)) ends_anew
            ∙ ap (λ l. links_lead same_term (map both (links kept)) l (term_at names a) (term_at names b)) (numbers_back marks goal marked)
            ∙ sym (leads_same names distinct (links kept) (links_in kept (λ k e at. at)) (map (place_kept marks) goal) a b ha hb)
            ∙ ap (λ o. arrives nat_eq o b) (goal_leads (length names) K H sup marks goal m a b joins is) ∙ eq-eqb b b refl,
      )

  -- ---- each step is reached

  needed_marked : (p : ℕ) → IsNeeded K H goal p → IsMarkedAt marks p
  needed_marked p (in_goal h) = m.goal_marked p h
  needed_marked p (by_entry {q = q} e at needed h) = m.closed p q e (omega arith) at (needed_marked q needed) h

  has_number : (ns : List ℕ) (p : ℕ) → Contains ns p → IsMarkedAt marks p → Contains (map (step_number places) ns) (place_kept marks p + 1)
  has_number ns p h marked =
      let r = slice_get-from_Contains ns p h in
      subst (Contains (map (step_number places) ns)) (number_is marks p marked) (Contains-from_slice_get (map (step_number places) ns) r.0 (step_number places p) (map_at (step_number places) ns r.0 p r.1))

  step_there : (k : ℕ) (e : Entry) → slice_get kept k ≡ Some e → (step : StepShape) × (slice_get steps k ≡ Some step)
  step_there k e at =
      let w = slice_get_within kept k e at in
      let n = told.one_each in
      let none : StepShape = record { key = []; left = []; right = []; supports = [] } in
      (get_or steps k none, slice_get-get_or steps k none (omega arith))

  needed_reached : (p : ℕ) → IsNeeded K H goal p → IsStepReached anew goal_numbers (place_kept marks p + 1)
  needed_reached p (in_goal h) = of_goal (has_number goal p h (m.goal_marked p h))
  needed_reached p (by_entry {q = q} e at needed h) =
      let marked = needed_marked q needed in
      let k = place_kept marks q in
      let there : slice_get kept k ≡ Some e = kept_at marks H q e at marked in
      let s = step_there k e there in
      let t = told.each k e s.0 there s.1 in
      let w = in_flat (way_at H e) (supported_slots (pattern_at K e.key).slots) p h in
      let in_slots : slice_get (map (λ (v : SupportShape). v.slot) s.0.supports) w.0 ≡ Some w.1 =
      ap (λ l. slice_get l w.0) t.slots ∙ ap (λ (P : Shape). slice_get (supported_slots P.slots) w.0) (sym (pattern_is K e.key t.pattern t.found)) ∙ w.2 in
      let u = slice_get-map_from (λ (v : SupportShape). v.slot) s.0.supports w.0 w.1 in_slots in
      let on_way = subst (λ n. Contains (way_at H e n) p) (sym u.2) w.3 in
      of_step k (relinked_step H places e s.0) (relinked H places e u.0) (needed_reached q needed)
      (make_at (relinked_step H places) kept steps k e s.0 there s.1)
      (Contains-from_slice_get (map (relinked H places e) s.0.supports) w.0 (relinked H places e u.0) (map_at (relinked H places e) s.0.supports w.0 u.0 u.1))
      (has_number (way_at H e u.0.slot) p on_way (needed_marked p (by_entry e at needed h)))

  pub all_reached : AllReached anew goal_numbers
  all_reached k l =
      let e = entry_at k l in
      let r = at_kept marks H k e.0 e.1 in
      subst (λ n. IsStepReached anew goal_numbers (n + 1)) r.is (needed_reached r.place (m.only r.place r.marked))
