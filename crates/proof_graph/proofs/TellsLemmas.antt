-- The steps that a journal makes tell its entries.
use Rattle.std.proofs.Common.{Bool, List, [], ◌∷◌, ℕ, zero, suc, ◌+◌, ◌<◌, true, nat_le, Some, All, map, length, slice_get, slice_index, get_or, take, ◌≡◌, refl, sym, ap, subst, ◌∙◌, arith}
use Rattle.std.specs.Option.{option_map}
use Rattle.std.specs.List.{list_all}
use Rattle.std.proofs.lemmas.Bool.{and_from, le-leb}
use Rattle.std.proofs.lemmas.List.{length-map, length-take-le, take-map, get_or-map, take_all}
use Rattle.std.proofs.lemmas.Option.{slice_get-map, slice_get_within, slice_get-get_or, get_or_from_slice_get}
use Rattle.gk_base.specs.declared.term.Term.{Term}
use Rattle.gk_base.specs.declared.term.Term.TheVariants.{Plain}
use Rattle.chase_laws.specs.declared.entry.Entry.{Entry}
use Rattle.chase_laws.specs.declared.pattern.Slot.TheVariants.{Entity}
use Rattle.chase_laws.specs.Shape.{Shape, PatternFacts}
use Rattle.chase_laws.specs.Joined.{joined, joined_by, links}
use Rattle.chase_laws.proofs.CallerLemmas.{slice_get-map_from}
use Rattle.term_table.specs.Numbering.{same_term, AreDistinct}
use Rattle.proof_file.specs.Leads.{links_lead}
use Rattle.proof_graph.specs.Way.{way}
use Rattle.proof_file.specs.Steps.{SupportShape, StepShape, NoneTwice, NoneTwiceInSupports, term_at, step_ends}
use Rattle.proof_file.specs.Tells.{supported_slots, IsSupported, AreSupported, is_earlier, are_earlier, places_of, leads_there, Tells, TellsAll}
use Rattle.proof_graph.specs.Built.{built_support, built_step, pattern_at, built_entry, FitsPattern}
use Rattle.proof_graph.proofs.WayLemmas.{Once, fronts, way-stable, on_way, way-once}
use Rattle.proof_graph.proofs.SupportLemmas.{once_pairs}
use Rattle.proof_graph.proofs.TreeLemmas.{link_at}
use Rattle.proof_graph.proofs.TermLeads.{way_leads_terms, AreIn, both}
use Rattle.proof_file.proofs.CallerLemmas.{supported_at}

-- a test that each element passes
all_pass : {X : Type 0} (p : X → Bool) (xs : List X) → ((k : ℕ) (x : X) → slice_get xs k ≡ Some x → p x ≡ true) → list_all p xs ≡ true
all_pass p [] h = refl
all_pass p (x ∷ xs) h = and_from (p x) (list_all p xs) (h 0 x refl) (all_pass p xs (λ k y at. h (suc k) y at))

-- what is so at each place is so of all
each_at : {X : Type 0} (P : X → Type 0) (xs : List X) → ((k : ℕ) (x : X) → slice_get xs k ≡ Some x → P x) → All P xs
each_at P xs h = λ k d l. h k (get_or xs k d) (slice_get-get_or xs k d l)

-- numbers of steps for places of which none stands twice
numbers_once : (places : List ℕ) → Once places → NoneTwice (map (λ p. p + 1) places)
numbers_once places once i j d less inside same =
    let n = length-map places (λ (p : ℕ). p + 1) in
    let in_j : j < length places = omega arith in
    let in_i : i < length places = omega arith in
    let at_i = get_or-map (λ (p : ℕ). p + 1) places i 0 d in_i in
    let at_j = get_or-map (λ (p : ℕ). p + 1) places j 0 d in_j in
    once_pairs places once i j 0 less in_j (omega arith)

-- the element of a longer list
at_take : {X : Type 0} (i : ℕ) (xs : List X) (k : ℕ) (x : X) → slice_get (take i xs) k ≡ Some x → (k < i) × (slice_get xs k ≡ Some x)
at_take zero xs k x at = absurd cc
at_take (suc i) [] k x at = absurd cc
at_take (suc i) (y ∷ xs) zero x at = (omega arith, at)
at_take (suc i) (y ∷ xs) (suc k) x at = let r = at_take i xs k x at in let l = r.0 in (omega arith, r.1)

links-take : (i : ℕ) (H : List Entry) → take i (links H) ≡ links (take i H)
links-take i H = take-map (λ (e : Entry). (e.a, e.b)) i H

-- the entries before a place join no more than all
joined_all : (H : List Entry) (i : ℕ) (a b : ℕ) → joined (take i (links H)) a b ≡ true → joined_by H a b ≡ true
joined_all H i a b h =
    whole (fronts (links H) i (length H + i) (omega arith) a b h)
  where
    whole : joined (take (length H + i) (links H)) a b ≡ true → joined_by H a b ≡ true
    whole k = let n : length (links H) ≡ length H = length-map H (λ (e : Entry). (e.a, e.b)) in ap (λ l. joined l a b) (sym (take_all (length H + i) (links H) (omega arith))) ∙ k

-- an entry that is supported fits its pattern
pub supported_fits : (names : ℕ) (K : List Shape) (H : List Entry) (i : ℕ) (e : Entry) (Q : Shape) → IsSupported names K (take i H) e → slice_get K e.key ≡ Some Q → FitsPattern names H Q e
supported_fits names K H i e Q s at =
    let same : s.pattern ≡ Q = (let two : Some s.pattern ≡ Some Q = sym s.key ∙ at in cc) in
    record {
      left_count = s.left_count ∙ ap (λ (P : Shape). length P.slots) same;
      right_count = s.right_count ∙ ap (λ (P : Shape). length P.slots) same;
      left_named = s.left_named;
      right_named = s.right_named;
      joined = λ n t there nonzero.
          joined_all H i (slice_index e.left n) (slice_index e.right n)
          (ap (λ l. joined l (slice_index e.left n) (slice_index e.right n)) (links-take i H)
          ∙ s.joined n t (ap (λ (P : Shape). slice_get P.slots n) same ∙ there) nonzero);
    }

module _ (names : List Term) (distinct : AreDistinct names) (K : List Shape) (key_names : List (List ℕ)) (H : List Entry)
    (facts : (key : ℕ) (Q : Shape) → slice_get K key ≡ Some Q → PatternFacts Q) (sup : AreSupported (length names) K H) (count : length key_names ≡ length K) where
  abbrev step_of : Entry → StepShape
  step_of = built_entry names K key_names H

  -- the first slot of an entry has its ends, which are names
  record HasEnds (e : Entry) : Type 0 where
    left : 0 < length e.left
    right : 0 < length e.right
    a_named : e.a < length names
    b_named : e.b < length names

  has_ends : (i : ℕ) (e : Entry) → slice_get H i ≡ Some e → HasEnds e
  has_ends i e at =
      let s = sup i e at in
      let w = slice_get_within s.pattern.slots 0 (Entity (facts e.key s.pattern s.key).first.0) (facts e.key s.pattern s.key).first.1 in
      let lc = s.left_count in
      let rc = s.right_count in
      let ln = s.left_named 0 0 (omega arith) in
      let rn = s.right_named 0 0 (omega arith) in
      let ea = s.at_a in
      let eb = s.at_b in
      record { left = omega arith; right = omega arith; a_named = omega arith; b_named = omega arith }

  links_named : (i : ℕ) → AreIn names distinct (take i (links H))
  links_named i k p at =
      let r = at_take i (links H) k p at in
      let w = slice_get_within (links H) k p r.1 in
      let n : length (links H) ≡ length H = length-map H (λ (e : Entry). (e.a, e.b)) in
      let l : k < length H = omega arith in
      let d : Entry = get_or H k (record { a = 0; b = 0; key = 0; left = []; right = [] }) in
      let there : slice_get H k ≡ Some d = slice_get-get_or H k (record { a = 0; b = 0; key = 0; left = []; right = [] }) l in
      let same : (d.a, d.b) ≡ p = (let two : Some (d.a, d.b) ≡ Some p = sym (link_at H k d there) ∙ r.1 in cc) in
      let ends = has_ends k d there in
      subst (λ (q : ℕ × ℕ). (q.0 < length names) × (q.1 < length names)) same (ends.a_named, ends.b_named)

  -- the ends of the steps before a place are the terms of the links there
  ends_same : (i : ℕ) (E : List Entry) → ((k : ℕ) (e : Entry) → slice_get E k ≡ Some e → HasEnds e × (slice_index e.left 0 ≡ e.a) × (slice_index e.right 0 ≡ e.b)) →
      map step_ends (map step_of E) ≡ map (both names distinct) (links E)
  ends_same i [] h = refl
  ends_same i (e ∷ E) h =
      let r = h 0 e refl in
      let l = get_or-map (term_at names) e.left 0 0 (Plain []) r.0.left ∙ ap (term_at names) r.1 in
      let m = get_or-map (term_at names) e.right 0 0 (Plain []) r.0.right ∙ ap (term_at names) r.2 in
      λ j. (l j, m j) ∷ ends_same i E (λ k f at. h (suc k) f at) j

  ends_before : (i : ℕ) → map step_ends (take i (map step_of H)) ≡ map (both names distinct) (take i (links H))
  ends_before i =
      ap (map step_ends) (take-map step_of i H)
      ∙ ends_same i (take i H) (λ k e at. let r = at_take i H k e at in let s = sup k e r.1 in (has_ends k e r.1, s.at_a, s.at_b))
      ∙ ap (map (both names distinct)) (sym (links-take i H))

  -- the slots of supports
  slots_of : (e : Entry) (ss : List ℕ) → map (λ (u : SupportShape). u.slot) (map (built_support H e) ss) ≡ ss
  slots_of e [] = refl
  slots_of e (n ∷ ss) = ap (λ l. n ∷ l) (slots_of e ss)

  -- a support is that of a slot
  support_at : (e : Entry) (ss : List ℕ) (j : ℕ) (u : SupportShape) → slice_get (map (built_support H e) ss) j ≡ Some u → (n : ℕ) × (slice_get ss j ≡ Some n) × (built_support H e n ≡ u)
  support_at e [] j u at = absurd cc
  support_at e (n ∷ ss) zero u at = (n, refl, cc)
  support_at e (n ∷ ss) (suc j) u at = support_at e ss j u at

  -- the images of an entry at an entity variable but the first are joined before it
  record AtSlot (i : ℕ) (e : Entry) (n : ℕ) : Type 0 where
    left : n < length e.left
    right : n < length e.right
    x_named : slice_index e.left n < length names
    y_named : slice_index e.right n < length names
    joined : joined (take i (links H)) (slice_index e.left n) (slice_index e.right n) ≡ true

  at_slot : (i : ℕ) (e : Entry) (s : IsSupported (length names) K (take i H) e) (j n : ℕ) → slice_get (supported_slots s.pattern.slots) j ≡ Some n → AtSlot i e n
  at_slot i e s j n at =
      let r = supported_at s.pattern.slots j n at in
      let w = slice_get_within s.pattern.slots n (Entity r.1) r.2 in
      let lc = s.left_count in
      let rc = s.right_count in
      let l : n < length e.left = omega arith in
      let m : n < length e.right = omega arith in
      record {
        left = l;
        right = m;
        x_named = s.left_named n 0 l;
        y_named = s.right_named n 0 m;
        joined = ap (λ ps. joined ps (slice_index e.left n) (slice_index e.right n)) (links-take i H) ∙ s.joined n r.1 r.2 r.0;
      }

  -- the way between them needs no later entry
  way_here : (i : ℕ) (e : Entry) (n : ℕ) → i < length H → AtSlot i e n →
      way (links H) (length H) (slice_index e.left n) (slice_index e.right n) ≡ way (links H) i (slice_index e.left n) (slice_index e.right n)
  way_here i e n l a = way-stable (links H) i (length H) (slice_index e.left n) (slice_index e.right n) (omega arith) a.joined

  earlier_at : (i : ℕ) (e : Entry) (n count : ℕ) → i < length H → AtSlot i e n → count ≡ i → are_earlier count (built_support H e n) ≡ true
  earlier_at i e n count l a is =
      let x = slice_index e.left n in
      let y = slice_index e.right n in
      all_pass (is_earlier count) (map (λ p. p + 1) (way (links H) (length H) x y)) (λ k m at.
      let q = number_at (way (links H) (length H) x y) k m at in
      let b = (on_way (links H) i x y a.joined k q.0 (ap (λ ps. slice_get ps k) (sym (way_here i e n l a)) ∙ q.1)).below in
      let same = q.2 in
      and_from (nat_le 1 m) (nat_le m count) (le-leb 1 m (omega arith)) (le-leb m count (omega arith)))
    where
      number_at : (places : List ℕ) (k m : ℕ) → slice_get (map (λ p. p + 1) places) k ≡ Some m → (p : ℕ) × (slice_get places k ≡ Some p) × (p + 1 ≡ m)
      number_at [] k m at = absurd cc
      number_at (p ∷ places) zero m at = (p, refl, cc)
      number_at (p ∷ places) (suc k) m at = number_at places k m at

  leads_at : (i : ℕ) (e : Entry) (n : ℕ) → i < length H → AtSlot i e n → leads_there (map step_ends (take i (map step_of H))) (step_of e) (built_support H e n) ≡ true
  leads_at i e n l a =
      let x = slice_index e.left n in
      let y = slice_index e.right n in
      let ns = places_of (map (λ p. p + 1) (way (links H) (length H) x y)) in
      ap (λ ends. links_lead same_term ends ns (term_at (map (term_at names) e.left) n) (term_at (map (term_at names) e.right) n)) (ends_before i)
      ∙ ap (λ t. links_lead same_term (map (both names distinct) (take i (links H))) ns t (term_at (map (term_at names) e.right) n)) (get_or-map (term_at names) e.left n 0 (Plain []) a.left)
      ∙ ap (λ t. links_lead same_term (map (both names distinct) (take i (links H))) ns (term_at names x) t) (get_or-map (term_at names) e.right n 0 (Plain []) a.right)
      ∙ ap (λ ps. links_lead same_term (map (both names distinct) (take i (links H))) (places_of (map (λ p. p + 1) ps)) (term_at names x) (term_at names y)) (way_here i e n l a)
      ∙ way_leads_terms names distinct (links H) i x y (links_named i) a.x_named a.y_named a.joined

  -- the step of an entry tells it
  told : (i : ℕ) (e : Entry) → slice_get H i ≡ Some e → Tells names K key_names (take i (map step_of H)) e (step_of e)
  told i e at =
      let s = sup i e at in
      let w = slice_get_within H i e at in
      let k = slice_get_within K e.key s.pattern s.key in
      let same : pattern_at K e.key ≡ s.pattern = get_or_from_slice_get K e.key s.pattern (record { slots = []; edges = [] }) s.key in
      let ss = supported_slots (pattern_at K e.key).slots in
      let slots : ss ≡ supported_slots s.pattern.slots = ap (λ (Q : Shape). supported_slots Q.slots) same in
      let before = take i (map step_of H) in
      let m = length-map H step_of in
      let c : length before ≡ i = length-take-le i (map step_of H) (omega arith) in
      record {
        pattern = s.pattern;
        found = s.key;
        key = slice_get-get_or key_names e.key [] (omega arith);
        left = refl;
        right = refl;
        slots = slots_of e ss ∙ slots;
        earlier = all_pass (are_earlier (length before)) (map (built_support H e) ss) (λ j u in_u.
            let r = support_at e ss j u in_u in
            let a = at_slot i e s j r.0 (ap (λ l. slice_get l j) (sym slots) ∙ r.1) in
            subst (λ v. are_earlier (length before) v ≡ true) r.2 (earlier_at i e r.0 (length before) w a c));
        leads_to = all_pass (leads_there (map step_ends before) (step_of e)) (map (built_support H e) ss) (λ j u in_u.
            let r = support_at e ss j u in_u in
            let a = at_slot i e s j r.0 (ap (λ l. slice_get l j) (sym slots) ∙ r.1) in
            subst (λ v. leads_there (map step_ends before) (step_of e) v ≡ true) r.2 (leads_at i e r.0 w a));
      }

  -- and so do all
  pub told_all : TellsAll names K key_names H (map step_of H)
  told_all = record {
    one_each = length-map H step_of;
    each = λ i e step at in_steps.
        let same : step_of e ≡ step = (let two : Some (step_of e) ≡ Some step = sym (slice_get-map step_of H i ∙ ap (λ o. option_map step_of o) at) ∙ in_steps in cc) in
        subst (λ t. Tells names K key_names (take i (map step_of H)) e t) same (told i e at);
  }

  -- none stands twice in a support
  pub once_all : NoneTwiceInSupports (map step_of H)
  once_all = each_at (λ (step : StepShape). All (λ (u : SupportShape). NoneTwice u.steps) step.supports) (map step_of H) (λ i step there.
      let r = slice_get-map_from step_of H i step there in
      subst (λ (s : StepShape). All (λ (u : SupportShape). NoneTwice u.steps) s.supports) r.2 (once_at i r.0 r.1))
    where
      once_at : (i : ℕ) (e : Entry) → slice_get H i ≡ Some e → All (λ (u : SupportShape). NoneTwice u.steps) (step_of e).supports
      once_at i e at =
          let s = sup i e at in
          let w = slice_get_within H i e at in
          let same : pattern_at K e.key ≡ s.pattern = get_or_from_slice_get K e.key s.pattern (record { slots = []; edges = [] }) s.key in
          let ss = supported_slots (pattern_at K e.key).slots in
          let slots : ss ≡ supported_slots s.pattern.slots = ap (λ (Q : Shape). supported_slots Q.slots) same in
          each_at (λ (u : SupportShape). NoneTwice u.steps) (map (built_support H e) ss) (λ j u in_u.
          let r = support_at e ss j u in_u in
          let a = at_slot i e s j r.0 (ap (λ l. slice_get l j) (sym slots) ∙ r.1) in
          let x = slice_index e.left r.0 in
          let y = slice_index e.right r.0 in
          subst (λ (v : SupportShape). NoneTwice v.steps) r.2
          (numbers_once (way (links H) (length H) x y) (way-once (links H) (length H) x y (fronts (links H) i (length H) (omega arith) x y a.joined))))

-- the step of an entry, by its parts
pub entry_is : (names : List Term) (K : List Shape) (key_names : List (List ℕ)) (ways H : List Entry) (Q : Shape) (key : List ℕ) (e : Entry) → ways ≡ H → Q ≡ pattern_at K e.key → key ≡ get_or key_names e.key [] →
    built_step names ways Q key e ≡ built_entry names K key_names H e
entry_is names K key_names ways H Q key e same pattern name = λ i. built_step names (same i) (pattern i) (name i) e
