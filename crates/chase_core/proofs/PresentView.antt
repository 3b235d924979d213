-- What is near to two ends, with the present labels, as a view that no one holds.
use Rattle.std.proofs.Common.{List, [], ◌∷◌, ◌++◌, ℕ, Bool, Option, Some, None, IsSome, IsTrue, Contains, map, slice_get, slice_set, slice_index, length, ◌≡◌, ◌<◌, ◌==◌, inl, inr, refl, sym, ◌∙◌, ap, subst, eqb-true, eq-eqb}
use Rattle.std.proofs.lemmas.Bool.{cases_Bool, cond-true, cond-false, or_cases, or_left, or_right}
use Rattle.std.proofs.lemmas.Option.{same_Some, slice_get_within, slice_get-get_or, get_or_from_slice_get}
use Rattle.std.proofs.lemmas.List.Elements.{Contains-append_left, Contains-append_right, Contains-append_cases}
use Rattle.chase_laws.specs.declared.pattern.Slot.{Slot}
use Rattle.chase_laws.specs.declared.pattern.Slot.TheVariants.{Entity, Any, Value, Folded, Fixed}
use Rattle.chase_laws.specs.declared.pair_state.PairState.{PairState}
use Rattle.chase_laws.specs.declared.pair_state.PairState.TheVariants as state
use Rattle.chase_laws.specs.Shape.{Shape}
use Rattle.chase_laws.specs.Graph.{NumberedGraph}
use Rattle.chase_laws.specs.Valuation.{AgreeAt, Matches}
use Rattle.chase_laws.specs.View.{label_in, both_equal, same_by}
use Rattle.chase_laws.specs.Joined.{links, LabelsJoin, Joined}
use Rattle.chase_laws.specs.Core.{IsTask, State, PairAt, ListsNear, IsPresent, name_count}
use Rattle.chase_laws.proofs.CallerLemmas.{near_named, joined_refl}
use Rattle.list_pool.specs.Pool.{list_at, without}
use Rattle.class_book.specs.Classes.{Classes}
use Rattle.chase_core.specs.declared.ticket.Ticket.{Ticket}
use Rattle.chase_core.specs.declared.ticket.Outcome.TheVariants as outcome
use Rattle.chase_core.specs.declared.ticket.Settled.{Settled}
use Rattle.chase_core.specs.declared.ticket.Settled.TheVariants as settled
use Rattle.near_lists.specs.Neighbourhoods.{AreNearNames}
use Rattle.chase_core.specs.Setup.{Preparation}
use Rattle.chase_core.specs.Table.{Standings}
use Rattle.chase_core.specs.Running.{state_of, running_with}
use Rattle.chase_core.specs.Present.{same_by_labels, SettlesPresent}
use Rattle.paired_search.specs.declared.all_keys.Finding.{Finding}
use Rattle.chase_core.specs.Settling.{Settles}
use Rattle.chase_core.proofs.Across.{ends_named}
use Rattle.chase_core.proofs.Members.{Contains-head, Contains-tail, Contains-cons_cases, Contains-nil}

-- ---- names with their labels

abbrev with_labels : List ℕ → List ℕ → List (ℕ × ℕ)
with_labels labels names = map (λ n. (n, slice_index labels n)) names

label_there : (labels names : List ℕ) (n : ℕ) → Contains names n → label_in (with_labels labels names) n ≡ Some (slice_index labels n)
label_there labels [] n h = absurd (Contains-nil n h)
label_there labels (x ∷ xs) n h = elim (cases_Bool (x == n)) [
  | inl t ↦ cond-true (x == n) (Some (slice_index labels x)) (label_in (with_labels labels xs) n) t ∙ ap (λ k. Some (slice_index labels k)) (eqb-true x n t)
  | inr f ↦ cond-false (x == n) (Some (slice_index labels x)) (label_in (with_labels labels xs) n) f ∙ elim (Contains-cons_cases x xs n h) [
    | inl e ↦ absurd (let t = eq-eqb x n e in cc)
    | inr k ↦ label_there labels xs n k
  ]
]

label_from : (labels names : List ℕ) (n l : ℕ) → label_in (with_labels labels names) n ≡ Some l → Contains names n × (l ≡ slice_index labels n)
label_from labels [] n l h = absurd (cc)
label_from labels (x ∷ xs) n l h = elim (cases_Bool (x == n)) [
  | inl t ↦
      (let e = eqb-true x n t in
      let here : Contains (x ∷ xs) n = subst (Contains (x ∷ xs)) e (Contains-head x xs) in
      (here, sym (same_Some (slice_index labels x) l (sym (cond-true (x == n) (Some (slice_index labels x)) (label_in (with_labels labels xs) n) t) ∙ h)) ∙ ap (slice_index labels) e))
  | inr f ↦
      (let r = label_from labels xs n l (sym (cond-false (x == n) (Some (slice_index labels x)) (label_in (with_labels labels xs) n) f) ∙ h) in
      (Contains-tail x xs n r.0, r.1))
]

some_of : (o : Option ℕ) → IsSome o → (k : ℕ) × (o ≡ Some k)
some_of None h = absurd (cc)
some_of (Some k) h = (k, refl)

-- ---- two labels that are equal

both_from : (o p o' p' : Option ℕ) → ((l : ℕ) → o ≡ Some l → o' ≡ Some l) → ((l : ℕ) → p ≡ Some l → p' ≡ Some l) → IsTrue (both_equal o p) → IsTrue (both_equal o' p')
both_from (Some k) (Some l) o' p' f g h = rw (f k refl, g l refl) h
both_from (Some k) None o' p' f g h = absurd (cc)
both_from None p o' p' f g h = absurd (cc)

both_some : (o p : Option ℕ) → IsTrue (both_equal o p) → (k : ℕ) × (o ≡ Some k) × (p ≡ Some k)
both_some (Some k) (Some l) h = (k, refl, ap Some (sym (eqb-true k l h)))
both_some (Some k) None h = absurd (cc)
both_some None p h = absurd (cc)

-- ---- a larger sameness

AgreeAt-grows : (G : NumberedGraph) (p q : ℕ → ℕ → Bool) (s : ℕ) (slot : Slot) (m n : ℕ) → (IsTrue (p m n) → IsTrue (q m n)) → AgreeAt G p s slot m n → AgreeAt G q s slot m n
AgreeAt-grows G p q s (Entity t) m n u h = λ o. u (h o)
AgreeAt-grows G p q s (Any t) m n u h = tt
AgreeAt-grows G p q s Value m n u h = h
AgreeAt-grows G p q s Folded m n u h = h
AgreeAt-grows G p q s (Fixed c) m n u h = tt

Matches-grows : (G : NumberedGraph) (K : List Shape) (p q : ℕ → ℕ → Bool) (a b : ℕ) → ((m n : ℕ) → IsTrue (p m n) → IsTrue (q m n)) → Matches G K p a b → Matches G K q a b
Matches-grows G K p q a b u h = record {
  key = h.key;
  pattern = h.pattern;
  found = h.found;
  left = h.left;
  right = h.right;
  witness = record {
    left = h.witness.left;
    right = h.witness.right;
    at_a = h.witness.at_a;
    at_b = h.witness.at_b;
    coincide = λ s slot k. AgreeAt-grows G p q s slot (slice_index h.left s) (slice_index h.right s) (u (slice_index h.left s) (slice_index h.right s)) (h.witness.coincide s slot k);
  };
}

-- ---- what is the same by the labels is joined

pub labels_join : (S : State) → LabelsJoin S.labels S.journal → (m n : ℕ) → IsTrue (same_by_labels S.labels m n) → Joined S.journal m n
labels_join S labels m n h = elim (or_cases (m == n) (both_equal (slice_get S.labels m) (slice_get S.labels n)) h) [
  | inl e ↦ subst (Joined S.journal m) (eqb-true m n e) (joined_refl (links S.journal) m)
  | inr e ↦
      (let r = both_some (slice_get S.labels m) (slice_get S.labels n) e in
      (labels m n (slice_get_within S.labels m r.0 r.1) (slice_get_within S.labels n r.0 r.2)).0
      (get_or_from_slice_get S.labels m r.0 0 r.1 ∙ sym (get_or_from_slice_get S.labels n r.0 0 r.2)))
]

-- ---- the view

module _ (S : Preparation) (ok : IsTask S.task) (near : AreNearNames S.task.graph S.task.patterns S.near.near) (st : State) (count : length st.labels ≡ name_count S.task) (t : Ticket) (ends : PairAt S.task t.pair t.a t.b) where
  abbrev near_a : List ℕ
  near_a = list_at S.near.near t.a

  abbrev near_b : List ℕ
  near_b = list_at S.near.near t.b

  a_in : t.a < name_count S.task
  a_in = (ends_named S.task ok t.pair t.a t.b ends).0

  b_in : t.b < name_count S.task
  b_in = (ends_named S.task ok t.pair t.a t.b ends).1

  abbrev pub view : List (ℕ × ℕ)
  view = with_labels st.labels (near_a ++ near_b)

  pub lists_near : ListsNear S.task t.a t.b view
  lists_near n = (
    (λ h. let k = some_of (label_in view n) h in elim (Contains-append_cases near_a near_b n (label_from st.labels (near_a ++ near_b) n k.0 k.1).0) [
      | inl i ↦ inl ((near.exact t.a n a_in).0 i)
      | inr i ↦ inr ((near.exact t.b n b_in).0 i)
    ]),
    (λ h. let there : Contains (near_a ++ near_b) n = elim h [
      | inl i ↦ Contains-append_left near_a near_b n ((near.exact t.a n a_in).1 i)
      | inr i ↦ Contains-append_right near_a near_b n ((near.exact t.b n b_in).1 i)
    ] in rw (label_there st.labels (near_a ++ near_b) n there) refl),
  )

  pub is_present : IsPresent st view
  is_present n l h = (label_from st.labels (near_a ++ near_b) n l h).1

  -- a label of the view is that of its name
  own_label : (n l : ℕ) → label_in view n ≡ Some l → slice_get st.labels n ≡ Some l
  own_label n l h =
      let within : n < length st.labels = elim ((lists_near n).0 (rw h refl)) [
        | inl i ↦ near_named S.task ok st.labels count t.a n i
        | inr i ↦ near_named S.task ok st.labels count t.b n i
      ] in
      slice_get-get_or st.labels n 0 within ∙ ap Some (sym (is_present n l h))

  same_too : (m n : ℕ) → IsTrue (same_by view m n) → IsTrue (same_by_labels st.labels m n)
  same_too m n h = elim (or_cases (m == n) (both_equal (label_in view m) (label_in view n)) h) [
    | inl e ↦ or_left (m == n) (both_equal (slice_get st.labels m) (slice_get st.labels n)) e
    | inr e ↦ or_right (m == n) (both_equal (slice_get st.labels m) (slice_get st.labels n))
        (both_from (label_in view m) (label_in view n) (slice_get st.labels m) (slice_get st.labels n) (own_label m) (own_label n) e)
  ]

  -- what the labels do not let match, the view does not
  pub none_by_view : ¬ (Matches S.task.graph S.task.patterns (same_by_labels st.labels) t.a t.b) → ¬ (Matches S.task.graph S.task.patterns (same_by view) t.a t.b)
  none_by_view none m = none (Matches-grows S.task.graph S.task.patterns (same_by view) (same_by_labels st.labels) t.a t.b same_too m)

-- ---- the two answers

module _ (S : Preparation) (ok : IsTask S.task) (near : AreNearNames S.task.graph S.task.patterns S.near.near) (book new_book : Classes) (old new : Standings) (count : length book.labels ≡ name_count S.task) (t : Ticket) (ends : PairAt S.task t.pair t.a t.b) where
  pub missed_present : ¬ (Joined book.journal t.a t.b) → ¬ (Matches S.task.graph S.task.patterns (same_by_labels book.labels) t.a t.b) →
      new.states ≡ slice_set old.states t.pair state.Missed → new.ready ≡ without old.ready t.pair →
      SettlesPresent (running_with S book old) t settled.Missed (running_with S book new)
  missed_present apart none states ready = record {
    view = view S ok near (state_of book old) count t ends;
    near = lists_near S ok near (state_of book old) count t ends;
    present = is_present S ok near (state_of book old) count t ends;
    found = outcome.Missed;
    settles = (
      (
        t.a,
        t.b,
        ends,
        apart,
        lists_near S ok near (state_of book old) count t ends,
        is_present S ok near (state_of book old) count t ends,
        none_by_view S ok near (state_of book old) count t ends none,
        ap (λ (xs : List PairState). state_of book (record { states = xs; ready = new.ready })) states,
      ),
      refl,
      ready,
    );
  }

  pub found_present : (f : Finding) (answer : Settled) → ((shown : List (ℕ × ℕ)) → Settles (running_with S book old) t shown (outcome.Found f) answer (running_with S new_book new)) →
      SettlesPresent (running_with S book old) t answer (running_with S new_book new)
  found_present f answer settles = record {
    view = view S ok near (state_of book old) count t ends;
    near = lists_near S ok near (state_of book old) count t ends;
    present = is_present S ok near (state_of book old) count t ends;
    found = outcome.Found f;
    settles = settles (view S ok near (state_of book old) count t ends);
  }
