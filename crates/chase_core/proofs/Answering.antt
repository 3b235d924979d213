-- The event that each answer stands for.
use Rattle.std.proofs.Common.{List, [], ◌∷◌, ℕ, suc, Some, All, slice_get, slice_index, slice_set, get_or, length, ◌≡◌, ◌≢◌, ◌<◌, ◌⊎◌, ◌↔◌, inl, inr, ◌==◌, refl, sym, ◌∙◌, ap, subst, arith, eqb-true, eq-eqb, ne_eqb, ap₂, zero}
use Rattle.std.proofs.lemmas.Bool.{cases_Bool, cond-true, cond-false, both_ways}
use Rattle.std.proofs.lemmas.Option.{slice_get_within, slice_get-get_or, get_or_from_slice_get, same_Some}
use Rattle.chase_laws.specs.declared.pair_state.PairState.{PairState}
use Rattle.chase_laws.specs.declared.pair_state.PairState.TheVariants as state
use Rattle.chase_laws.specs.Joined.{joined_by, Joined}
use Rattle.chase_laws.specs.Valuation.{Matches}
use Rattle.chase_laws.specs.View.{label_in, same_by}
use Rattle.chase_laws.specs.Core.{Task, IsTask, PairAt, EndsJoined, ListsNear, IsPresent}
use Rattle.chase_laws.proofs.CallerLemmas.{near_named}
use Rattle.paired_search.specs.Held.{Ascends}
use Rattle.list_pool.specs.Pool.{without}
use Rattle.class_book.specs.Classes.{Classes}
use Rattle.chase_core.specs.declared.ticket.Ticket.{Ticket}
use Rattle.chase_core.specs.declared.ticket.Outcome.{Outcome}
use Rattle.chase_core.specs.declared.ticket.Outcome.TheVariants as outcome
use Rattle.chase_core.specs.declared.ticket.Settled.{Settled}
use Rattle.chase_core.specs.declared.ticket.Settled.TheVariants as settled
use Rattle.chase_core.specs.Setup.{Preparation}
use Rattle.chase_core.specs.Table.{Standings}
use Rattle.chase_core.specs.Running.{Running, state_of, state_in, running_with}
use Rattle.chase_core.specs.Settling.{Settles, GoesLast, IsFirstOvertaken}
use Rattle.chase_core.proofs.Taken.{joined_apart}

-- ---- the label of a name in a view whose names ascend

label_later : (p : ℕ × ℕ) (view : List (ℕ × ℕ)) (n l : ℕ) → label_in (p ∷ view) n ≡ Some l → ((p.0 ≡ n) × (p.1 ≡ l)) ⊎ (label_in view n ≡ Some l)
label_later p view n l h = elim (cases_Bool (p.0 == n)) [
  | inl t ↦ inl (eqb-true p.0 n t, same_Some p.1 l (sym (cond-true (p.0 == n) (Some p.1) (label_in view n) t) ∙ h))
  | inr f ↦ inr (sym (cond-false (p.0 == n) (Some p.1) (label_in view n) f) ∙ h)
]

-- where a view has the label of a name
pub label_at : (view : List (ℕ × ℕ)) (n l : ℕ) → label_in view n ≡ Some l → (k : ℕ) × (slice_get view k ≡ Some (n, l))
label_at [] n l h = absurd (cc)
label_at (p ∷ view) n l h = elim (label_later p view n l h) [
  | inl e ↦ (0, ap Some (let q : p ≡ (n, l) = pair_is p n l e.0 e.1 in q))
  | inr k ↦ (let r = label_at view n l k in (suc r.0, r.1))
]
  where
    pair_is : (p : ℕ × ℕ) (n l : ℕ) → p.0 ≡ n → p.1 ≡ l → p ≡ (n, l)
    pair_is p n l e f = ap₂ (λ i j. (i, j)) e f

-- what stands in a view whose names ascend is the label of its name
pub label_of : (view : List (ℕ × ℕ)) (k n l : ℕ) → Ascends view → slice_get view k ≡ Some (n, l) → label_in view n ≡ Some l
label_of [] k n l up h = absurd (cc)
label_of (p ∷ view) zero n l up h =
    let e : p ≡ (n, l) = same_Some p (n, l) h in
    cond-true (p.0 == n) (Some p.1) (label_in view n) (eq-eqb p.0 n (ap (λ (q : ℕ × ℕ). q.0) e)) ∙ ap (λ (q : ℕ × ℕ). Some q.1) e
label_of (p ∷ view) (suc k) n l up h =
    let later : p.0 < n = subst (λ (q : ℕ × ℕ). p.0 < q.0) (get_or_from_slice_get view k (n, l) (n, l) h) (up 0 (suc k) (n, l) (omega arith) (let w = slice_get_within view k (n, l) h in omega arith)) in
    cond-false (p.0 == n) (Some p.1) (label_in view n) (ne_eqb p.0 n (λ e. omega arith)) ∙ label_of view k n l (λ i j d lt h. up (suc i) (suc j) d (omega arith) (omega arith)) h

module _ (T : Task) (ok : IsTask T) (labels : List ℕ) (count : length labels ≡ length T.graph.literal) (a b : ℕ) (view : List (ℕ × ℕ)) (up : Ascends view) (near : ListsNear T a b view) where
  -- the names of a view of what is near have labels
  pub view_named : All (λ p. p.0 < length labels) view
  view_named k d h =
      let n = (get_or view k d).0 in
      let e : label_in view n ≡ Some (get_or view k d).1 = label_of view k n (get_or view k d).1 up (slice_get-get_or view k d h) in
      elim ((near n).0 (rw e refl)) [
        | inl i ↦ near_named T ok labels count a n i
        | inr i ↦ near_named T ok labels count b n i
      ]

-- ---- the events

module _ (S : Preparation) (book : Classes) (old new : Standings) (t : Ticket) (view : List (ℕ × ℕ)) (up : Ascends view) (ends : PairAt S.task t.pair t.a t.b) (apart : ¬ (Joined book.journal t.a t.b)) where
  state_is : (ss : List PairState) → new.states ≡ ss → state_of book new ≡ record (state_of book old) { pairs = ss }
  state_is ss e = ap (λ (xs : List PairState). state_of book (record { states = xs; ready = new.ready })) e

  pub settles_missed : ListsNear S.task t.a t.b view → ¬ (Matches S.task.graph S.task.patterns (same_by view) t.a t.b) →
      ((k n l : ℕ) → slice_get view k ≡ Some (n, l) → l ≡ slice_index book.labels n) → new.states ≡ slice_set old.states t.pair state.Missed → new.ready ≡ without old.ready t.pair →
      Settles (running_with S book old) t view outcome.Missed settled.Missed (running_with S book new)
  settles_missed near none present states ready = (
    (t.a, t.b, ends, apart, near, (λ n l at. let r = label_at view n l at in present r.0 n l r.1), none, state_is (slice_set old.states t.pair state.Missed) states),
    refl,
    ready,
  )

  pub settles_reopened : (node seen now : ℕ) → IsFirstOvertaken book.labels view node seen now → new.states ≡ slice_set old.states t.pair state.Ready → GoesLast old t.pair new →
      Settles (running_with S book old) t view outcome.Missed (settled.Reopened node seen now) (running_with S book new)
  settles_reopened node seen now first states last = (
    ((t.a, t.b, ends, apart), (node, seen, label_of view first.place node seen up first.stands, (λ e. first.differs (e ∙ sym first.present))), state_is (slice_set old.states t.pair state.Ready) states),
    first,
    refl,
    last,
  )

-- ---- the first answer

-- a pair is answered as joined already exactly where its ends are joined
pub answers_already : (old new : Running) (t : Ticket) (view : List (ℕ × ℕ)) (found : Outcome) (answer : Settled) → PairAt old.setup.task t.pair t.a t.b → Settles old t view found answer new →
    (answer ≡ settled.Already) ↔ Joined old.book.journal t.a t.b
answers_already old new t view found settled.Already at s = ((λ _. joined_here old t at (joined_of found s)), (λ _. refl))
  where
    joined_here : (C : Running) (u : Ticket) → PairAt C.setup.task u.pair u.a u.b → EndsJoined C.setup.task (state_in C) u.pair → Joined C.book.journal u.a u.b
    joined_here C u at h = elim (cases_Bool (joined_by C.book.journal u.a u.b)) [
      | inl j ↦ j
      | inr n ↦ absurd (joined_apart C.setup.task (state_in C) u.pair h (u.a, u.b, at, (λ j. both_ways (joined_by C.book.journal u.a u.b) n j)))
    ]

    joined_of : (f : Outcome) → Settles old t view f settled.Already new → EndsJoined old.setup.task (state_in old) t.pair
    joined_of (outcome.Found f) s = s.0.0
    joined_of outcome.Missed s = s.0.0
answers_already old new t view (outcome.Found f) (settled.Entered place) at s = ((λ e. absurd (cc)), (λ j. absurd (s.0.1 j)))
answers_already old new t view outcome.Missed (settled.Entered place) at s = absurd s
answers_already old new t view (outcome.Found f) settled.Missed at s = absurd s
answers_already old new t view outcome.Missed settled.Missed at s =
    ((λ e. absurd (cc)), (λ j. absurd (joined_apart old.setup.task (state_in old) t.pair (t.a, t.b, at, j) (s.0.0, s.0.1, s.0.2, s.0.3))))
answers_already old new t view (outcome.Found f) (settled.Reopened node seen now) at s = absurd s
answers_already old new t view outcome.Missed (settled.Reopened node seen now) at s =
    ((λ e. absurd (cc)), (λ j. absurd (joined_apart old.setup.task (state_in old) t.pair (t.a, t.b, at, j) s.0.0)))

-- ---- the last answer

-- a pair is not searched again where the view has the present labels
pub never_again : (old new : Running) (t : Ticket) (view : List (ℕ × ℕ)) (found : Outcome) (answer : Settled) → IsPresent (state_in old) view → Settles old t view found answer new →
    (node seen now : ℕ) → answer ≢ settled.Reopened node seen now
never_again old new t view found settled.Already present s node seen now e = absurd (cc)
never_again old new t view found (settled.Entered place) present s node seen now e = absurd (cc)
never_again old new t view found settled.Missed present s node seen now e = absurd (cc)
never_again old new t view (outcome.Found f) (settled.Reopened n l m) present s node seen now e = absurd s
never_again old new t view outcome.Missed (settled.Reopened n l m) present s node seen now e = let o = s.0.1 in o.3 (present o.0 o.1 o.2)
