-- What was passed over and what was handed out make a take.
use Rattle.std.proofs.Common.{List, [], ◌∷◌, ◌++◌, ℕ, zero, suc, Option, Some, None, Contains, slice_get, slice_set, get_or, length, ◌≡◌, ◌<◌, inl, inr, refl, sym, ◌∙◌, ap, subst, arith, append-nil, append_assoc}
use Rattle.std.specs.Prelude.{MatchOption}
use Rattle.std.specs.Option.{ForSome}
use Rattle.std.proofs.lemmas.Option.{slice_get_within, same_Some, some_pair_parts}
use Rattle.std.proofs.lemmas.List.Elements.{All-contains}
use Rattle.chase_laws.specs.declared.pair_state.PairState.{PairState}
use Rattle.chase_laws.specs.declared.pair_state.PairState.TheVariants as state
use Rattle.chase_laws.specs.Joined.{Joined}
use Rattle.chase_laws.specs.Core.{Task, State, Stands, EndsJoined, EndsApart}
use Rattle.list_pool.specs.Pool.{without}
use Rattle.class_book.specs.Classes.{Classes}
use Rattle.chase_core.specs.Setup.{Preparation}
use Rattle.chase_core.specs.Table.{Standings, IsReadyList}
use Rattle.chase_core.specs.Running.{state_of, running_with}
use Rattle.chase_core.specs.Passing.{PassesOver, PassesHint, Passes}
use Rattle.chase_core.specs.Taking.{TakesFirst, TakesHint}
use Rattle.chase_core.proofs.Tables.{set_here, without_none}
use Rattle.chase_core.proofs.Aside.{length-set_each}
use Rattle.chase_core.proofs.Passed.{head_without, first_was_ready}

-- ends cannot be joined and not joined
pub joined_apart : (T : Task) (S : State) (p : ℕ) → EndsJoined T S p → EndsApart T S p → ⊥
joined_apart T S p h k =
    let e = some_pair_parts h.0 k.0 h.1 k.1 (sym h.2 ∙ k.2) in
    k.3 (subst (λ m. Joined S.journal m k.1) e.0 (subst (Joined S.journal h.0) e.1 h.3))

none_first : (xs : List ℕ) → None ≡ slice_get xs 0 → xs ≡ []
none_first [] h = refl
none_first (x ∷ xs) h = absurd (cc)

module _ (S : Preparation) (book : Classes) (old mid : Standings) (listed : IsReadyList old.states old.ready) where
  -- all Ready pairs were passed over
  takes_none : PassesOver S.task book old mid None → TakesFirst (running_with S book old) (running_with S book mid) None
  takes_none p =
      let empty : mid.ready ≡ [] = none_first mid.ready p.first in
      let all : old.ready ≡ p.passed = p.have.front ∙ ap (λ xs. p.passed ++ xs) empty ∙ append-nil p.passed in
      record {
        passed = p.passed;
        event = (p.have.all, tt, ap (λ (ss : List PairState). state_of book (record { states = ss; ready = mid.ready })) p.have.states);
        front = p.have.front ∙ ap (λ xs. xs ++ mid.ready) (sym (append-nil p.passed));
        none = (
          (λ _ q ready. (All-contains (λ (n : ℕ). Stands (state_of book old) n state.Ready × EndsJoined S.task (state_of book old) n) p.passed q p.have.all
              (subst (λ xs. Contains xs q) all ((listed.exact q).1 ready))).1),
          (λ _. refl),
        );
        empty = λ _. empty;
      }

  -- the first pair whose ends are not joined was handed out
  takes_some : (next : ℕ) (new : Standings) → PassesOver S.task book old mid (Some next) → new.states ≡ slice_set mid.states next state.Flying → new.ready ≡ without mid.ready next →
      TakesFirst (running_with S book old) (running_with S book new) (Some next)
  takes_some next new p states ready =
      let was : slice_get old.states next ≡ Some state.Ready = first_was_ready S.task book old mid p.passed p.have p.listed next (sym p.first) in
      record {
        passed = p.passed;
        event = (p.have.all, (was, p.apart), ap (λ (ss : List PairState). state_of book (record { states = ss; ready = new.ready })) (states ∙ ap (λ ss. slice_set ss next state.Flying) p.have.states));
        front = p.have.front ∙ ap (λ xs. p.passed ++ xs) (head_without mid.ready next p.listed.once (sym p.first) ∙ ap (λ xs. next ∷ xs) (sym ready)) ∙ sym (append_assoc p.passed (next ∷ []) new.ready);
        none = ((λ e. absurd (cc)), (λ all. absurd (joined_apart S.task (state_of book old) next (all next was) p.apart)));
        empty = λ e. absurd (cc);
      }

  -- the hinted pair was not handed out
  takes_no_hint : (hint : ℕ) → PassesHint S.task book old mid hint None → hint < length old.states → TakesHint (running_with S book old) (running_with S book mid) hint None
  takes_no_hint hint p within = elim p.cases [
    | inl h ↦ absurd (let e = h.2 in cc)
    | inr rest ↦ elim rest [
      | inl h ↦ record {
        passed = hint ∷ [];
        event = (
          (λ k d i. only_one k d i (λ n. Stands (state_of book old) n state.Ready × EndsJoined S.task (state_of book old) n) (h.0, h.1)),
          tt,
          ap (λ (ss : List PairState). state_of book (record { states = ss; ready = mid.ready })) h.3,
        );
        only = λ k d i. only_one k d i (λ n. n ≡ hint) refl;
        that = tt;
        none = ((λ _. inr h.1), (λ _. refl));
        left = λ e. let f : Some state.Joined ≡ Some state.Ready = sym (set_here old.states hint state.Joined within) ∙ sym (ap (λ ss. slice_get ss hint) h.3) ∙ e in cc;
        ready = h.4;
      }
      | inr h ↦ record {
        passed = [];
        event = ((λ k d i. absurd (omega arith)), tt, ap (state_of book) h.2);
        only = λ k d i. absurd (omega arith);
        that = tt;
        none = ((λ _. inl h.0), (λ _. refl));
        left = λ e. h.0 (subst (λ (t : Standings). slice_get t.states hint ≡ Some state.Ready) h.2 e);
        ready = ap (λ (t : Standings). t.ready) h.2 ∙ sym (without_none old.ready hint (λ c. h.0 ((listed.exact hint).0 c)));
      }
    ]
  ]
    where
      only_one : (k d : ℕ) → k < length (hint ∷ []) → (P : ℕ → Type 0) → P hint → P (get_or (hint ∷ []) k d)
      only_one zero d i P h = h
      only_one (suc k) d i P h = absurd (omega arith)

  -- it was handed out
  takes_hint : (hint next : ℕ) (new : Standings) → PassesHint S.task book old mid hint (Some next) → hint < length old.states → new.states ≡ slice_set mid.states next state.Flying → new.ready ≡ without mid.ready next →
      TakesHint (running_with S book old) (running_with S book new) hint (Some next)
  takes_hint hint next new p within states ready = elim p.cases [
    | inl h ↦
        (let same : next ≡ hint = same_Some next hint h.2 in
        let set : new.states ≡ slice_set old.states hint state.Flying = states ∙ ap (λ (t : Standings). slice_set t.states next state.Flying) h.3 ∙ ap (λ n. slice_set old.states n state.Flying) same in
        record {
          passed = [];
          event = (
            (λ k d i. absurd (omega arith)),
            subst (λ n. Stands (state_of book old) n state.Ready × EndsApart S.task (state_of book old) n) (sym same) (h.0, h.1),
            ap (λ (ss : List PairState). state_of book (record { states = ss; ready = new.ready })) (set ∙ ap (λ n. slice_set old.states n state.Flying) (sym same)),
          );
          only = λ k d i. absurd (omega arith);
          that = same;
          none = ((λ e. absurd (cc)), (λ k. absurd (elim k [ inl r ↦ r h.0 | inr r ↦ joined_apart S.task (state_of book old) hint r h.1 ])));
          left = λ e. let f : Some state.Flying ≡ Some state.Ready = sym (set_here old.states hint state.Flying within) ∙ sym (ap (λ ss. slice_get ss hint) set) ∙ e in cc;
          ready = ready ∙ ap (λ (t : Standings). without t.ready next) h.3 ∙ ap (without old.ready) same;
        })
    | inr rest ↦ elim rest [
      | inl h ↦ absurd (let e = h.2 in cc)
      | inr h ↦ absurd (let e = h.1 in cc)
    ]
  ]

  -- ---- by a hint or without

  -- no pair was handed out
  pub takes_not : (hint : Option ℕ) → Passes S.task book old mid hint None → ForSome hint (λ p. p < length old.states) →
      MatchOption hint (TakesFirst (running_with S book old) (running_with S book mid) None) (λ p. TakesHint (running_with S book old) (running_with S book mid) p None)
  takes_not None p within = takes_none p
  takes_not (Some hint) p within = takes_no_hint hint p (within hint refl)

  -- a pair was handed out
  pub takes : (hint : Option ℕ) (next : ℕ) (new : Standings) → Passes S.task book old mid hint (Some next) → ForSome hint (λ p. p < length old.states) →
      new.states ≡ slice_set mid.states next state.Flying → new.ready ≡ without mid.ready next →
      MatchOption hint (TakesFirst (running_with S book old) (running_with S book new) (Some next)) (λ p. TakesHint (running_with S book old) (running_with S book new) p (Some next))
  takes None next new p within = takes_some next new p
  takes (Some hint) next new p within = takes_hint hint next new p (within hint refl)

  -- a pair to hand out is one of the pairs, and none was taken from the table
  pub next_within : (hint : Option ℕ) (next : ℕ) → Passes S.task book old mid hint (Some next) → next < length old.states
  next_within None next p = slice_get_within old.states next state.Ready (first_was_ready S.task book old mid p.passed p.have p.listed next (sym p.first))
  next_within (Some hint) next p = elim p.cases [
    | inl h ↦ subst (λ n. n < length old.states) (sym (same_Some next hint h.2)) (slice_get_within old.states hint state.Ready h.0)
    | inr rest ↦ elim rest [ inl h ↦ absurd (let e = h.2 in cc) | inr h ↦ absurd (let e = h.1 in cc) ]
  ]

  pub as_long : (hint next : Option ℕ) → Passes S.task book old mid hint next → length mid.states ≡ length old.states
  as_long None next p = ap length p.have.states ∙ length-set_each old.states p.passed state.Joined
  as_long (Some hint) next p = elim p.cases [
    | inl h ↦ ap (λ (t : Standings). length t.states) h.3
    | inr rest ↦ elim rest [
      | inl h ↦ ap length h.3 ∙ length-set_each old.states (hint ∷ []) state.Joined
      | inr h ↦ ap (λ (t : Standings). length t.states) h.2
    ]
  ]
