-- A pair taken, searched and settled, over and over.
use Rattle.std.proofs.Common.{List, [], ◌∷◌, ◌++◌, ℕ, Option, Some, None, Contains, slice_get, slice_set, get_or, length, ◌≡◌, ◌≢◌, ◌<◌, ◌≤◌, ◌+◌, ◌*◌, ◌-◌, ◌⊎◌, inl, inr, refl, sym, ◌∙◌, ap, subst, arith, length-append, length-set, not, ◌==◌, eqb-true}
use Rattle.std.specs.Prelude.{IfSome, MatchOption}
use Rattle.std.proofs.lemmas.Bool.{cases_eq}
use Rattle.std.proofs.lemmas.Bool.Decides.{Decides-eqb}
use Rattle.std.proofs.lemmas.Option.{slice_get_within, slice_get-get_or, same_Some, some_pair_parts}
use Rattle.std.proofs.lemmas.Map.Made.{IsDistinct-from_AllPairs}
use Rattle.std.proofs.lemmas.Map.Steps.{length-le_from_distinct_below}
use Rattle.std.proofs.lemmas.Map.Views.{Contains-from_any}
use Rattle.chase_laws.specs.declared.pair_state.PairState.{PairState}
use Rattle.chase_laws.specs.declared.pair_state.PairState.TheVariants as state
use Rattle.chase_laws.specs.Joined.{Joined}
use Rattle.chase_laws.specs.Core.{Task, IsTask, State, IsSound, EndsApart, PairAt, IsPresent, Event, Happens, Run, IsFinished, Wakes, name_count, set_each}
use Rattle.chase_laws.specs.Core.Event.{Take}
use Rattle.list_pool.specs.Pool.{without}
use Rattle.chase_core.specs.declared.ticket.Ticket.{Ticket}
use Rattle.chase_core.specs.declared.ticket.Outcome.{Outcome}
use Rattle.chase_core.specs.declared.ticket.Outcome.TheVariants as outcome
use Rattle.chase_core.specs.declared.ticket.Settled.{Settled}
use Rattle.chase_core.specs.declared.ticket.Settled.TheVariants as settled
use Rattle.chase_core.specs.Setup.{Preparation}
use Rattle.chase_core.specs.Table.{IsReadyList}
use Rattle.chase_core.specs.Running.{Running, state_in, IsRunning}
use Rattle.chase_core.specs.Taking.{TakesFirst, TakesHint, pair_of}
use Rattle.chase_core.specs.Settling.{entry_of, Settles}
use Rattle.std.proofs.lemmas.List.{length_push}
use Rattle.std.proofs.lemmas.List.Sums.{length-filter, count_by-le-length}
use Rattle.class_book.specs.Classes.{Classes}
use Rattle.chase_core.proofs.Members.{Contains-nil}
use Rattle.chase_core.proofs.Tables.{set_here, set_other}
use Rattle.chase_core.proofs.Aside.{length-set_each}
use Rattle.chase_core.proofs.Passed.{set_each_from}
use Rattle.chase_core.proofs.Events.{EventsKeep, settled_event}

-- what the law of the core says of events and of room, as its clauses do
pub record CoreLaw : Type 0 where
  pub event : EventsKeep
  pub room : (T : Task) → IsTask T → (S : State) → IsSound T S → (p : ℕ) → EndsApart T S p → (length S.journal < length T.pairs) × (length S.journal + 1 < name_count T)

-- no pair is handed out
abbrev pub HaveLanded : Running → Type 0
HaveLanded C = (p : ℕ) → slice_get C.table.states p ≢ Some state.Flying

-- how much is left to do: each identification makes any number of pairs Ready at most
abbrev pub left_to_do : Running → ℕ
left_to_do C = (length C.setup.task.pairs - length C.book.journal) * (length C.setup.task.pairs + 1) + length C.table.ready

-- one run after another
pub run_append : (T : Task) (xs ys : List Event) (one two three : State) → Run T one xs two → Run T two ys three → Run T one (xs ++ ys) three
run_append T [] ys one two three h k = subst (λ S. Run T S ys three) h k
run_append T (x ∷ xs) ys one two three h k = (h.0, h.1, run_append T xs ys h.0 two three h.2 k)

-- a list of pairs, each once, is not longer than there are pairs
pub ready_short : (states : List PairState) (ready : List ℕ) → IsReadyList states ready → length ready ≤ length states
ready_short states ready r =
    length-le_from_distinct_below ready (length states) (IsDistinct-from_AllPairs Decides-eqb ready r.once)
    (λ q h. slice_get_within states q state.Ready ((r.exact q).0 (Contains-from_any eqb-true q ready h)))

less_by_one : (p j k r s : ℕ) → j < p → k ≡ j + 1 → s ≤ p → (p - k) * (p + 1) + s < (p - j) * (p + 1) + r
less_by_one p j k r s lt e le = let d : p - j ≡ (p - k) + 1 = omega arith in rw d (omega arith)

event_apart : (old mid : Running) (t : Ticket) (passed : List ℕ) → mid.book ≡ old.book → Happens old.setup.task (state_in old) (Take passed (Some t.pair)) (state_in mid) → PairAt old.setup.task t.pair t.a t.b → ¬ (Joined mid.book.journal t.a t.b)
event_apart old mid t passed book event at =
    let k = event.1.1 in
    let e = some_pair_parts t.a k.0 t.b k.1 (sym at ∙ k.2) in
    λ j. k.3 (subst (λ n. Joined old.book.journal n k.1) e.0 (subst (Joined old.book.journal t.a) e.1 (subst (λ (B : Classes). Joined B.journal t.a t.b) book j)))

-- the ends of a pair that was handed out are not joined
pub all_apart : (old mid : Running) (hint : Option ℕ) (o : Option Ticket) → mid.book ≡ old.book → MatchOption hint (TakesFirst old mid (pair_of o)) (λ p. TakesHint old mid p (pair_of o))
    → IfSome o (λ t. PairAt old.setup.task t.pair t.a t.b) → IfSome o (λ t. ¬ (Joined mid.book.journal t.a t.b))
all_apart old mid hint None book takes at = tt
all_apart old mid None (Some t) book takes at = event_apart old mid t takes.passed book takes.event at
all_apart old mid (Some p) (Some t) book takes at = event_apart old mid t takes.passed book takes.event at

module _ (law : CoreLaw) (old mid : Running) (t : Ticket) (running : IsRunning old) (setup : mid.setup ≡ old.setup) (book : mid.book ≡ old.book) (takes : TakesFirst old mid (Some t.pair)) where
  mid_states : mid.table.states ≡ slice_set (set_each old.table.states takes.passed state.Joined) t.pair state.Flying
  mid_states = ap (λ (S : State). S.pairs) takes.event.2

  -- the state between is sound
  pub mid_sound : IsSound mid.setup.task (state_in mid)
  mid_sound = subst (λ (S : Preparation). IsSound S.task (state_in mid)) (sym setup) (law.event old.setup.task running.task (state_in old) (state_in mid) (Take takes.passed (Some t.pair)) running.sound takes.event)

  pub mid_task : IsTask mid.setup.task
  mid_task = subst (λ (S : Preparation). IsTask S.task) (sym setup) running.task

  fewer : length mid.table.ready < length old.table.ready
  fewer = omega (arith, ap length takes.front, length-append (takes.passed ++ t.pair ∷ []) mid.table.ready, length-append takes.passed (t.pair ∷ []))

  -- the pair alone is handed out
  only_flies : HaveLanded old → (q : ℕ) → q ≢ t.pair → slice_get mid.table.states q ≢ Some state.Flying
  only_flies landed q other e =
      landed q (set_each_from old.table.states takes.passed state.Joined state.Flying q (λ x. cc)
      (sym (set_other (set_each old.table.states takes.passed state.Joined) t.pair state.Flying q other) ∙ sym (ap (λ ss. slice_get ss q) mid_states) ∙ e))

  pair_within : t.pair < length mid.table.states
  pair_within = rw mid_states (rw (length-set, length-set_each) (slice_get_within old.table.states t.pair state.Ready takes.event.1.0))

  written : (new : Running) (s : PairState) → HaveLanded old → s ≢ state.Flying → new.table.states ≡ slice_set mid.table.states t.pair s → HaveLanded new
  written new s landed other e q f = elim (cases_eq q t.pair) [
    | inl same ↦ other (same_Some s state.Flying (sym (set_here mid.table.states t.pair s pair_within) ∙ sym (ap (λ ss. slice_get ss t.pair) e) ∙ subst (λ n. slice_get new.table.states n ≡ Some state.Flying) same f))
    | inr differs ↦ only_flies landed q differs (sym (set_other mid.table.states t.pair s q differs) ∙ sym (ap (λ ss. slice_get ss q) e) ∙ f)
  ]

  missed_or_not : (o : Option PairState) → (o ≡ Some state.Missed) ⊎ (o ≢ Some state.Missed)
  missed_or_not None = inr (λ e. cc)
  missed_or_not (Some state.Ready) = inr (λ e. cc)
  missed_or_not (Some state.Flying) = inr (λ e. cc)
  missed_or_not (Some state.Missed) = inl refl
  missed_or_not (Some state.Joined) = inr (λ e. cc)

  entered : (new : Running) → HaveLanded old → Wakes mid.setup.task (state_in mid) (state_in new) t.pair → HaveLanded new
  entered new h w q e = elim (cases_eq q t.pair) [
    | inl same ↦ (let f : Some state.Flying ≡ Some state.Joined = sym (subst (λ n. slice_get new.table.states n ≡ Some state.Flying) same e) ∙ w.entered in cc)
    | inr differs ↦ elim (missed_or_not (slice_get mid.table.states q)) [
      | inr other ↦ only_flies h q differs (sym (w.others q differs other) ∙ e)
      | inl missed ↦
          (let within : q < length mid.setup.task.pairs = subst (λ n. q < n) mid_sound.one_state_each (slice_get_within mid.table.states q state.Missed missed) in
          let at = slice_get-get_or mid.setup.task.pairs q (0, 0) within in
          let a = (get_or mid.setup.task.pairs q (0, 0)).0 in
          let b = (get_or mid.setup.task.pairs q (0, 0)).1 in
          let still = w.quiet q a b differs at missed (λ touched. let f : Some state.Flying ≡ Some state.Ready = sym e ∙ w.woken q a b differs at missed touched in cc) in
          let f : Some state.Flying ≡ Some state.Missed = sym e ∙ still in cc)
    ]
  ]

  -- after the pair was settled, none is handed out
  pub landed : (new : Running) (view : List (ℕ × ℕ)) (found : Outcome) (answer : Settled) → HaveLanded old → Settles mid t view found answer new → HaveLanded new
  landed new view (outcome.Found f) settled.Already h s = written new state.Joined h (λ e. cc) (ap (λ (S : State). S.pairs) s.0.1)
  landed new view outcome.Missed settled.Already h s = written new state.Joined h (λ e. cc) (ap (λ (S : State). S.pairs) s.0.1)
  landed new view (outcome.Found f) (settled.Entered place) h s = entered new h s.0.4
  landed new view outcome.Missed (settled.Entered place) h s = absurd s
  landed new view (outcome.Found f) settled.Missed h s = absurd s
  landed new view outcome.Missed settled.Missed h s = written new state.Missed h (λ e. cc) (ap (λ (S : State). S.pairs) s.0.7)
  landed new view (outcome.Found f) (settled.Reopened node seen now) h s = absurd s
  landed new view outcome.Missed (settled.Reopened node seen now) h s = written new state.Ready h (λ e. cc) (ap (λ (S : State). S.pairs) s.0.2)

  shorter : (new : Running) → new.setup ≡ mid.setup → new.book ≡ mid.book → length new.table.ready ≤ length mid.table.ready → left_to_do new < left_to_do old
  shorter new same_setup same_book le = rw (same_setup ∙ setup, same_book ∙ book) (omega (arith, fewer))

  without_short : (p : ℕ) → length (without mid.table.ready p) ≤ length mid.table.ready
  without_short p = rw length-filter (count_by-le-length (λ o. not (o == p)) mid.table.ready)

  -- there is less to do
  pub less : (new : Running) (view : List (ℕ × ℕ)) (found : Outcome) (answer : Settled) → new.setup ≡ mid.setup → IsRunning new → IsPresent (state_in mid) view → Settles mid t view found answer new → left_to_do new < left_to_do old
  less new view (outcome.Found f) settled.Already e r present s = shorter new e s.1 (rw s.2 (without_short t.pair))
  less new view outcome.Missed settled.Already e r present s = shorter new e s.1 (rw s.2 (without_short t.pair))
  less new view (outcome.Found f) (settled.Entered place) e r present s =
      let room = law.room mid.setup.task mid_task (state_in mid) mid_sound t.pair (t.a, t.b, s.0.0, s.0.1) in
      let short : length new.table.ready ≤ length old.setup.task.pairs = subst (λ n. length new.table.ready ≤ n) (r.sound.one_state_each ∙ ap (λ (S : Preparation). length S.task.pairs) (e ∙ setup)) (ready_short new.table.states new.table.ready r.ready) in
      let before : length old.book.journal < length old.setup.task.pairs = rw (setup, book) at room.0 in
      let journal : length new.book.journal ≡ length old.book.journal + 1 = ap length s.0.3.journal ∙ length_push mid.book.journal (entry_of t f) ∙ ap (λ (B : Classes). length B.journal + 1) book in
      rw (e ∙ setup) (less_by_one (length old.setup.task.pairs) (length old.book.journal) (length new.book.journal) (length old.table.ready) (length new.table.ready) before journal short)
  less new view outcome.Missed (settled.Entered place) e r present s = absurd s
  less new view (outcome.Found f) settled.Missed e r present s = absurd s
  less new view outcome.Missed settled.Missed e r present s = shorter new e s.1 (rw s.2 (without_short t.pair))
  less new view (outcome.Found f) (settled.Reopened node seen now) e r present s = absurd s
  less new view outcome.Missed (settled.Reopened node seen now) e r present s =
      let over = s.0.1 in absurd (over.3 (present over.0 over.1 over.2))

  -- the two events go on a run
  pub two_more : (new : Running) (view : List (ℕ × ℕ)) (found : Outcome) (answer : Settled) → Settles mid t view found answer new → (first : State) →
      (events : List Event) × Run old.setup.task first events (state_in old) → (events : List Event) × Run old.setup.task first events (state_in new)
  two_more new view found answer s first r =
      let event = settled_event mid new t view found answer s in
      let taken = Take takes.passed (Some t.pair) in (
        r.0 ++ taken ∷ event.0 ∷ [],
        run_append old.setup.task r.0 (taken ∷ event.0 ∷ []) first (state_in old) (state_in new) r.1
            (state_in mid, takes.event, (state_in new, subst (λ (S : Preparation). Happens S.task (state_in mid) event.0 (state_in new)) setup event.1, refl)),
      )

-- ---- the end

module _ (old new : Running) (running : IsRunning new) (landed_old : HaveLanded old) (takes : TakesFirst old new None) where
  new_landed : HaveLanded new
  new_landed q e = landed_old q (set_each_from old.table.states takes.passed state.Joined state.Flying q (λ x. cc) (sym (ap (λ (S : State). slice_get S.pairs q) takes.event.2) ∙ e))

  pub finished : IsFinished (state_in new)
  finished k d h = either (get_or new.table.states k d) (slice_get-get_or new.table.states k d h)
    where
      either : (s : PairState) → slice_get new.table.states k ≡ Some s → (s ≡ state.Missed) ⊎ (s ≡ state.Joined)
      either state.Ready at = absurd (Contains-nil k (subst (λ xs. Contains xs k) (takes.empty refl) ((running.ready.exact k).1 at)))
      either state.Flying at = absurd (new_landed k at)
      either state.Missed at = inl refl
      either state.Joined at = inr refl

  pub one_more : (first : State) → (events : List Event) × Run old.setup.task first events (state_in old) → (events : List Event) × Run old.setup.task first events (state_in new)
  one_more first r = (r.0 ++ Take takes.passed None ∷ [], run_append old.setup.task r.0 (Take takes.passed None ∷ []) first (state_in old) (state_in new) r.1 (state_in new, takes.event, refl))
