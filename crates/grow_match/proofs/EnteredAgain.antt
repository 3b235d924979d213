-- A pair that was not searched, taken and settled by an entry.
use Rattle.std.proofs.Common.{List, [], ◌∷◌, ℕ, zero, suc, Option, Some, None, IsSome, length, get_or, slice_get, slice_set, unwrap_or, ◌≡◌, ◌≢◌, ◌<◌, ◌⊎◌, ◌↔◌, inl, inr, refl, sym, ◌∙◌, ap, subst, length-set}
use Rattle.std.proofs.lemmas.Bool.{cases_eq}
use Rattle.std.proofs.lemmas.List.Elements.{All-set}
use Rattle.std.proofs.lemmas.Option.{slice_get_within, slice_get-get_or, get_or_from_slice_get}
use Rattle.chase_laws.specs.declared.pair_state.PairState.{PairState}
use Rattle.chase_laws.specs.declared.pair_state.PairState.TheVariants as state
use Rattle.chase_laws.specs.Joined.{Joined}
use Rattle.chase_laws.specs.Core.{Task, State, IsSound, PairAt, Stands, Happens, Wakes, set_each}
use Rattle.chase_laws.specs.Core.Event.{Take, Enter}
use Rattle.paired_search.specs.declared.all_keys.Finding.{Finding}
use Rattle.chase_core.specs.declared.ticket.Ticket.{Ticket}
use Rattle.chase_core.specs.declared.ticket.Outcome.TheVariants as outcome
use Rattle.chase_core.specs.declared.ticket.Settled.{Settled}
use Rattle.chase_core.specs.declared.ticket.Settled.TheVariants as settled
use Rattle.class_book.specs.Classes.{Classes}
use Rattle.chase_core.specs.Setup.{Preparation}
use Rattle.chase_core.specs.Running.{Running, state_in}
use Rattle.chase_core.specs.Taking.{TakesHint, pair_of}
use Rattle.chase_core.specs.Settling.{entry_of, Settles}
use Rattle.grow_match.specs.Replaying.{AreUnsearched}

-- the parts of a pair that is read twice
pub same_ends : (o : Option (ℕ × ℕ)) (a b c d : ℕ) → o ≡ Some (a, b) → o ≡ Some (c, d) → (a ≡ c) × (b ≡ d)
same_ends o a b c d h k =
    let e : Some (a, b) ≡ Some (c, d) = sym h ∙ k in
    (ap (λ (p : Option (ℕ × ℕ)). (unwrap_or p (0, 0)).0) e, ap (λ (p : Option (ℕ × ℕ)). (unwrap_or p (0, 0)).1) e)

-- ---- the pair is handed out

-- a pair that was not searched and whose ends are not joined is Ready
pub is_ready : (T : Task) (S : State) (p a b : ℕ) → IsSound T S → AreUnsearched S.pairs → PairAt T p a b → ¬ (Joined S.journal a b) → Stands S p state.Ready
is_ready T S p a b sound all pair apart =
    let within : p < length S.pairs = rw sound.one_state_each (slice_get_within T.pairs p (a, b) pair) in
    let at = slice_get-get_or S.pairs p state.Ready within in
    elim (all p state.Ready within) [
      | inl ready ↦ at ∙ ap Some ready
      | inr joined ↦ absurd (apart (sound.joined p a b pair (at ∙ ap Some joined)))
    ]

pub handed_out : (old new : Running) (p a b : ℕ) (taken : Option Ticket) → PairAt old.setup.task p a b → ¬ (Joined old.book.journal a b) → Stands (state_in old) p state.Ready →
    TakesHint old new p (pair_of taken) → IsSome taken
handed_out old new p a b (Some t) pair apart ready takes = refl
handed_out old new p a b None pair apart ready takes = absurd (elim (takes.none.0 refl) [
  | inl other ↦ other ready
  | inr j ↦ (let e = same_ends (slice_get old.setup.task.pairs p) j.0 j.1 a b j.2 pair in
      apart (subst (λ m. Joined old.book.journal m b) e.0 (subst (Joined old.book.journal j.0) e.1 j.3)))
])

-- ---- what settling it does

-- what was found for ends that are not joined is entered
pub is_entered : (old new : Running) (t : Ticket) (view : List (ℕ × ℕ)) (f : Finding) (answer : Settled) → ¬ (Joined old.book.journal t.a t.b) →
    (answer ≡ settled.Already) ↔ Joined old.book.journal t.a t.b → Settles old t view (outcome.Found f) answer new →
    Happens old.setup.task (state_in old) (Enter t.pair (entry_of t f)) (state_in new)
is_entered old new t view f settled.Already apart already h = absurd (apart (already.0 refl))
is_entered old new t view f (settled.Entered place) apart already h = h.0
is_entered old new t view f settled.Missed apart already h = absurd h
is_entered old new t view f (settled.Reopened node seen now) apart already h = absurd h

set_each_unsearched : (xs : List PairState) (is : List ℕ) → AreUnsearched xs → AreUnsearched (set_each xs is state.Joined)
set_each_unsearched xs [] all = all
set_each_unsearched xs (i ∷ is) all =
    set_each_unsearched (slice_set xs i state.Joined) is (All-set (λ (s : PairState). (s ≡ state.Ready) ⊎ (s ≡ state.Joined)) xs i state.Joined (inr refl) all)

set_other : (xs : List PairState) (i : ℕ) (y : PairState) (j : ℕ) → j ≢ i → slice_get (slice_set xs i y) j ≡ slice_get xs j
set_other [] i y j h = refl
set_other (x ∷ xs) zero y zero h = absurd (h refl)
set_other (x ∷ xs) zero y (suc j) h = refl
set_other (x ∷ xs) (suc i) y zero h = refl
set_other (x ∷ xs) (suc i) y (suc j) h = set_other xs i y j (λ e. h (ap suc e))

-- the pair itself is Joined afterwards, and no other pair changes
pub still_unsearched : (T : Task) (old mid new : State) (passed : List ℕ) (p : ℕ) → AreUnsearched old.pairs → Happens T old (Take passed (Some p)) mid → Wakes T mid new p → AreUnsearched new.pairs
still_unsearched T old mid new passed p all take wakes =
    let before : List PairState = set_each old.pairs passed state.Joined in
    let were : AreUnsearched before = set_each_unsearched old.pairs passed all in
    let flying : mid.pairs ≡ slice_set before p state.Flying = ap (λ (S : State). S.pairs) take.2 in
    let long : length new.pairs ≡ length before = wakes.count ∙ ap length flying ∙ length-set before p state.Flying in
    λ k d within. elim (cases_eq k p) [
      | inl same ↦ inr (get_or_from_slice_get new.pairs k state.Joined d (subst (λ (q : ℕ). slice_get new.pairs q ≡ Some state.Joined) (sym same) wakes.entered))
      | inr other ↦
          let inside : k < length before = rw (← long) within in
          let as_before : slice_get mid.pairs k ≡ slice_get before k = ap (λ (ss : List PairState). slice_get ss k) flying ∙ set_other before p state.Flying k other in
          let stood : slice_get before k ≡ Some (get_or before k d) = slice_get-get_or before k d inside in
          let stands : slice_get new.pairs k ≡ Some (get_or before k d) =
          wakes.others k other (λ missed. not_missed (get_or before k d) (were k d inside) (sym stood ∙ sym as_before ∙ missed)) ∙ as_before ∙ stood in
          subst (λ (s : PairState). (s ≡ state.Ready) ⊎ (s ≡ state.Joined)) (sym (get_or_from_slice_get new.pairs k (get_or before k d) d stands)) (were k d inside)
    ]
  where
    not_missed : (s : PairState) → (s ≡ state.Ready) ⊎ (s ≡ state.Joined) → Some s ≡ Some state.Missed → ⊥
    not_missed s (inl e) h = let f : Some state.Ready ≡ Some state.Missed = ap Some (sym e) ∙ h in cc
    not_missed s (inr e) h = let f : Some state.Joined ≡ Some state.Missed = ap Some (sym e) ∙ h in cc

-- a pair that is taken and settled by what an entry says was found
pub leaves_unsearched : (old mid new : Running) (p a b : ℕ) (t : Ticket) (view : List (ℕ × ℕ)) (f : Finding) (answer : Settled) →
    AreUnsearched old.table.states → ¬ (Joined old.book.journal a b) → PairAt old.setup.task p a b →
    TakesHint old mid p (Some t.pair) → PairAt old.setup.task t.pair t.a t.b → mid.setup ≡ old.setup → mid.book ≡ old.book →
    (answer ≡ settled.Already) ↔ Joined mid.book.journal t.a t.b → Settles mid t view (outcome.Found f) answer new → AreUnsearched new.table.states
leaves_unsearched old mid new p a b t view f answer all apart pair takes ends setup book already settles =
    let same = same_ends (slice_get old.setup.task.pairs p) t.a t.b a b (subst (λ (q : ℕ). PairAt old.setup.task q t.a t.b) takes.that ends) pair in
    let still_apart : ¬ (Joined mid.book.journal t.a t.b) =
    (λ j. apart (subst (λ m. Joined old.book.journal m b) same.0 (subst (Joined old.book.journal t.a) same.1 (subst (λ (k : Classes). Joined k.journal t.a t.b) book j)))) in
    let entered = is_entered mid new t view f answer still_apart already settles in
    still_unsearched old.setup.task (state_in old) (state_in mid) (state_in new) takes.passed t.pair all takes.event
    (subst (λ (S : Preparation). Wakes S.task (state_in mid) (state_in new) t.pair) setup entered.4)

-- no pair is handed out where none was searched
pub none_flying : (states : List PairState) → AreUnsearched states → (p : ℕ) → slice_get states p ≢ Some state.Flying
none_flying states all p flies =
    let e : get_or states p state.Flying ≡ state.Flying = get_or_from_slice_get states p state.Flying state.Flying flies in
    elim (all p state.Flying (slice_get_within states p state.Flying flies)) [
      | inl ready ↦ (let f : state.Ready ≡ state.Flying = sym ready ∙ e in cc)
      | inr joined ↦ (let f : state.Joined ≡ state.Flying = sym joined ∙ e in cc)
    ]
