-- Pairs passed over from the front of the Ready list.
use Rattle.std.proofs.Common.{List, [], ◌∷◌, ◌++◌, ℕ, suc, Some, AllPairs, Contains, slice_get, slice_set, length, ◌≡◌, ◌≢◌, ◌<◌, inl, inr, refl, sym, ◌∙◌, ap, subst, arith, append_assoc, cond, not, eq-eqb}
use Rattle.std.proofs.lemmas.Option.{slice_get_within, get_or_from_slice_get, same_Some}
use Rattle.std.proofs.lemmas.List.Elements.{All-push}
use Rattle.chase_laws.specs.declared.pair_state.PairState.{PairState}
use Rattle.chase_laws.specs.declared.pair_state.PairState.TheVariants as state
use Rattle.chase_laws.specs.Core.{Task, EndsJoined, set_each}
use Rattle.list_pool.specs.Pool.{without}
use Rattle.class_book.specs.Classes.{Classes}
use Rattle.chase_core.specs.Table.{Standings, IsReadyList}
use Rattle.chase_core.specs.Running.{state_of}
use Rattle.chase_core.specs.Passing.{HavePassed}
use Rattle.chase_core.proofs.Tables.{without_none}
use Rattle.chase_core.proofs.Aside.{length-set_each, set_each-append, set_each_other, set_each_here, stands_or_not}

-- a list in which each element stands once is its first element and the list without it
pub head_without : (xs : List ℕ) (p : ℕ) → AllPairs (λ m n. m ≢ n) xs → slice_get xs 0 ≡ Some p → xs ≡ p ∷ without xs p
head_without [] p once h = absurd (cc)
head_without (x ∷ xs) p once h =
    let same : x ≡ p = same_Some x p h in
    let none : ¬ (Contains xs p) = λ c. once 0 (suc c.0) p (omega arith) (omega (arith, c.1)) (same ∙ sym c.2) in
    subst (λ y. x ∷ xs ≡ p ∷ without (y ∷ xs) p) (sym same) (ap (λ y. y ∷ xs) same ∙ ap (λ ys. p ∷ ys) (sym (first_out p xs p refl ∙ without_none xs p none)))
  where
    first_out : (x : ℕ) (xs : List ℕ) (p : ℕ) → x ≡ p → without (x ∷ xs) p ≡ without xs p
    first_out x xs p e = ap (λ t. cond (not t) (x ∷ without xs p) (without xs p)) (eq-eqb x p e)

-- what stands otherwise than written was not written
pub set_each_from : (xs : List PairState) (is : List ℕ) (y z : PairState) (q : ℕ) → y ≢ z → slice_get (set_each xs is y) q ≡ Some z → slice_get xs q ≡ Some z
set_each_from xs is y z q other h = elim (stands_or_not is q) [
  | inl c ↦ absurd (let within : q < length xs = subst (λ n. q < n) (length-set_each xs is y) (slice_get_within (set_each xs is y) q z h) in
      other (same_Some y z (sym (set_each_here xs is y q within c) ∙ h)))
  | inr n ↦ sym (set_each_other xs is y q n) ∙ h
]

pub none_passed : (T : Task) (book : Classes) (t : Standings) → HavePassed T book t t []
none_passed T book t = record { front = refl; states = refl; all = λ k d h. absurd (omega arith) }

module _ (T : Task) (book : Classes) (old mid : Standings) (passed : List ℕ) (have : HavePassed T book old mid passed) (r : IsReadyList mid.states mid.ready) (p : ℕ) (first : slice_get mid.ready 0 ≡ Some p) where
  pub first_ready : slice_get mid.states p ≡ Some state.Ready
  first_ready = (r.exact p).0 (0, slice_get_within mid.ready 0 p first, get_or_from_slice_get mid.ready 0 p p first)

  pub first_was_ready : slice_get old.states p ≡ Some state.Ready
  first_was_ready = set_each_from old.states passed state.Joined state.Ready p (λ e. cc) (subst (λ ss. slice_get ss p ≡ Some state.Ready) have.states first_ready)

  pub first_in_old : p < length old.states
  first_in_old = slice_get_within old.states p state.Ready first_was_ready

  pub first_in_mid : p < length mid.states
  first_in_mid = slice_get_within mid.states p state.Ready first_ready

  pub fewer : length (without mid.ready p) < length mid.ready
  fewer = let e : length mid.ready ≡ suc (length (without mid.ready p)) = ap length (head_without mid.ready p r.once first) in omega arith

  pub one_passed : (new : Standings) → EndsJoined T (state_of book old) p → new.states ≡ slice_set mid.states p state.Joined → new.ready ≡ without mid.ready p → HavePassed T book old new (passed ++ p ∷ [])
  one_passed new joined states ready = record {
    front = have.front ∙ ap (λ xs. passed ++ xs) (head_without mid.ready p r.once first ∙ ap (λ xs. p ∷ xs) (sym ready)) ∙ sym (append_assoc passed (p ∷ []) new.ready);
    states = states ∙ ap (λ ss. slice_set ss p state.Joined) have.states ∙ sym (set_each-append old.states passed (p ∷ []) state.Joined);
    all = All-push (λ q. (slice_get old.states q ≡ Some state.Ready) × EndsJoined T (state_of book old) q) passed p have.all (first_was_ready, joined);
  }
