-- The pairs that an entry wakes, from being set aside until they are Ready.
use Rattle.std.proofs.Common.{List, [], ◌++◌, ℕ, Some, AllPairs, Contains, slice_get, slice_set, length, ◌≡◌, ◌≢◌, ◌<◌, ◌↔◌, inl, inr, sym, ◌∙◌, ap, subst, length-set, eqb}
use Rattle.std.specs.Ordering.{nat_cmp}
use Rattle.std.specs.List.Sorted.{IsPermutation, IsSorted, IsStrictlyIncreasing}
use Rattle.std.proofs.lemmas.Bool.{cases_eq}
use Rattle.std.proofs.lemmas.Bool.Decides.{Decides-eqb}
use Rattle.std.proofs.lemmas.List.Sorted.{Contains-permutation, IsPermutation-sym, IsNonDecreasingBy-from_sort}
use Rattle.std.proofs.lemmas.Map.Keys.{IsDistinct-IsPermutation, IsStrictlyIncreasing-from_distinct}
use Rattle.std.proofs.lemmas.Map.Made.{AllPairs-from_IsDistinct, IsDistinct-from_AllPairs}
use Rattle.std.proofs.lemmas.Cmp.{nat_eq_equiv}
use Rattle.std.proofs.lemmas.Option.{slice_get_within}
use Rattle.chase_laws.specs.declared.pair_state.PairState.TheVariants as state
use Rattle.chase_laws.specs.Core.{Task, PairAt, AreBroughtTogether, Wakes, set_each}
use Rattle.list_pool.specs.Pool.{without}
use Rattle.class_book.specs.Classes.{Classes}
use Rattle.chase_core.specs.Table.{Standings}
use Rattle.chase_core.specs.Running.{state_of}
use Rattle.chase_core.specs.Gathering.{SetsAside}
use Rattle.chase_core.specs.Settling.{RiseInOrder}
use Rattle.chase_core.proofs.Tables.{set_here, set_other}
use Rattle.chase_core.proofs.Aside.{length-set_each, set_each_other, set_each_here, stands_or_not}

module _ (P : ℕ → Type 0) (zero one two three : Standings) (p : ℕ) (aside sorted : List ℕ) (within : p < length zero.states)
    (states_one : one.states ≡ slice_set zero.states p state.Joined) (ready_one : one.ready ≡ without zero.ready p)
    (s : SetsAside P one two [] aside) (moves : IsPermutation aside sorted) (up : IsStrictlyIncreasing sorted)
    (states_three : three.states ≡ set_each two.states sorted state.Ready) (ready_three : three.ready ≡ two.ready ++ sorted) where
  exact : (q : ℕ) → Contains sorted q ↔ ((slice_get one.states q ≡ Some state.Missed) × P q)
  exact q = (
    (λ c. (s.exact q).0 (subst (λ xs. Contains xs q) s.list (Contains-permutation sorted aside q (IsPermutation-sym aside sorted moves) c))),
    (λ h. Contains-permutation aside sorted q moves (subst (λ xs. Contains xs q) (sym s.list) ((s.exact q).1 h))),
  )

  long_two : length two.states ≡ length one.states
  long_two = ap length s.states ∙ length-set_each one.states s.more state.Flying

  long_one : length one.states ≡ length zero.states
  long_one = ap length states_one ∙ length-set zero.states p state.Joined

  pub long : length three.states ≡ length zero.states
  long = ap length states_three ∙ length-set_each two.states sorted state.Ready ∙ long_two ∙ long_one

  risen : (q : ℕ) → Contains sorted q → slice_get three.states q ≡ Some state.Ready
  risen q c =
      let in_one = slice_get_within one.states q state.Missed ((exact q).0 c).0 in
      ap (λ ss. slice_get ss q) states_three ∙ set_each_here two.states sorted state.Ready q (rw long_two in_one) c

  still : (q : ℕ) → ¬ (Contains sorted q) → slice_get three.states q ≡ slice_get one.states q
  still q n =
      ap (λ ss. slice_get ss q) states_three ∙ set_each_other two.states sorted state.Ready q n ∙ ap (λ ss. slice_get ss q) s.states
      ∙ set_each_other one.states s.more state.Flying q (λ c. n ((exact q).1 ((s.exact q).0 c)))

  at_pair : slice_get one.states p ≡ Some state.Joined
  at_pair = ap (λ ss. slice_get ss p) states_one ∙ set_here zero.states p state.Joined within

  not_pair : ¬ (Contains sorted p)
  not_pair c = let e : Some state.Joined ≡ Some state.Missed = sym at_pair ∙ ((exact p).0 c).0 in cc

  elsewhere : (q : ℕ) → q ≢ p → slice_get one.states q ≡ slice_get zero.states q
  elsewhere q other = ap (λ ss. slice_get ss q) states_one ∙ set_other zero.states p state.Joined q other

  rise_from : (q : ℕ) → (slice_get zero.states q ≡ Some state.Missed) × (slice_get three.states q ≡ Some state.Ready) → Contains sorted q
  rise_from q h = elim (stands_or_not sorted q) [
    | inl c ↦ c
    | inr n ↦ elim (cases_eq q p) [
      | inl e ↦ absurd (let f : Some state.Ready ≡ Some state.Joined = sym h.1 ∙ still q n ∙ subst (λ m. slice_get one.states m ≡ Some state.Joined) (sym e) at_pair in cc)
      | inr other ↦ absurd (let f : Some state.Ready ≡ Some state.Missed = sym h.1 ∙ still q n ∙ elsewhere q other ∙ h.0 in cc)
    ]
  ]

  rise_to : (q : ℕ) → Contains sorted q → (slice_get zero.states q ≡ Some state.Missed) × (slice_get three.states q ≡ Some state.Ready)
  rise_to q c =
      let missed = ((exact q).0 c).0 in
      (sym (elsewhere q (λ e. not_pair (subst (Contains sorted) e c))) ∙ missed, risen q c)

  pub rise : RiseInOrder state.Missed zero.states (without zero.ready p) three sorted
  rise = record {
    ascending = up;
    exact = λ q. (rise_to q, rise_from q);
    last = ready_three ∙ ap (λ xs. xs ++ sorted) (s.ready ∙ ready_one);
  }

  module _ (T : Task) (old new : Classes) (brought : (q a b : ℕ) → PairAt T q a b → AreBroughtTogether T (state_of old zero) (state_of new three) a b ↔ P q) where
    pub wakes : Wakes T (state_of old zero) (state_of new three) p
    wakes = record {
      count = long;
      entered = still p not_pair ∙ at_pair;
      woken = λ q a b other at missed t. risen q ((exact q).1 (elsewhere q other ∙ missed, (brought q a b at).0 t));
      quiet = λ q a b other at missed quiet. still q (λ c. quiet ((brought q a b at).1 ((exact q).0 c).1)) ∙ elsewhere q other ∙ missed;
      others = λ q other not_missed. still q (λ c. not_missed (sym (elsewhere q other) ∙ ((exact q).0 c).0)) ∙ elsewhere q other;
    }

-- ---- after the sort

pub sorted_once : (xs ys : List ℕ) → IsPermutation xs ys → AllPairs (λ m n. m ≢ n) xs → AllPairs (λ m n. m ≢ n) ys
sorted_once xs ys moves once = AllPairs-from_IsDistinct Decides-eqb ys (IsDistinct-IsPermutation eqb (λ x y. nat_eq_equiv.symm x y) xs ys moves (IsDistinct-from_AllPairs Decides-eqb xs once))

pub sorted_up : (xs ys : List ℕ) → IsPermutation xs ys → IsSorted nat_cmp ys → AllPairs (λ m n. m ≢ n) xs → IsStrictlyIncreasing ys
sorted_up xs ys moves sorted once =
    IsStrictlyIncreasing-from_distinct ys (IsNonDecreasingBy-from_sort (λ x. x) ys sorted) (IsDistinct-IsPermutation eqb (λ x y. nat_eq_equiv.symm x y) xs ys moves (IsDistinct-from_AllPairs Decides-eqb xs once))
