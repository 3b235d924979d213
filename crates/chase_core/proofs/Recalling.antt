-- Flying pairs made Ready, one after another.
use Rattle.std.proofs.Common.{List, [], ◌∷◌, ◌++◌, ℕ, Some, Contains, map, slice_get, slice_set, get_or, length, ◌≡◌, ◌≢◌, ◌<◌, ◌≤◌, ◌+◌, ◌↔◌, inl, inr, refl, sym, ◌∙◌, ap, ap₂, suc, subst, arith, append-nil, append_assoc, length-set}
use Rattle.std.specs.List.Sorted.{IsStrictlyIncreasing}
use Rattle.std.specs.Option.{option_map}
use Rattle.std.proofs.lemmas.Bool.{cases_eq, cases_lt}
use Rattle.std.proofs.lemmas.List.{length-map, length_push, get_or_append_left, get_or_push}
use Rattle.std.proofs.lemmas.List.Elements.{Contains-append_left, Contains-push, Contains-push_cases, Contains-get_or}
use Rattle.std.proofs.lemmas.Option.{slice_get_within, slice_get-map, slice_get_past, same_Some}
use Rattle.chase_laws.specs.declared.pair_state.PairState.{PairState}
use Rattle.chase_laws.specs.declared.pair_state.PairState.TheVariants as state
use Rattle.chase_laws.specs.Core.{recalled}
use Rattle.chase_laws.proofs.CallerLemmas.{slice_get-map_from}
use Rattle.chase_core.specs.Table.{Standings}
use Rattle.chase_core.specs.Settling.{RiseInOrder}
use Rattle.chase_core.proofs.Members.{Contains-nil}
use Rattle.chase_core.proofs.Tables.{set_here, set_other}

-- so many of the first pairs were recalled, and these of them were Flying
pub record IsRecalledTo (old new : Standings) (list : List ℕ) (n : ℕ) : Type 0 where
  pub count : length new.states ≡ length old.states
  pub done : (q : ℕ) → q < n → slice_get new.states q ≡ option_map recalled (slice_get old.states q)
  pub rest : (q : ℕ) → n ≤ q → slice_get new.states q ≡ slice_get old.states q
  pub ready : new.ready ≡ old.ready ++ list
  pub exact : (q : ℕ) → Contains list q ↔ ((q < n) × (slice_get old.states q ≡ Some state.Flying))
  pub up : IsStrictlyIncreasing list

pub recalled_none : (t : Standings) → IsRecalledTo t t [] 0
recalled_none t = record {
  count = refl;
  done = λ q h. absurd (omega arith);
  rest = λ q h. refl;
  ready = sym (append-nil t.ready);
  exact = λ q. ((λ c. absurd (Contains-nil q c)), (λ h. absurd (omega (arith, h.0))));
  up = λ k h. absurd (omega arith);
}

increasing-push : (xs : List ℕ) (y : ℕ) → IsStrictlyIncreasing xs → ((k : ℕ) → k < length xs → get_or xs k 0 < y) → IsStrictlyIncreasing (xs ++ y ∷ [])
increasing-push xs y up below k h = elim (cases_lt (k + 1) (length xs)) [
  | inl lt ↦ rw (get_or_append_left xs (y ∷ []) 0 k (omega arith), get_or_append_left xs (y ∷ []) 0 (k + 1) lt) (up k lt)
  | inr ge ↦ (let e : length xs ≡ k + 1 = omega (arith, length_push xs y) in
      rw (get_or_append_left xs (y ∷ []) 0 k (omega arith), get_or_push xs y 0 (k + 1) e) (below k (omega arith)))
]

stays : (s : PairState) → s ≢ state.Flying → recalled s ≡ s
stays state.Ready h = refl
stays state.Flying h = absurd (h refl)
stays state.Missed h = refl
stays state.Joined h = refl

module _ (old new : Standings) (list : List ℕ) (n : ℕ) (r : IsRecalledTo old new list n) (s : PairState) (at : slice_get new.states n ≡ Some s) where
  was : slice_get old.states n ≡ Some s
  was = sym (r.rest n (omega arith)) ∙ at

  -- a pair that is not Flying stays
  pub recalled_skip : s ≢ state.Flying → IsRecalledTo old new list (n + 1)
  recalled_skip other = record {
    count = r.count;
    done = λ q h. elim (cases_eq q n) [
      | inl e ↦ subst (λ m. slice_get new.states m ≡ option_map recalled (slice_get old.states m)) (sym e) (at ∙ ap Some (sym (stays s other)) ∙ ap (option_map recalled) (sym was))
      | inr d ↦ r.done q (omega arith)
    ];
    rest = λ q h. r.rest q (omega arith);
    ready = r.ready;
    exact = λ q. (
      (λ c. let k = (r.exact q).0 c in (omega (arith, k.0), k.1)),
      (λ h. elim (cases_eq q n) [
        | inl e ↦ absurd (other (same_Some s state.Flying (sym was ∙ subst (λ m. slice_get old.states m ≡ Some state.Flying) e h.1)))
        | inr d ↦ (r.exact q).1 (omega (arith, h.0), h.1)
      ]),
    );
    up = r.up;
  }

  -- a Flying pair goes to the end of the Ready list
  pub recalled_one : s ≡ state.Flying → (next : Standings) → next.states ≡ slice_set new.states n state.Ready → (slice_get new.states n ≢ Some state.Ready → next.ready ≡ new.ready ++ n ∷ []) → IsRecalledTo old next (list ++ n ∷ []) (n + 1)
  recalled_one flies next states ready =
      let within : n < length new.states = slice_get_within new.states n s at in
      let other : slice_get new.states n ≢ Some state.Ready = λ e. let f : Some state.Flying ≡ Some state.Ready = ap Some (sym flies) ∙ sym at ∙ e in cc in
      record {
        count = ap length states ∙ length-set new.states n state.Ready ∙ r.count;
        done = λ q h. elim (cases_eq q n) [
          | inl e ↦ subst (λ m. slice_get next.states m ≡ option_map recalled (slice_get old.states m)) (sym e)
              (ap (λ ss. slice_get ss n) states ∙ set_here new.states n state.Ready within ∙ ap (option_map recalled) (ap Some (sym flies) ∙ sym was))
          | inr d ↦ ap (λ ss. slice_get ss q) states ∙ set_other new.states n state.Ready q d ∙ r.done q (omega arith)
        ];
        rest = λ q h. ap (λ ss. slice_get ss q) states ∙ set_other new.states n state.Ready q (omega arith) ∙ r.rest q (omega arith);
        ready = ready other ∙ ap (λ xs. xs ++ n ∷ []) r.ready ∙ append_assoc old.ready list (n ∷ []);
        exact = λ q. (
          (λ c. elim (Contains-push_cases list n q c) [
            | inl k ↦ (let h = (r.exact q).0 k in (omega (arith, h.0), h.1))
            | inr e ↦ (omega arith, subst (λ m. slice_get old.states m ≡ Some state.Flying) e (was ∙ ap Some flies))
          ]),
          (λ h. elim (cases_eq q n) [
            | inl e ↦ subst (Contains (list ++ n ∷ [])) (sym e) (Contains-push list n)
            | inr d ↦ Contains-append_left list (n ∷ []) q ((r.exact q).1 (omega (arith, h.0), h.1))
          ]),
        );
        up = increasing-push list n r.up (λ k h. ((r.exact (get_or list k 0)).0 (Contains-get_or list k 0 h)).0);
      }

-- lists with the same elements at all places are the same
same_by_get : {X : Type 0} (xs ys : List X) → ((q : ℕ) → slice_get xs q ≡ slice_get ys q) → xs ≡ ys
same_by_get [] [] h = refl
same_by_get [] (y ∷ ys) h = absurd (let e = h 0 in cc)
same_by_get (x ∷ xs) [] h = absurd (let e = h 0 in cc)
same_by_get (x ∷ xs) (y ∷ ys) h = ap₂ (λ z zs. z ∷ zs) (same_Some x y (h 0)) (same_by_get xs ys (λ q. h (suc q)))

-- all pairs were recalled
module _ (old new : Standings) (list : List ℕ) (n : ℕ) (r : IsRecalledTo old new list n) (all : length old.states ≤ n) where
  each : (q : ℕ) → slice_get new.states q ≡ slice_get (map recalled old.states) q
  each q = elim (cases_lt q n) [
    | inl h ↦ r.done q h ∙ sym (slice_get-map recalled old.states q)
    | inr h ↦ slice_get_past new.states q (let c = r.count in omega arith) ∙ sym (slice_get_past (map recalled old.states) q (omega (arith, length-map old.states recalled)))
  ]

  pub all_recalled : new.states ≡ map recalled old.states
  all_recalled = same_by_get new.states (map recalled old.states) each

  pub all_rise : RiseInOrder state.Flying old.states old.ready new list
  all_rise = record {
    ascending = r.up;
    exact = λ q. (
      (λ c. let h = (r.exact q).0 c in (h.1, r.done q h.0 ∙ ap (option_map recalled) h.1)),
      (λ h. (r.exact q).1 (let w = slice_get_within old.states q state.Flying h.0 in omega arith, h.0)),
    );
    last = r.ready;
  }

  recalled_lands : (s : PairState) → recalled s ≢ state.Flying
  recalled_lands state.Ready = λ e. cc
  recalled_lands state.Flying = λ e. cc
  recalled_lands state.Missed = λ e. cc
  recalled_lands state.Joined = λ e. cc

  pub all_landed : (q : ℕ) → slice_get new.states q ≢ Some state.Flying
  all_landed q e =
      let r = slice_get-map_from recalled old.states q state.Flying (sym (each q) ∙ e) in
      recalled_lands r.0 r.2
