-- Pairs set aside, one after another.
use Rattle.std.proofs.Common.{List, [], ◌∷◌, ◌++◌, ℕ, zero, suc, Some, All, AllPairs, Contains, take, slice_get, slice_set, get_or, length, ◌≡◌, ◌≢◌, ◌<◌, ◌+◌, ◌⊎◌, ◌↔◌, inl, inr, refl, sym, ◌∙◌, ap, subst, arith, append-nil, append_assoc, length-set}
use Rattle.std.proofs.lemmas.Bool.{cases_eq, eqb-true}
use Rattle.std.proofs.lemmas.Bool.Decides.{Decides-eqb}
use Rattle.std.proofs.lemmas.Map.Views.{Contains-from_any}
use Rattle.std.proofs.lemmas.List.{take_more, length_push, get_or_default, length-take, get_or-take}
use Rattle.std.proofs.lemmas.List.Elements.{All-push, All-contains, Contains-append_left, Contains-append_right, Contains-append_cases, Contains-push, Contains-push_cases, Contains-get_or}
use Rattle.std.proofs.lemmas.List.Quantifiers.{all_pairs_push}
use Rattle.std.proofs.lemmas.Option.{slice_get_within, same_Some}
use Rattle.std.proofs.lemmas.Map.Made.{IsDistinct-from_AllPairs}
use Rattle.std.proofs.lemmas.Map.Steps.{length-le_from_distinct_below}
use Rattle.chase_laws.specs.declared.pair_state.PairState.{PairState}
use Rattle.chase_laws.specs.declared.pair_state.PairState.TheVariants as state
use Rattle.chase_laws.specs.Core.{set_each}
use Rattle.list_pool.specs.Pool.{without}
use Rattle.chase_core.specs.Table.{Standings, IsReadyList}
use Rattle.chase_core.specs.Gathering.{SetsAside, AreAside}
use Rattle.chase_core.proofs.Members.{all_pairs_append, Contains-cons_cases, Contains-head, Contains-tail, Contains-nil}
use Rattle.chase_core.proofs.Tables.{set_here, set_other, without_none}

-- ---- several elements written

pub length-set_each : {X : Type 0} (xs : List X) (is : List ℕ) (y : X) → length (set_each xs is y) ≡ length xs
length-set_each xs [] y = refl
length-set_each xs (i ∷ is) y = length-set_each (slice_set xs i y) is y ∙ length-set xs i y

pub set_each-append : {X : Type 0} (xs : List X) (is js : List ℕ) (y : X) → set_each xs (is ++ js) y ≡ set_each (set_each xs is y) js y
set_each-append xs [] js y = refl
set_each-append xs (i ∷ is) js y = set_each-append (slice_set xs i y) is js y

pub set_each_other : {X : Type 0} (xs : List X) (is : List ℕ) (y : X) (q : ℕ) → ¬ (Contains is q) → slice_get (set_each xs is y) q ≡ slice_get xs q
set_each_other xs [] y q h = refl
set_each_other xs (i ∷ is) y q h = set_each_other (slice_set xs i y) is y q (λ c. h (Contains-tail i is q c)) ∙ set_other xs i y q (λ e. h (subst (Contains (i ∷ is)) (sym e) (Contains-head i is)))

set_each_kept : {X : Type 0} (xs : List X) (is : List ℕ) (y : X) (q : ℕ) → slice_get xs q ≡ Some y → slice_get (set_each xs is y) q ≡ Some y
set_each_kept xs [] y q h = h
set_each_kept xs (i ∷ is) y q h = set_each_kept (slice_set xs i y) is y q (elim (cases_eq q i) [
  | inl e ↦ subst (λ n. slice_get (slice_set xs i y) n ≡ Some y) (sym e) (set_here xs i y (subst (λ n. n < length xs) e (slice_get_within xs q y h)))
  | inr e ↦ set_other xs i y q e ∙ h
])

pub set_each_here : {X : Type 0} (xs : List X) (is : List ℕ) (y : X) (q : ℕ) → q < length xs → Contains is q → slice_get (set_each xs is y) q ≡ Some y
set_each_here xs [] y q h c = absurd (Contains-nil q c)
set_each_here xs (i ∷ is) y q h c = elim (Contains-cons_cases i is q c) [
  | inl e ↦ set_each_kept (slice_set xs i y) is y q (subst (λ n. slice_get (slice_set xs i y) n ≡ Some y) e (set_here xs i y (rw e h)))
  | inr k ↦ set_each_here (slice_set xs i y) is y q (rw length-set h) k
]

pub stands_or_not : (xs : List ℕ) (q : ℕ) → Contains xs q ⊎ ¬ (Contains xs q)
stands_or_not [] q = inr (Contains-nil q)
stands_or_not (x ∷ xs) q = elim (cases_eq x q) [
  | inl e ↦ inl (subst (Contains (x ∷ xs)) e (Contains-head x xs))
  | inr d ↦ elim (stands_or_not xs q) [
    | inl c ↦ inl (Contains-tail x xs q c)
    | inr n ↦ inr (λ c. elim (Contains-cons_cases x xs q c) [ inl e ↦ d e | inr k ↦ n k ])
  ]
]

-- ---- pairs set aside

pub aside_none : (P : ℕ → Type 0) (t : Standings) (xs : List ℕ) → ((q : ℕ) → ¬ (P q)) → SetsAside P t t xs xs
aside_none P t xs none = record {
  more = [];
  list = sym (append-nil xs);
  states = refl;
  ready = refl;
  exact = λ q. ((λ c. absurd (Contains-nil q c)), (λ h. absurd (none q h.1)));
  once = λ i j d lt h. absurd (omega arith);
}

pub aside_same : (P Q : ℕ → Type 0) (old new : Standings) (xs ys : List ℕ) → ((q : ℕ) → P q ↔ Q q) → SetsAside P old new xs ys → SetsAside Q old new xs ys
aside_same P Q old new xs ys same s = record {
  more = s.more;
  list = s.list;
  states = s.states;
  ready = s.ready;
  exact = λ q. ((λ c. let r = (s.exact q).0 c in (r.0, (same q).0 r.1)), (λ h. (s.exact q).1 (h.0, (same q).1 h.1)));
  once = s.once;
}

module _ (P Q : ℕ → Type 0) (old mid new : Standings) (xs ys zs : List ℕ) (s : SetsAside P old mid xs ys) (t : SetsAside Q mid new ys zs) where
  -- what stands at Missed between was not set aside, and stood there before
  still : (q : ℕ) → slice_get mid.states q ≡ Some state.Missed → ¬ (Contains s.more q)
  still q h c =
      let was = ((s.exact q).0 c).0 in
      let is : slice_get mid.states q ≡ Some state.Flying = subst (λ ss. slice_get ss q ≡ Some state.Flying) (sym s.states) (set_each_here old.states s.more state.Flying q (slice_get_within old.states q state.Missed was) c) in
      let e : Some state.Missed ≡ Some state.Flying = sym h ∙ is in cc

  before : (q : ℕ) → ¬ (Contains s.more q) → slice_get mid.states q ≡ slice_get old.states q
  before q n = subst (λ ss. slice_get ss q ≡ slice_get old.states q) (sym s.states) (set_each_other old.states s.more state.Flying q n)

  together : (q : ℕ) → Contains (s.more ++ t.more) q ↔ ((slice_get old.states q ≡ Some state.Missed) × (P q ⊎ Q q))
  together q = (
    (λ c. elim (Contains-append_cases s.more t.more q c) [
      | inl k ↦ (let r = (s.exact q).0 k in (r.0, inl r.1))
      | inr k ↦ (let r = (t.exact q).0 k in (sym (before q (still q r.0)) ∙ r.0, inr r.1))
    ]),
    (λ h. elim (stands_or_not s.more q) [
      | inl c ↦ Contains-append_left s.more t.more q c
      | inr n ↦ elim h.1 [
        | inl p ↦ Contains-append_left s.more t.more q ((s.exact q).1 (h.0, p))
        | inr p ↦ Contains-append_right s.more t.more q ((t.exact q).1 (before q n ∙ h.0, p))
      ]
    ]),
  )

  apart : (i j d : ℕ) → i < length s.more → j < length t.more → get_or s.more i d ≢ get_or t.more j d
  apart i j d h k e =
      let c : Contains s.more (get_or s.more i d) = Contains-get_or s.more i d h in
      let m = ((t.exact (get_or t.more j d)).0 (Contains-get_or t.more j d k)).0 in
      still (get_or s.more i d) (rw e m) c

  pub aside_then : SetsAside (λ q. P q ⊎ Q q) old new xs zs
  aside_then = record {
    more = s.more ++ t.more;
    list = t.list ∙ ap (λ us. us ++ t.more) s.list ∙ append_assoc xs s.more t.more;
    states = t.states ∙ ap (λ ss. set_each ss t.more state.Flying) s.states ∙ sym (set_each-append old.states s.more t.more state.Flying);
    ready = t.ready ∙ s.ready;
    exact = together;
    once = all_pairs_append (λ m n. m ≢ n) s.more t.more s.once t.once apart;
  }

-- one more of a list whose first ones were gone through
pub aside_more : (R : ℕ → ℕ → Type 0) (es : List ℕ) (i : ℕ) (old mid new : Standings) (xs ys zs : List ℕ) → i < length es →
    SetsAside (λ q. (e : ℕ) × Contains (take i es) e × R q e) old mid xs ys → SetsAside (λ q. R q (get_or es i 0)) mid new ys zs →
    SetsAside (λ q. (e : ℕ) × Contains (take (i + 1) es) e × R q e) old new xs zs
aside_more R es i old mid new xs ys zs h s t =
    aside_same (λ q. ((e : ℕ) × Contains (take i es) e × R q e) ⊎ R q (get_or es i 0)) (λ q. (e : ℕ) × Contains (take (i + 1) es) e × R q e) old new xs zs
    (λ q. (
      (λ k. elim k [
        | inl r ↦ (r.0, subst (λ us. Contains us r.0) (sym (take_more es i 0 h)) (Contains-append_left (take i es) (get_or es i 0 ∷ []) r.0 r.1), r.2)
        | inr r ↦ (get_or es i 0, subst (λ us. Contains us (get_or es i 0)) (sym (take_more es i 0 h)) (Contains-push (take i es) (get_or es i 0)), r)
      ]),
      (λ k. elim (Contains-push_cases (take i es) (get_or es i 0) k.0 (subst (λ us. Contains us k.0) (take_more es i 0 h) k.1)) [
        | inl c ↦ inl (k.0, c, k.2)
        | inr e ↦ inr (subst (R q) (sym e) k.2)
      ]),
    ))
    (aside_then (λ q. (e : ℕ) × Contains (take i es) e × R q e) (λ q. R q (get_or es i 0)) old mid new xs ys zs s t)

-- ---- one pair

pub aside_one : (old new : Standings) (p : ℕ) (xs : List ℕ) → IsReadyList old.states old.ready → slice_get old.states p ≡ Some state.Missed → new.states ≡ slice_set old.states p state.Flying →
    new.ready ≡ without old.ready p → SetsAside (λ q. p ≡ q) old new xs (xs ++ p ∷ [])
aside_one old new p xs r missed states ready = record {
  more = p ∷ [];
  list = refl;
  states = states;
  ready = ready ∙ without_none old.ready p (λ c. let e : Some state.Missed ≡ Some state.Ready = sym missed ∙ (r.exact p).0 c in cc);
  exact = λ q. (
    (λ c. elim (Contains-cons_cases p [] q c) [
      | inl e ↦ (subst (λ n. slice_get old.states n ≡ Some state.Missed) e missed, e)
      | inr k ↦ absurd (Contains-nil q k)
    ]),
    (λ h. subst (Contains (p ∷ [])) h.1 (Contains-head p [])),
  );
  once = λ i j d lt h. absurd (omega arith);
}

pub aside_other : (P : ℕ → Type 0) (old : Standings) (p : ℕ) (xs : List ℕ) → slice_get old.states p ≢ Some state.Missed → SetsAside (λ q. (p ≡ q) × P q) old old xs xs
aside_other P old p xs other = record {
  more = [];
  list = sym (append-nil xs);
  states = refl;
  ready = refl;
  exact = λ q. ((λ c. absurd (Contains-nil q c)), (λ h. absurd (other (subst (λ n. slice_get old.states n ≡ Some state.Missed) (sym h.1.0) h.0))));
  once = λ i j d lt h. absurd (omega arith);
}

module _ (states : List PairState) (aside : List ℕ) (capacity : ℕ) (a : AreAside states aside capacity) (p : ℕ) (missed : slice_get states p ≡ Some state.Missed) where
  within : p < length states
  within = slice_get_within states p state.Missed missed

  not_aside : (k d : ℕ) → k < length aside → get_or aside k d ≢ p
  not_aside k d h e =
      let f = a.flying k d h in
      let g : Some state.Missed ≡ Some state.Flying = sym missed ∙ subst (λ n. slice_get states n ≡ Some state.Flying) e f in cc

  all_once : AllPairs (λ m n. m ≢ n) (aside ++ p ∷ [])
  all_once = all_pairs_push (λ m n. m ≢ n) aside p a.once not_aside

  all_below : All (λ q. q < length states) (aside ++ p ∷ [])
  all_below = All-push (λ q. q < length states) aside p (λ k d h. slice_get_within states (get_or aside k d) state.Flying (a.flying k d h)) within

  -- there is room for one more
  pub aside_room : length aside < capacity
  aside_room =
      let b = length-le_from_distinct_below (aside ++ p ∷ []) (length states) (IsDistinct-from_AllPairs Decides-eqb (aside ++ p ∷ []) all_once) (λ q h. All-contains (λ n. n < length states) (aside ++ p ∷ []) q all_below (Contains-from_any eqb-true q (aside ++ p ∷ []) h)) in
      omega (arith, length_push aside p, a.room)

  pub aside_push : AreAside (slice_set states p state.Flying) (aside ++ p ∷ []) capacity
  aside_push = record {
    once = all_once;
    flying = All-push (λ q. slice_get (slice_set states p state.Flying) q ≡ Some state.Flying) aside p
        (λ k d h. set_other states p state.Flying (get_or aside k d) (not_aside k d h) ∙ a.flying k d h) (set_here states p state.Flying within);
    room = rw length-set a.room;
  }

-- ---- pairs made Ready in order

pub take_push : {X : Type 0} (n : ℕ) (xs : List X) (x : X) → take n (take n xs ++ x ∷ []) ≡ take n (xs ++ x ∷ [])
take_push zero xs x = refl
take_push (suc n) [] x = refl
take_push (suc n) (y ∷ ys) x = ap (λ zs. y ∷ zs) (take_push n ys x)

-- an element does not stand before itself
pub not_before : (xs : List ℕ) (i : ℕ) → AllPairs (λ m n. m ≢ n) xs → i < length xs → ¬ (Contains (take i xs) (get_or xs i 0))
not_before xs i once h c =
    let k : c.0 < i = omega (arith, c.1, length-take i xs) in
    let e : get_or xs c.0 (get_or xs i 0) ≡ get_or xs i 0 = sym (get_or-take i xs c.0 (get_or xs i 0) k) ∙ c.2 in
    once c.0 i (get_or xs i 0) k h (e ∙ get_or_default xs i 0 (get_or xs i 0) h)

module _ (states : List PairState) (pairs : List ℕ) (flying : All (λ q. slice_get states q ≡ Some state.Flying) pairs) (once : AllPairs (λ m n. m ≢ n) pairs) (i : ℕ) (h : i < length pairs) where
  -- the next pair is not Ready yet
  pub next_flies : slice_get (set_each states (take i pairs) state.Ready) (get_or pairs i 0) ≡ Some state.Flying
  next_flies = set_each_other states (take i pairs) state.Ready (get_or pairs i 0) (not_before pairs i once h) ∙ flying i 0 h

  pub next_set : slice_set (set_each states (take i pairs) state.Ready) (get_or pairs i 0) state.Ready ≡ set_each states (take (i + 1) pairs) state.Ready
  next_set = sym (ap (λ ps. set_each states ps state.Ready) (take_more pairs i 0 h) ∙ set_each-append states (take i pairs) (get_or pairs i 0 ∷ []) state.Ready)

-- a pair that was read to stand elsewhere
pub not_missed : (states : List PairState) (p : ℕ) (s : PairState) → slice_get states p ≡ Some s → s ≢ state.Missed → slice_get states p ≢ Some state.Missed
not_missed states p s at other e = other (same_Some s state.Missed (sym at ∙ e))
