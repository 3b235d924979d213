-- How the Ready list follows the states of the pairs.
use Rattle.std.proofs.Common.{List, [], ◌∷◌, ◌++◌, ℕ, zero, suc, Some, Contains, replicate, slice_get, slice_set, length, get_or, ◌≡◌, ◌≢◌, ◌<◌, ◌↔◌, ◌==◌, inl, inr, not, refl, sym, ◌∙◌, ap, subst, arith, ne_eqb, length-set, get_or-set_same}
use Rattle.std.specs.List.{range_with_len}
use Rattle.std.proofs.lemmas.Bool.{cases_eq, not-true, not_from_false, eqb-false}
use Rattle.std.proofs.lemmas.List.{length-replicate, get_or-replicate}
use Rattle.std.proofs.lemmas.List.Elements.{Contains-append_left, Contains-push, Contains-push_cases}
use Rattle.std.proofs.lemmas.List.Kept.{AllPairs-filter}
use Rattle.std.proofs.lemmas.List.Quantifiers.{all_pairs_push}
use Rattle.std.proofs.lemmas.Option.{slice_get_within, slice_get-get_or, same_Some}
use Rattle.chase_laws.specs.declared.pair_state.PairState.{PairState}
use Rattle.chase_laws.specs.declared.pair_state.PairState.TheVariants as state
use Rattle.list_pool.specs.Pool.{list_at, IsFree, without}
use Rattle.chase_core.specs.Table.{IsReadyList}
use Rattle.chase_core.specs.Inner.{AreStandings}
use Rattle.chase_core.proofs.Members.{Contains-filter, filter-Contains, filter_whole, Contains-range, AllPairs-range}

-- ---- one element written

pub set_here : {X : Type 0} (xs : List X) (i : ℕ) (y : X) → i < length xs → slice_get (slice_set xs i y) i ≡ Some y
set_here [] i y h = absurd (omega arith)
set_here (x ∷ xs) zero y h = refl
set_here (x ∷ xs) (suc i) y h = set_here xs i y (omega arith)

pub set_other : {X : Type 0} (xs : List X) (i : ℕ) (y : X) (j : ℕ) → j ≢ i → slice_get (slice_set xs i y) j ≡ slice_get xs j
set_other [] i y j h = refl
set_other (x ∷ xs) zero y zero h = absurd (h refl)
set_other (x ∷ xs) zero y (suc j) h = refl
set_other (x ∷ xs) (suc i) y zero h = refl
set_other (x ∷ xs) (suc i) y (suc j) h = set_other xs i y j (λ e. h (ap suc e))

-- ---- the Ready list

-- of a new table
pub all_ready : (n : ℕ) → IsReadyList (replicate n state.Ready) (range_with_len 0 n)
all_ready n = record {
  exact = λ p. (
    (λ h. let k = (Contains-range n p).0 h in slice_get-get_or (replicate n state.Ready) p state.Ready (rw length-replicate k) ∙ ap Some (get_or-replicate n p state.Ready state.Ready k)),
    (λ e. (Contains-range n p).1 (subst (λ m. p < m) (length-replicate n state.Ready) (slice_get_within (replicate n state.Ready) p state.Ready e))),
  );
  once = AllPairs-range n;
}

-- what stands in a list without one cell
pub without_parts : (xs : List ℕ) (p q : ℕ) → Contains (without xs p) q ↔ (Contains xs q × (q ≢ p))
without_parts xs p q = (
  (λ h. let r = Contains-filter (λ o. not (o == p)) xs q h in (r.0, eqb-false q p (not-true (q == p) r.1))),
  (λ h. filter-Contains (λ o. not (o == p)) xs q h.0 (not_from_false (q == p) (ne_eqb q p h.1))),
)

pub without_none : (xs : List ℕ) (p : ℕ) → ¬ (Contains xs p) → without xs p ≡ xs
without_none xs p none = filter_whole (λ o. not (o == p)) xs (λ x h. not_from_false (x == p) (ne_eqb x p (λ e. none (subst (Contains xs) e h))))

module _ (states : List PairState) (ready : List ℕ) (r : IsReadyList states ready) (p : ℕ) (within : p < length states) where
  -- a pair that stands elsewhere now
  pub marked : (s : PairState) → s ≢ state.Ready → IsReadyList (slice_set states p s) (without ready p)
  marked s other = record {
    exact = λ q. (
      (λ h. let k = (without_parts ready p q).0 h in set_other states p s q k.1 ∙ (r.exact q).0 k.0),
      (λ e. elim (cases_eq q p) [
        | inl same ↦ absurd (let f : Some s ≡ Some state.Ready = sym (set_here states p s within) ∙ subst (λ n. slice_get (slice_set states p s) n ≡ Some state.Ready) same e in other (cc))
        | inr differs ↦ (without_parts ready p q).1 ((r.exact q).1 (sym (set_other states p s q differs) ∙ e), differs)
      ]),
    );
    once = AllPairs-filter (λ a b. a ≢ b) (λ o. not (o == p)) ready r.once;
  }

  -- a pair that is Ready now
  pub pushed : slice_get states p ≢ Some state.Ready → IsReadyList (slice_set states p state.Ready) (ready ++ p ∷ [])
  pushed new = record {
    exact = λ q. (
      (λ h. elim (Contains-push_cases ready p q h) [
        | inl k ↦ set_other states p state.Ready q (λ e. new (subst (λ n. slice_get states n ≡ Some state.Ready) e ((r.exact q).0 k))) ∙ (r.exact q).0 k
        | inr e ↦ subst (λ n. slice_get (slice_set states p state.Ready) n ≡ Some state.Ready) e (set_here states p state.Ready within)
      ]),
      (λ e. elim (cases_eq q p) [
        | inl same ↦ subst (Contains (ready ++ p ∷ [])) (sym same) (Contains-push ready p)
        | inr differs ↦ Contains-append_left ready (p ∷ []) q ((r.exact q).1 (sym (set_other states p state.Ready q differs) ∙ e))
      ]),
    );
    once = all_pairs_push (λ a b. a ≢ b) ready p r.once (λ k d h e. new ((r.exact p).0 (k, h, get_or_same ready k d p h e)));
  }
    where
      get_or_same : (xs : List ℕ) (k d x : ℕ) → k < length xs → get_or xs k d ≡ x → get_or xs k x ≡ x
      get_or_same [] k d x h e = absurd (omega arith)
      get_or_same (y ∷ ys) zero d x h e = e
      get_or_same (y ∷ ys) (suc k) d x h e = get_or_same ys k d x (omega arith) e

-- a cell that the only list has not is free
pub only_list : (lists : List (List ℕ)) (p : ℕ) → length lists ≡ 1 → ¬ (Contains (list_at lists 0) p) → IsFree lists p
only_list lists p one none l h c = let e : l ≡ 0 = omega arith in none (subst (λ m. Contains (list_at lists m) p) e c)

-- ---- the pool's only list written

module _ (states : List PairState) (lists : List (List ℕ)) (cells : ℕ) (t : AreStandings states lists cells) (p : ℕ) (within : p < length states) where
  some_list : 0 < length lists
  some_list = let e = t.one_list in omega arith

  pub listed : (xs : List ℕ) → list_at (slice_set lists 0 xs) 0 ≡ xs
  listed xs = get_or-set_same lists 0 xs [] some_list

  pub ready_stands : slice_get states p ≡ Some state.Ready → Contains (list_at lists 0) p
  ready_stands e = (t.ready.exact p).1 e

  pub other_stands_not : slice_get states p ≢ Some state.Ready → ¬ (Contains (list_at lists 0) p)
  other_stands_not other h = other ((t.ready.exact p).0 h)

  made : (states' : List PairState) (lists' : List (List ℕ)) (cells' : ℕ) (xs : List ℕ) → length states' ≡ length states → length lists' ≡ length lists → cells' ≡ cells →
      list_at lists' 0 ≡ xs → IsReadyList states' xs → AreStandings states' lists' cells'
  made states' lists' cells' xs s l c e r = record {
    one_list = l ∙ t.one_list;
    one_cell_each = c ∙ t.one_cell_each ∙ sym s;
    ready = subst (IsReadyList states') (sym e) r;
  }

  pub mark_ready : (s : PairState) → s ≢ state.Ready → (lists' : List (List ℕ)) (cells' : ℕ) → lists' ≡ slice_set lists 0 (without (list_at lists 0) p) → cells' ≡ cells →
      AreStandings (slice_set states p s) lists' cells'
  mark_ready s other lists' cells' e c = made (slice_set states p s) lists' cells' (without (list_at lists 0) p) (length-set states p s)
      (ap length e ∙ length-set lists 0 (without (list_at lists 0) p)) c (ap (λ ls. list_at ls 0) e ∙ listed (without (list_at lists 0) p))
      (marked states (list_at lists 0) t.ready p within s other)

  pub mark_other : (s : PairState) → s ≢ state.Ready → slice_get states p ≢ Some state.Ready → AreStandings (slice_set states p s) lists cells
  mark_other s other not_ready = made (slice_set states p s) lists cells (without (list_at lists 0) p) (length-set states p s) refl refl
      (sym (without_none (list_at lists 0) p (other_stands_not not_ready))) (marked states (list_at lists 0) t.ready p within s other)

  pub push_other : slice_get states p ≢ Some state.Ready → (lists' : List (List ℕ)) (cells' : ℕ) → lists' ≡ slice_set lists 0 (list_at lists 0 ++ p ∷ []) → cells' ≡ cells →
      AreStandings (slice_set states p state.Ready) lists' cells'
  push_other not_ready lists' cells' e c = made (slice_set states p state.Ready) lists' cells' (list_at lists 0 ++ p ∷ []) (length-set states p state.Ready)
      (ap length e ∙ length-set lists 0 (list_at lists 0 ++ p ∷ [])) c (ap (λ ls. list_at ls 0) e ∙ listed (list_at lists 0 ++ p ∷ []))
      (pushed states (list_at lists 0) t.ready p within not_ready)

-- what was read says where the pair stands
pub stands_read : (states : List PairState) (p : ℕ) (x s : PairState) → p < length states → x ≡ get_or states p x → x ≡ s → slice_get states p ≡ Some s
stands_read states p x s within read e = slice_get-get_or states p x within ∙ ap Some (sym read ∙ e)

pub stands_not : (states : List PairState) (p : ℕ) (x s : PairState) → p < length states → x ≡ get_or states p x → x ≢ s → slice_get states p ≢ Some s
stands_not states p x s within read other e = other (read ∙ same_Some (get_or states p x) s (sym (slice_get-get_or states p x within) ∙ e))

-- a write of what stands there already
pub set_same : {X : Type 0} (xs : List X) (i : ℕ) (y : X) → slice_get xs i ≡ Some y → slice_set xs i y ≡ xs
set_same [] i y h = refl
set_same (x ∷ xs) zero y h = ap (λ z. z ∷ xs) (sym (same_Some x y h))
set_same (x ∷ xs) (suc i) y h = ap (λ zs. x ∷ zs) (set_same xs i y h)
