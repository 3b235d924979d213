-- Each move keeps the rule of a deque of hints.
use Rattle.std.proofs.Common.{◌≡◌, ◌≢◌, ℕ, zero, suc, ◌+◌, ◌<◌, List, [], ◌∷◌, ◌++◌, set, Option, Some, None, MatchOption, IfSome, inl, inr, ⊎_elim, sym, refl, ap, ◌∙◌, subst, arith}
use mathlib.Core.Option.{some, some-injective, some-ne-none}
use lib.ListN.{get_elem?}
use Rattle.crossbeam_deque.specs.Tasks.{Pushes, Takes, Pops, Forks}
use Rattle.crossbeam_deque.proofs.Lists.{at_set, at_snoc}
use Rattle.atomic_table.proofs.Lists.{set_again}
use Rattle.steal_pool.specs.declared.hint_rule.Bound.{Bound}
use Rattle.steal_pool.specs.Hints.{unbounded, bounded_by, AllBelow, IsHintDeque, LearnsBound, MovesWithin}

one_view : (v : Bound) (j : ℕ) (u : Bound) → get_elem? (v ∷ []) j ≡ some u → v ≡ u
one_view v zero u e = some-injective v u e
one_view v (suc j) u e = absurd (some-ne-none u (sym e))

all_append : (n : ℕ) (xs ys : List ℕ) → AllBelow n xs → AllBelow n ys → AllBelow n (xs ++ ys)
all_append n [] ys a b = b
all_append n (x ∷ xs) ys a b = (a.0, all_append n xs ys a.1 b)

all_front : (n : ℕ) (xs ys : List ℕ) → AllBelow n (xs ++ ys) → AllBelow n xs
all_front n [] ys a = tt
all_front n (x ∷ xs) ys a = (a.0, all_front n xs ys a.1)

all_back : (n : ℕ) (xs ys : List ℕ) → AllBelow n (xs ++ ys) → AllBelow n ys
all_back n [] ys a = a
all_back n (x ∷ xs) ys a = all_back n xs ys a.1

one_count : (m n : ℕ) → bounded_by m ≡ bounded_by n → m ≡ n
one_count m n e = let f : Some m ≡ Some n = ap (λ (v : Bound). v.below) e in cc

not_told : (n : ℕ) → unbounded ≡ bounded_by n → ⊥
not_told n e = let f : unbounded.below ≡ Some n = ap (λ (v : Bound). v.below) e in cc

only_place : (w : Bound) {v u : Bound} {i j : ℕ} → get_elem? (w ∷ []) i ≡ some u → get_elem? (w ∷ []) j ≡ some v → i ≡ j
only_place w {i = zero} {j = zero} a b = refl
only_place w {u} {i = suc i} {j} a b = absurd (some-ne-none u (sym a))
only_place w {v} {i = zero} {j = suc j} a b = absurd (some-ne-none v (sym b))

pub begins : IsHintDeque [] (unbounded ∷ [])
begins = inl (refl, refl)

pub tells : (port x : ℕ) → Pushes IsHintDeque port unbounded (x ∷ []) (LearnsBound unbounded (x ∷ []))
tells port x items views h at = ⊎_elim
    (λ (a : (views ≡ unbounded ∷ []) × (items ≡ [])). (
      bounded_by (x + 1),
      inr (
        x + 1,
        subst (λ l. AllBelow (x + 1) (l ++ x ∷ [])) (sym a.1) (omega arith, tt),
        λ j u e. ⊎_elim (λ (p : (j ≡ port) × (bounded_by (x + 1) ≡ u)). sym p.1)
            (λ (p : (j ≢ port) × (get_elem? views j ≡ some u)). absurd (p.0 (only_place unbounded (subst (λ l. get_elem? l j ≡ some u) a.0 p.1) (subst (λ l. get_elem? l port ≡ some unbounded) a.0 at)))) (at_set views port j (bounded_by (x + 1)) u e),
      ),
      (x, refl, refl),
    ))
    (λ (a : (n : ℕ) × AllBelow n items × ((j : ℕ) (v : Bound) → get_elem? views j ≡ some v → v ≡ bounded_by n)). absurd (not_told a.0 (a.2 port unbounded at)))
    h

pub pushes : (port n : ℕ) (v : Bound) (x : ℕ) → v ≡ bounded_by n → x < n → Pushes IsHintDeque port v (x ∷ []) (MovesWithin v (x ∷ []))
pushes port n v x is small items views h at = ⊎_elim
    (λ (a : (views ≡ unbounded ∷ []) × (items ≡ [])). absurd (not_told n (one_view unbounded port v (subst (λ l. get_elem? l port ≡ some v) a.0 at) ∙ is)))
    (λ (a : (m : ℕ) × AllBelow m items × ((j : ℕ) (u : Bound) → get_elem? views j ≡ some u → u ≡ bounded_by m)). let same : n ≡ a.0 = one_count n a.0 (sym is ∙ a.2 port v at) in (
      v,
      inr (a.0, all_append a.0 items (x ∷ []) a.1 (subst (λ (m : ℕ). x < m) same small, tt), subst (λ l. (j : ℕ) (u : Bound) → get_elem? l j ≡ some u → u ≡ bounded_by a.0) (sym (set_again views port v at)) a.2),
      (refl, λ k e. (subst (λ (m : ℕ). x < m) (one_count n k (sym is ∙ e)) small, tt)),
    ))
    h

leaves : (port : ℕ) (v : Bound) (xs items whole : List ℕ) (views : List Bound) → ((m : ℕ) → AllBelow m whole → AllBelow m xs × AllBelow m items) → (whole ≡ [] → (xs ≡ []) × (items ≡ [])) → IsHintDeque whole views → get_elem? views port ≡ some v
    → (w : Bound) × IsHintDeque items (set views port w) × MovesWithin v xs w
leaves port v xs items whole views part none h at = (
  v,
  ⊎_elim
      (λ (a : (views ≡ unbounded ∷ []) × (whole ≡ [])). inl (set_again views port v at ∙ a.0, (none a.1).1))
      (λ (a : (m : ℕ) × AllBelow m whole × ((j : ℕ) (u : Bound) → get_elem? views j ≡ some u → u ≡ bounded_by m)). inr (a.0, (part a.0 a.1).1, subst (λ l. (j : ℕ) (u : Bound) → get_elem? l j ≡ some u → u ≡ bounded_by a.0) (sym (set_again views port v at)) a.2))
      h,
  (
    refl,
    λ n is. ⊎_elim
        (λ (a : (views ≡ unbounded ∷ []) × (whole ≡ [])). subst (AllBelow n) (sym (none a.1).0) tt)
        (λ (a : (m : ℕ) × AllBelow m whole × ((j : ℕ) (u : Bound) → get_elem? views j ≡ some u → u ≡ bounded_by m)). subst (λ (m : ℕ). AllBelow m xs) (one_count a.0 n (sym (a.2 port v at) ∙ is)) (part a.0 a.1).0)
        h,
  ),
)

no_front : (xs ys : List ℕ) → xs ++ ys ≡ [] → (xs ≡ []) × (ys ≡ [])
no_front [] ys e = (refl, e)
no_front (x ∷ xs) ys e = absurd (cc)

pub takes : (port : ℕ) (v : Bound) → Takes IsHintDeque port v 1 (MovesWithin v)
takes port v xs items views _ _ h at = leaves port v xs items (xs ++ items) views (λ m a. (all_front m xs items a, all_back m xs items a)) (no_front xs items) h at

pub pops : (port : ℕ) (v : Bound) → Pops IsHintDeque port v (MovesWithin v)
pops port v x items views h at = leaves port v (x ∷ []) items (items ++ x ∷ []) views (λ m a. (all_back m items (x ∷ []) a, all_front m items (x ∷ []) a)) (λ e. let p = no_front items (x ∷ []) e in (p.1, p.0)) h at

pub forks : (port n : ℕ) (v : Bound) → v ≡ bounded_by n → Forks IsHintDeque port v v v
forks port n v is items views h at = ⊎_elim
    (λ (a : (views ≡ unbounded ∷ []) × (items ≡ [])). absurd (not_told n (one_view unbounded port v (subst (λ l. get_elem? l port ≡ some v) a.0 at) ∙ is)))
    (λ (a : (m : ℕ) × AllBelow m items × ((j : ℕ) (u : Bound) → get_elem? views j ≡ some u → u ≡ bounded_by m)). inr (
      a.0,
      a.1,
      λ j u e. ⊎_elim
          (λ (p : get_elem? (set views port v) j ≡ some u). a.2 j u (subst (λ l. get_elem? l j ≡ some u) (set_again views port v at) p)) (λ (p : v ≡ u). sym p ∙ a.2 port v at) (at_snoc (set views port v) v u j e),
    ))
    h

-- at None the first fact, and at Some the second
pub pop_hint : (r : Option ℕ) (P : Type 0) (v w : Bound) → MatchOption r P (λ x. MovesWithin v (x ∷ []) w) → (n : ℕ) → v ≡ bounded_by n → IfSome r (λ x. x < n)
pop_hint None P v w h n is = tt
pop_hint (Some x) P v w h n is = (h.1 n is).0

-- the count 0 is bounded_by by a split
pub forks_none : (port : ℕ) → Forks IsHintDeque port unbounded (bounded_by 0) (bounded_by 0)
forks_none port items views h at = ⊎_elim
    (λ (a : (views ≡ unbounded ∷ []) × (items ≡ [])). inr (
      0,
      subst (AllBelow 0) (sym a.1) tt,
      λ j u e. ⊎_elim
          (λ (p : get_elem? (set views port (bounded_by 0)) j ≡ some u). ⊎_elim (λ (q : (j ≡ port) × (bounded_by 0 ≡ u)). sym q.1)
          (λ (q : (j ≢ port) × (get_elem? views j ≡ some u)). absurd (q.0 (only_place unbounded (subst (λ l. get_elem? l j ≡ some u) a.0 q.1) (subst (λ l. get_elem? l port ≡ some unbounded) a.0 at)))) (at_set views port j (bounded_by 0) u p))
          (λ (p : bounded_by 0 ≡ u). sym p) (at_snoc (set views port (bounded_by 0)) (bounded_by 0) u j e),
    ))
    (λ (a : (n : ℕ) × AllBelow n items × ((j : ℕ) (v : Bound) → get_elem? views j ≡ some v → v ≡ bounded_by n)). absurd (not_told a.0 (a.2 port unbounded at)))
    h
