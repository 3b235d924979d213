-- A cell taken out of a ring.
use Rattle.std.proofs.Common.{List, [], ◌∷◌, ◌++◌, ℕ, Option, Some, None, ◌≡◌, ◌≢◌, ◌<◌, ◌+◌, ap, sym, ◌∙◌, subst, arith, append-nil}
use Rattle.std.specs.Option.{ForSome}
use Rattle.list_pool.specs.Counts.{times}
use Rattle.list_pool.specs.Linked.{last, Path, IsDoublyLinked}
use Rattle.list_pool.proofs.Times.{times-append, times_here, times_more}
use Rattle.list_pool.proofs.Paths.{Once, last-append, last-push, last_in, path_split, path_kept, path_same, join}

abbrev pub head : List ℕ → Option ℕ
head [] = None
head (x ∷ xs) = Some x

pub same_some : (a b : ℕ) → Some a ≡ Some b → a ≡ b
same_some a b e = cc

pub some_not_none : (a : ℕ) → Some a ≢ None
some_not_none a e = cc

pub none_not_some : (a : ℕ) → None ≢ Some a
none_not_some a e = cc

-- what does not stand in a list is not the last of it
pub not_last : (xs : List ℕ) (x : ℕ) → times xs x ≡ 0 → Some x ≢ last None xs
unfolding last
not_last [] x h e = some_not_none x e
not_last (y ∷ ys) x h e =
    let r = last_in y ys in
    let f : x ≡ r.0 = same_some x r.0 (e ∙ r.1) in
    let g : 0 < times (y ∷ ys) x = subst (λ n. 0 < times (y ∷ ys) n) (sym f) r.2 in
    omega arith

-- the last of a list stands in it
pub last_stands : (xs : List ℕ) → ForSome (last None xs) (λ x. 0 < times xs x)
unfolding last
last_stands [] x e = absurd (none_not_some x e)
last_stands (y ∷ ys) x e =
    let r = last_in y ys in
    let f : r.0 ≡ x = same_some r.0 x (sym r.1 ∙ e) in
    subst (λ n. 0 < times (y ∷ ys) n) f r.2

pub head_stands : (xs : List ℕ) → ForSome (head xs) (λ x. 0 < times xs x)
head_stands [] x e = absurd (none_not_some x e)
head_stands (y ∷ ys) x e = subst (λ n. 0 < times (y ∷ ys) n) (same_some y x e) (omega (arith, times_here y ys))

module _ (N P : Option ℕ → Option ℕ) where
  pub first_is : (xs : List ℕ) → IsDoublyLinked N P xs → N None ≡ head xs
  unfolding Path last
  first_is [] r = r.end
  first_is (x ∷ xs) r = r.path.0

  pub prev_is : (ys : List ℕ) (c : ℕ) (zs : List ℕ) → IsDoublyLinked N P (ys ++ c ∷ zs) → P (Some c) ≡ last None ys
  unfolding Path
  prev_is ys c zs r = (path_split N P None ys (c ∷ zs) r.path).1.1

  pub next_is : (ys : List ℕ) (c : ℕ) (zs : List ℕ) → IsDoublyLinked N P (ys ++ c ∷ zs) → N (Some c) ≡ head zs
  unfolding Path last
  next_is ys c [] r = ap N (sym (last-push None ys c)) ∙ r.end
  next_is ys c (z ∷ zs) r = (path_split N P None ys (c ∷ z ∷ zs) r.path).1.2.0

module _ (N P N' P' : Option ℕ → Option ℕ) where
  pub cut : (ys : List ℕ) (c : ℕ) (zs : List ℕ) → IsDoublyLinked N P (ys ++ c ∷ zs) → Once (ys ++ c ∷ zs) →
      N' (P (Some c)) ≡ N (Some c) → P' (N (Some c)) ≡ P (Some c) →
      ((w : Option ℕ) → w ≢ P (Some c) → N' w ≡ N w) → ((w : Option ℕ) → w ≢ N (Some c) → P' w ≡ P w) → IsDoublyLinked N' P' (ys ++ zs)
  unfolding Path last
  cut ys c [] r once hit back nexts prevs =
      let p = prev_is N P ys c [] r in
      let n = next_is N P ys c [] r in
      let parts = path_split N P None ys (c ∷ []) r.path in
      let once_ys : Once ys = λ x. omega (arith, once x, times-append ys (c ∷ []) x) in
      rw append-nil (record {
        path = path_kept N P N' P' None ys parts.0 once_ys (λ h. nexts None (λ e. h (e ∙ p)))
            (λ x _ h. nexts (Some x) (λ e. h (e ∙ p))) (λ x _. prevs (Some x) (λ e. some_not_none x (e ∙ n)));
        end = ap N' (sym p) ∙ hit ∙ n;
        back = ap P' (sym n) ∙ back ∙ p;
      })
  cut ys c (z ∷ zs) r once hit back nexts prevs =
      let p = prev_is N P ys c (z ∷ zs) r in
      let n = next_is N P ys c (z ∷ zs) r in
      let parts = path_split N P None ys (c ∷ z ∷ zs) r.path in
      let split : (x : ℕ) → times (ys ++ c ∷ z ∷ zs) x ≡ times ys x + times (c ∷ z ∷ zs) x = times-append ys (c ∷ z ∷ zs) in
      let once_ys : Once ys = λ x. omega (arith, once x, split x) in
      let rest : (x : ℕ) → 0 < times (z ∷ zs) x → Some x ≢ P (Some c) = λ x h e. not_last ys x (omega (arith, once x, split x, times_more c (z ∷ zs) x)) (e ∙ p) in
      let l : last None (ys ++ c ∷ z ∷ zs) ≡ last (Some z) zs = last-append None ys (c ∷ z ∷ zs) in
      let y = last_in z zs in
      join N P N' P' ys z zs parts.0 once_ys (λ h. nexts None (λ e. h (e ∙ p)))
      (λ x _ h. nexts (Some x) (λ e. h (e ∙ p)))
      (λ x h. prevs (Some x) (λ e. let f : x ≡ z = same_some x z (e ∙ n) in
      let g : 0 < times ys z = subst (λ m. 0 < times ys m) f h in
      absurd (omega (arith, once z, split z, times_more c (z ∷ zs) z, times_here z zs))))
      (ap N' (sym p) ∙ hit ∙ n)
      (ap P' (sym n) ∙ back ∙ p)
      (path_same N P N' P' (Some z) zs parts.1.2.2 (nexts (Some z) (rest z (omega (arith, times_here z zs))))
      (λ x h. nexts (Some x) (rest x (omega (arith, times_more z zs x))))
      (λ x h. prevs (Some x) (λ e. let f : x ≡ z = same_some x z (e ∙ n) in
      let g : 0 < times zs z = subst (λ m. 0 < times zs m) f h in
      absurd (omega (arith, once z, split z, times_more c (z ∷ zs) z, times_here z zs)))))
      (ap N' y.1 ∙ nexts (Some y.0) (rest y.0 y.2) ∙ ap N (sym y.1 ∙ sym l) ∙ r.end)
      (prevs None (λ e. none_not_some z (e ∙ n)) ∙ r.back ∙ l)
