-- Paths and rings under a change of a few links.
use Rattle.std.proofs.Common.{List, [], ◌∷◌, ◌++◌, ℕ, Option, Some, None, ◌≡◌, ◌≢◌, ◌<◌, ◌≤◌, refl, ap, sym, ◌∙◌, subst, arith}
use Rattle.list_pool.specs.Counts.{times}
use Rattle.list_pool.specs.Linked.{last, Path, IsDoublyLinked}
use Rattle.list_pool.proofs.Times.{times_here, times_more}

abbrev pub onto : Option ℕ → List ℕ → List ℕ
onto None xs = xs
onto (Some q) xs = q ∷ xs

-- each cell stands once at most
abbrev pub Once : List ℕ → Type 0
Once xs = (c : ℕ) → times xs c ≤ 1

pub last-append : (p : Option ℕ) (xs ys : List ℕ) → last p (xs ++ ys) ≡ last (last p xs) ys
unfolding last
last-append p [] ys = refl
last-append p (x ∷ xs) ys = last-append (Some x) xs ys

pub last-push : (p : Option ℕ) (xs : List ℕ) (c : ℕ) → last p (xs ++ c ∷ []) ≡ Some c
unfolding last
last-push p xs c = last-append p xs (c ∷ [])

-- the last of some cells is one of them
pub last_in : (x : ℕ) (xs : List ℕ) → (y : ℕ) × (last (Some x) xs ≡ Some y) × (0 < times (x ∷ xs) y)
unfolding last
last_in x [] = (x, refl, omega (arith, times_here x []))
last_in x (z ∷ zs) = let r = last_in z zs in (r.0, r.1, let f : 0 < times (z ∷ zs) r.0 = r.2 in omega (arith, times_more x (z ∷ zs) r.0))

-- what stands before some cells is not the last of them
apart : (p : Option ℕ) (x : ℕ) (xs : List ℕ) → Once (onto p (x ∷ xs)) → p ≢ last (Some x) xs
apart None x xs h e = let r = last_in x xs in let f = r.1 in let g : None ≡ Some r.0 = e ∙ f in cc
apart (Some q) x xs h e =
    let r = last_in x xs in
    let f : q ≡ r.0 = some_same q r.0 (e ∙ r.1) in
    let g : 0 < times (x ∷ xs) q = subst (λ n. 0 < times (x ∷ xs) n) (sym f) r.2 in
    absurd (omega (arith, h q, times_here q (x ∷ xs)))
  where
    some_same : (a b : ℕ) → Some a ≡ Some b → a ≡ b
    some_same a b e = cc

Once_tail : (p : Option ℕ) (x : ℕ) (xs : List ℕ) → Once (onto p (x ∷ xs)) → Once (x ∷ xs)
Once_tail None x xs h = h
Once_tail (Some q) x xs h = λ c. omega (arith, h c, times_more q (x ∷ xs) c)

pub path_append : (N P : Option ℕ → Option ℕ) (p : Option ℕ) (xs ys : List ℕ) → Path N P p xs → Path N P (last p xs) ys → Path N P p (xs ++ ys)
unfolding Path last
path_append N P p [] ys h k = k
path_append N P p (x ∷ xs) ys h k = (h.0, h.1, path_append N P (Some x) xs ys h.2 k)

pub path_split : (N P : Option ℕ → Option ℕ) (p : Option ℕ) (xs ys : List ℕ) → Path N P p (xs ++ ys) → Path N P p xs × Path N P (last p xs) ys
unfolding Path last
path_split N P p [] ys h = (tt, h)
path_split N P p (x ∷ xs) ys h = let r = path_split N P (Some x) xs ys h.2 in ((h.0, h.1, r.0), r.1)

module _ (N P N' P' : Option ℕ → Option ℕ) where
  -- a path stays where only what follows its last cell changes
  pub path_kept : (p : Option ℕ) (xs : List ℕ) → Path N P p xs → Once (onto p xs) → (p ≢ last p xs → N' p ≡ N p) →
      ((x : ℕ) → 0 < times xs x → Some x ≢ last p xs → N' (Some x) ≡ N (Some x)) →
      ((x : ℕ) → 0 < times xs x → P' (Some x) ≡ P (Some x)) → Path N' P' p xs
  unfolding Path last
  path_kept p [] h once first nexts prevs = tt
  path_kept p (x ∷ xs) h once first nexts prevs =
      let here : 0 < times (x ∷ xs) x = omega (arith, times_here x xs) in (
        first (apart p x xs once) ∙ h.0,
        prevs x here ∙ h.1,
        path_kept (Some x) xs h.2 (Once_tail p x xs once) (nexts x here)
            (λ y k. nexts y (omega (arith, times_more x xs y)))
            (λ y k. prevs y (omega (arith, times_more x xs y))),
      )

  -- a path stays where nothing of it changes
  pub path_same : (p : Option ℕ) (xs : List ℕ) → Path N P p xs → N' p ≡ N p →
      ((x : ℕ) → 0 < times xs x → N' (Some x) ≡ N (Some x)) →
      ((x : ℕ) → 0 < times xs x → P' (Some x) ≡ P (Some x)) → Path N' P' p xs
  unfolding Path
  path_same p [] h first nexts prevs = tt
  path_same p (x ∷ xs) h first nexts prevs =
      let here : 0 < times (x ∷ xs) x = omega (arith, times_here x xs) in (
        first ∙ h.0,
        prevs x here ∙ h.1,
        path_same (Some x) xs h.2 (nexts x here)
            (λ y k. nexts y (omega (arith, times_more x xs y)))
            (λ y k. prevs y (omega (arith, times_more x xs y))),
      )

  end_same : (xs : List ℕ) → N (last None xs) ≡ None → N' None ≡ N None → ((x : ℕ) → 0 < times xs x → N' (Some x) ≡ N (Some x)) → N' (last None xs) ≡ None
  unfolding last
  end_same [] e first nexts = first ∙ e
  end_same (x ∷ xs) e first nexts = let r = last_in x xs in ap N' r.1 ∙ nexts r.0 r.2 ∙ ap N (sym r.1) ∙ e

  -- a list stays where nothing of it changes
  pub linked_same : (xs : List ℕ) → IsDoublyLinked N P xs → N' None ≡ N None → P' None ≡ P None →
      ((x : ℕ) → 0 < times xs x → N' (Some x) ≡ N (Some x)) →
      ((x : ℕ) → 0 < times xs x → P' (Some x) ≡ P (Some x)) → IsDoublyLinked N' P' xs
  linked_same xs r first back nexts prevs = record {
    path = path_same None xs r.path first nexts prevs;
    end = end_same xs r.end first nexts;
    back = back ∙ r.back;
  }

  -- cells put to the end of a list
  pub join : (xs : List ℕ) (y : ℕ) (ys : List ℕ) → Path N P None xs → Once xs → (None ≢ last None xs → N' None ≡ N None) →
      ((x : ℕ) → 0 < times xs x → Some x ≢ last None xs → N' (Some x) ≡ N (Some x)) →
      ((x : ℕ) → 0 < times xs x → P' (Some x) ≡ P (Some x)) →
      N' (last None xs) ≡ Some y → P' (Some y) ≡ last None xs → Path N' P' (Some y) ys → N' (last (Some y) ys) ≡ None → P' None ≡ last (Some y) ys →
      IsDoublyLinked N' P' (xs ++ y ∷ ys)
  unfolding Path last
  join xs y ys path once first nexts prevs there here more end back = record {
    path = path_append N' P' None xs (y ∷ ys) (path_kept None xs path once first nexts prevs) (there, here, more);
    end = ap N' (last-append None xs (y ∷ ys)) ∙ end;
    back = back ∙ sym (last-append None xs (y ∷ ys));
  }
