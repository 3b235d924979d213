-- Sums over views, counts of places, and beginnings of lists.
use Rattle.std.proofs.Common.{◌≡◌, ◌≢◌, ℕ, zero, suc, ◌+◌, ◌-◌, ◌<◌, ◌≤◌, List, [], ◌∷◌, ◌++◌, length, set, slice_get, Some, sym, refl, ap, ◌∙◌, subst, arith, le_refl, append_assoc, length-append, add-zero}
use native.Mathlib.Decide.{ℕ_discrete}
use mathlib.Core.Logic.{dite}
use mathlib.Core.Option.{some, some-injective, some-ne-none}
use lib.ListN.{get_elem?}
use Rattle.turn_lock.specs.Lists.{total, is_same, occurrences, places, Placed, below, StartsWith}

module _ {V : Type 0} where
  pub total_set : (f : V → ℕ) (vs : List V) (j : ℕ) (v w : V) → get_elem? vs j ≡ some v → total f (set vs j w) + f v ≡ total f vs + f w
  total_set f [] j v w e = absurd (some-ne-none v (sym e))
  total_set f (x ∷ xs) zero v w e = let same : f x ≡ f v = ap f (some-injective x v e) in omega arith
  total_set f (x ∷ xs) (suc j) v w e = let more = total_set f xs j v w e in omega arith

  pub total_snoc : (f : V → ℕ) (vs : List V) (w : V) → total f (vs ++ w ∷ []) ≡ total f vs + f w
  total_snoc f [] w = omega arith
  total_snoc f (x ∷ xs) w = let more = total_snoc f xs w in omega arith

  pub total_append : (f : V → ℕ) (vs ws : List V) → total f (vs ++ ws) ≡ total f vs + total f ws
  total_append f [] ws = omega arith
  total_append f (x ∷ xs) ws = let more = total_append f xs ws in omega arith

  pub total_le : (f g : V → ℕ) (vs : List V) → ((j : ℕ) (v : V) → get_elem? vs j ≡ some v → f v ≤ g v) → total f vs ≤ total g vs
  total_le f g [] h = le_refl 0
  total_le f g (x ∷ xs) h = let here : f x ≤ g x = h 0 x refl in let more : total f xs ≤ total g xs = total_le f g xs (λ j v e. h (suc j) v e) in omega arith

  pub one_of_total : (p : V → ℕ) (vs : List V) (j : ℕ) (v : V) → get_elem? vs j ≡ some v → p v ≤ total p vs
  one_of_total p [] j v e = absurd (some-ne-none v (sym e))
  one_of_total p (x ∷ xs) zero v e = let same : p x ≡ p v = ap p (some-injective x v e) in omega arith
  one_of_total p (x ∷ xs) (suc j) v e = let more = one_of_total p xs j v e in omega arith

  total_none : (f p : V → ℕ) (vs : List V) → total p vs ≡ 0 → ((j : ℕ) (v : V) → get_elem? vs j ≡ some v → p v ≡ 0 → f v ≡ 0) → total f vs ≡ 0
  total_none f p [] e h = refl
  total_none f p (x ∷ xs) e h = let here : f x ≡ 0 = h 0 x refl (omega arith) in let more : total f xs ≡ 0 = total_none f p xs (omega arith) (λ j v a. h (suc j) v a) in omega arith

  -- where one view has every part, and a view with no part counts nothing, that view counts all
  pub total_alone : (f p : V → ℕ) (vs : List V) (j : ℕ) (v : V) → get_elem? vs j ≡ some v → total p vs ≡ p v → ((k : ℕ) (u : V) → get_elem? vs k ≡ some u → p u ≡ 0 → f u ≡ 0) → total f vs ≡ f v
  total_alone f p [] j v at all h = absurd (some-ne-none v (sym at))
  total_alone f p (x ∷ xs) zero v at all h = let same : f x ≡ f v = ap f (some-injective x v at) in let same' : p x ≡ p v = ap p (some-injective x v at) in
      let rest : total f xs ≡ 0 = total_none f p xs (omega arith) (λ j u a. h (suc j) u a) in omega arith
  total_alone f p (x ∷ xs) (suc j) v at all h = let some_part = one_of_total p xs j v at in
      let here : f x ≡ 0 = h 0 x refl (omega arith) in let more : total f xs ≡ f v = total_alone f p xs j v at (omega arith) (λ k u a. h (suc k) u a) in omega arith

  -- no other view has a part
  pub others_none : (p : V → ℕ) (vs : List V) (j k : ℕ) (v u : V) → get_elem? vs j ≡ some v → get_elem? vs k ≡ some u → k ≢ j → total p vs ≡ p v → p u ≡ 0
  others_none p [] j k v u at there apart all = absurd (some-ne-none v (sym at))
  others_none p (x ∷ xs) zero zero v u at there apart all = absurd (apart refl)
  others_none p (x ∷ xs) zero (suc k) v u at there apart all = let same : p x ≡ p v = ap p (some-injective x v at) in let part = one_of_total p xs k u there in omega arith
  others_none p (x ∷ xs) (suc j) zero v u at there apart all = let same : p x ≡ p u = ap p (some-injective x u there) in let part = one_of_total p xs j v at in omega arith
  others_none p (x ∷ xs) (suc j) (suc k) v u at there apart all = let part = one_of_total p xs j v at in others_none p xs j k v u at there (λ e. apart (ap suc e)) (omega arith)

pub times_append : (x : ℕ) (ys zs : List ℕ) → occurrences x (ys ++ zs) ≡ occurrences x ys + occurrences x zs
times_append x [] zs = omega arith
times_append x (y ∷ ys) zs = let more = times_append x ys zs in omega arith

below_suc : (n x : ℕ) → below (suc n) x ≡ below n x + occurrences x (n ∷ [])
below_suc zero zero = refl
below_suc zero (suc x) = refl
below_suc (suc n) zero = refl
below_suc (suc n) (suc x) = below_suc n x

pub below_more : (n k x : ℕ) → below (n + k) x ≡ below n x + occurrences x (places n k)
below_more n zero x = ap (λ (z : ℕ). below z x) (add-zero n) ∙ (let e : below n x ≡ below n x + 0 = omega arith in e)
below_more n (suc k) x = let step = below_suc n x in let more = below_more (suc n) k x in let where_is : below (n + suc k) x ≡ below (suc n + k) x = ap (λ (z : ℕ). below z x) (let e : n + suc k ≡ suc n + k = omega arith in e) in omega arith

module _ {I : Type 0} where
  pub begins_all : (xs : List I) → StartsWith xs xs
  begins_all xs = ([], sym (simp Rattle.std.proofs.Common.append-nil))

  pub begins_longer : (xs ys zs : List I) → StartsWith xs ys → StartsWith ys zs → StartsWith xs zs
  begins_longer xs ys zs a b = (b.0 ++ a.0, a.1 ∙ ap (λ w. w ++ a.0) b.1 ∙ append_assoc zs b.0 a.0)

  pub begins_length : (xs ys : List I) → StartsWith xs ys → length ys ≤ length xs
  begins_length xs ys a = let e : length xs ≡ length (ys ++ a.0) = ap length a.1 in omega (arith, length-append ys a.0)

pub placed_none : (lo h : ℕ) → Placed lo [] h
unfolding Placed
placed_none lo h = tt

pub placed_more : (lo : ℕ) (xs : List ℕ) (h k : ℕ) → h ≤ k → Placed lo xs h → Placed lo xs k
unfolding Placed
placed_more lo [] h k le p = tt
placed_more lo (x ∷ xs) h k le p = let a = p.1 in (p.0, omega arith, placed_more (suc x) xs h k le p.2)

placed_places : (lo n k : ℕ) → lo ≤ n → Placed lo (places n k) (n + k)
unfolding Placed
placed_places lo n zero le = tt
placed_places lo n (suc k) le = (le, omega arith, placed_more (suc n) (places (suc n) k) (suc n + k) (n + suc k) (omega arith) (placed_places (suc n) (suc n) k (le_refl (suc n))))

pub placed_append : (lo : ℕ) (xs : List ℕ) (n k : ℕ) → lo ≤ n → Placed lo xs n → Placed lo (xs ++ places n k) (n + k)
unfolding Placed
placed_append lo [] n k le p = placed_places lo n k le
placed_append lo (x ∷ xs) n k le p = let a = p.1 in (p.0, omega arith, placed_append (suc x) xs n k (omega arith) p.2)

differ : (x y : ℕ) → x ≢ y → is_same x y ≡ 0
differ zero zero n = absurd (n refl)
differ zero (suc y) n = refl
differ (suc x) zero n = refl
differ (suc x) (suc y) n = differ x y (λ e. n (ap suc e))

-- a listed place is below the bound
pub placed_below : (lo : ℕ) (xs : List ℕ) (h y : ℕ) → Placed lo xs h → 0 < occurrences y xs → y < h
unfolding Placed
placed_below lo [] h y p l = absurd (omega arith)
placed_below lo (x ∷ xs) h y p l = dite (ℕ_discrete x y) (λ (e : x ≡ y). let a = p.1 in omega arith) (λ (n : x ≢ y). let none_here : is_same x y ≡ 0 = differ x y n in placed_below (suc x) xs h y p.2 (omega arith))

module _ {I : Type 0} where
  at_begin : (xs ys : List I) (k : ℕ) → k < length xs → (i : I) × (slice_get xs k ≡ Some i) × (slice_get (xs ++ ys) k ≡ Some i)
  at_begin [] ys k l = absurd (omega arith)
  at_begin (x ∷ xs) ys zero l = (x, refl, refl)
  at_begin (x ∷ xs) ys (suc k) l = at_begin xs ys k (omega arith)

  pub begins_at : (xs ys : List I) (k : ℕ) → StartsWith xs ys → k < length ys → (i : I) × (slice_get ys k ≡ Some i) × (slice_get xs k ≡ Some i)
  begins_at xs ys k b l = let a = at_begin ys b.0 k l in (a.0, a.1, subst (λ z. slice_get z k ≡ Some a.0) (sym b.1) a.2)

pub below_in : (n x : ℕ) → x < n → below n x ≡ 1
below_in zero x l = absurd (omega arith)
below_in (suc n) zero l = refl
below_in (suc n) (suc x) l = below_in n x (omega arith)

pub below_out : (n x : ℕ) → n ≤ x → below n x ≡ 0
below_out zero x l = refl
below_out (suc n) zero l = absurd (omega arith)
below_out (suc n) (suc x) l = below_out n x (omega arith)
