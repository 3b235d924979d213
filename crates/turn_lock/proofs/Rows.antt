-- A fact of each element of a list, by its place.
use Rattle.std.specs.List.{All}
use Rattle.std.proofs.lemmas.Option.{get_or_from_slice_get, slice_get_within, slice_get-get_or}
use Rattle.std.proofs.Common.{get_or, ◌≡◌, ℕ, zero, suc, ◌+◌, List, [], ◌∷◌, ◌++◌, length, Some, slice_get, refl, sym, subst, ◌⊎◌, inl, inr}

some_injective : {A : Type 0} {x y : A} → Some x ≡ Some y → x ≡ y
some_injective e = cc

module _ {A : Type 0} where
  each_pushed_from : (P : ℕ → A → Type 0) (xs : List A) (y : A) → ((k : ℕ) (x : A) → slice_get xs k ≡ Some x → P k x) → P (length xs) y → (k : ℕ) (x : A) → slice_get (xs ++ y ∷ []) k ≡ Some x → P k x
  each_pushed_from P [] y h last zero x e = subst (P 0) (some_injective e) last
  each_pushed_from P [] y h last (suc k) x e = absurd (cc)
  each_pushed_from P (z ∷ zs) y h last zero x e = h 0 x e
  each_pushed_from P (z ∷ zs) y h last (suc k) x e = each_pushed_from (λ (n : ℕ). P (suc n)) zs y (λ j w d. h (suc j) w d) last k x e

  pub each_pushed : (P : ℕ → A → Type 0) (xs : List A) (y : A) (n : ℕ) → length xs ≡ n → ((k : ℕ) (x : A) → slice_get xs k ≡ Some x → P k x) → P n y → (k : ℕ) (x : A) → slice_get (xs ++ y ∷ []) k ≡ Some x → P k x
  each_pushed P xs y n len h last = each_pushed_from P xs y h (subst (λ (m : ℕ). P m y) (sym len) last)

  pub each_none : (P : ℕ → A → Type 0) (xs : List A) → length xs ≡ 0 → (k : ℕ) (x : A) → slice_get xs k ≡ Some x → P k x
  each_none P [] len k x e = absurd (cc)
  each_none P (y ∷ ys) len k x e = absurd (omega Rattle.std.proofs.Common.arith)

  pub at_front : (xs : List A) (y : A) (k : ℕ) (x : A) → slice_get xs k ≡ Some x → slice_get (xs ++ y ∷ []) k ≡ Some x
  at_front [] y k x e = absurd (cc)
  at_front (z ∷ zs) y zero x e = e
  at_front (z ∷ zs) y (suc k) x e = at_front zs y k x e

  pub at_back : (xs : List A) (y : A) (k : ℕ) (x : A) → slice_get (xs ++ y ∷ []) k ≡ Some x → (slice_get xs k ≡ Some x) ⊎ (y ≡ x)
  at_back [] y zero x e = inr (some_injective e)
  at_back [] y (suc k) x e = absurd (cc)
  at_back (z ∷ zs) y zero x e = inl e
  at_back (z ∷ zs) y (suc k) x e = at_back zs y k x e

  pub at_end : (xs : List A) (y : A) → slice_get (xs ++ y ∷ []) (length xs) ≡ Some y
  at_end [] y = refl
  at_end (z ∷ zs) y = at_end zs y

  pub all_at : (P : A → Type 0) (xs : List A) → All P xs → (k : ℕ) (x : A) → slice_get xs k ≡ Some x → P x
  all_at P xs h k x e = subst P (get_or_from_slice_get xs k x x e) (h k x (slice_get_within xs k x e))

  pub at_all : (P : A → Type 0) (xs : List A) → ((k : ℕ) (x : A) → slice_get xs k ≡ Some x → P x) → All P xs
  at_all P xs h k d l = h k (get_or xs k d) (slice_get-get_or xs k d l)
