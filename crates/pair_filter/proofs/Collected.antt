-- What rayon collects of a range of numbers, where each call may fail.
use Rattle.std.proofs.Common.{List, [], ◌∷◌, ℕ, zero, suc, Some, slice_get, length, map, ◌≡◌, ◌+◌, ◌∙◌, arith, ap, sym, subst, refl}
use Rattle.std.proofs.lemmas.List.{length-map}
use Rattle.std.specs.Prelude.{IfOk, Ok, Err, Contains, MatchResult}
use Rattle.std.specs.List.{AllZip, range_with_len}
use Rattle.std.specs.declared.result.Result.{Result}
use Rattle.std.specs.declared.vec.Vec.{Vec}
use Rattle.pair_filter.proofs.Idle.{some_same}

-- what stands at the places of a range stands at those of what is made of it
module _ {Y : Type 0} (R : ℕ → Y → Type 0) where
  pub range_length : (from n : ℕ) (ys : List Y) → AllZip R (range_with_len from n) ys → length ys ≡ n
  range_length from zero [] h = refl
  range_length from zero (y ∷ ys) h = absurd h
  range_length from (suc n) [] h = absurd h
  range_length from (suc n) (y ∷ ys) h = ap suc (range_length (from + 1) n ys h.1)

  pub range_at : (from n : ℕ) (ys : List Y) → AllZip R (range_with_len from n) ys → (k : ℕ) (y : Y) → slice_get ys k ≡ Some y → R (from + k) y
  range_at from zero [] h k y at = absurd (cc)
  range_at from zero (z ∷ ys) h k y at = absurd h
  range_at from (suc n) [] h k y at = absurd h
  range_at from (suc n) (z ∷ ys) h zero y at =
      let same : from ≡ from + 0 = omega arith in
      subst (λ m. R m y) same (subst (R from) (some_same z y at) h.0)
  range_at from (suc n) (z ∷ ys) h (suc k) y at =
      let same : from + 1 + k ≡ from + suc k = omega arith in
      subst (λ m. R m y) same (range_at (from + 1) n ys h.1 k y at)

module _ {D E : Type 0} where
  abbrev as_ok : D → Result D E
  as_ok d = Ok d

  ok_at : (vs : List D) (k : ℕ) (d : D) → slice_get vs k ≡ Some d → slice_get (map as_ok vs) k ≡ Some (as_ok d)
  ok_at [] k d at = absurd (cc)
  ok_at (v ∷ vs) zero d at = ap (λ x. Some (as_ok x)) (some_same v d at)
  ok_at (v ∷ vs) (suc k) d at = ok_at vs k d at

  -- where none failed, each is there, at its place
  pub collected : {A : Type 0} (R : ℕ → Result D E → Type 0) (n : ℕ) (r : Result (Vec D A) E) (xs : List (Result D E))
      → AllZip R (range_with_len 0 n) xs
      → MatchResult r (λ v. (ys : List D) × (xs ≡ map as_ok ys) × (v.items ≡ ys)) (λ e. Contains xs (Err e))
      → IfOk r (λ v. (length v.items ≡ n) × ((k : ℕ) (d : D) → slice_get v.items k ≡ Some d → R k (as_ok d)))
  collected R n (Ok v) xs all made =
      let same : xs ≡ map as_ok v.items = made.1 ∙ ap (map as_ok) (sym made.2) in
      let all_ok : AllZip R (range_with_len 0 n) (map as_ok v.items) = subst (AllZip R (range_with_len 0 n)) same all in (
        sym (length-map v.items as_ok) ∙ range_length R 0 n (map as_ok v.items) all_ok,
        λ k d at. (let here : 0 + k ≡ k = omega arith in subst (λ m. R m (as_ok d)) here (range_at R 0 n (map as_ok v.items) all_ok k (as_ok d) (ok_at v.items k d at))),
      )
  collected R n (Err e) xs all made = tt
