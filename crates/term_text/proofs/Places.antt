-- The first place of a label, and what a list holds from there on.
use Rattle.std.proofs.Common.{◌≡◌, ℕ, ◌+◌, ◌-◌, ◌<◌, ◌≤◌, zero, suc, Bool, true, false, cond, ◌||◌, List, [], ◌∷◌, length, get_or, take, drop, None, Some, unwrap_or, refl, sym, ap, ◌∙◌, subst, arith, ⊎_elim}
use Rattle.std.proofs.lemmas.Bool.{cases_Bool}
use Rattle.std.proofs.lemmas.List.{drop_more, drop_all}
use Rattle.std.specs.List.{filter, list_any, position_from}

-- what a list of K holds from its first element that passes on; it stands from place k on in a list ys
pub record Splits {X : Type 0} (t : X → Bool) (k : ℕ) (d : X) (ys : List X) (q : ℕ) : Type 0 where
  pub from : k ≤ q
  pub in_range : q < length ys
  pub passes : t (get_or ys q d) ≡ true
  pub rest : filter t (drop k ys) ≡ get_or ys q d ∷ filter t (drop (q + 1) ys)

some_is : (a b : ℕ) → Some a ≡ Some b → a ≡ b
some_is a b e = ap (λ o. unwrap_or o 0) e

none_some : (a : ℕ) → None ≡ Some a → ⊥
none_some a e = cc

-- by how much is left of the list
splits_by : {X : Type 0} (t : X → Bool) (d : X) (ys : List X) (n k q : ℕ) → k + n ≡ length ys → position_from t k (drop k ys) ≡ Some q → Splits t k d ys q
splits_by t d ys zero k q e h =
    let none : drop k ys ≡ [] = drop_all k ys (omega arith) in
    absurd (none_some q (sym (ap (position_from t k) none) ∙ h))
splits_by t d ys (suc n) k q e h =
    let inside : k < length ys = omega arith in
    let step : drop k ys ≡ get_or ys k d ∷ drop (k + 1) ys = drop_more ys k d inside in
    ⊎_elim
    (λ yes. let same : k ≡ q = some_is k q (sym (ap (λ b. cond b (Some k) (position_from t (k + 1) (drop (k + 1) ys))) yes) ∙ (sym (ap (position_from t k) step) ∙ h)) in
    subst (λ v. Splits t k d ys v) same (record {
      from = omega arith;
      in_range = inside;
      passes = yes;
      rest = ap (filter t) step ∙ ap (λ b. cond b (get_or ys k d ∷ filter t (drop (k + 1) ys)) (filter t (drop (k + 1) ys))) yes;
    }))
    (λ no. let later = splits_by t d ys n (k + 1) q (omega arith) (sym (ap (λ b. cond b (Some k) (position_from t (k + 1) (drop (k + 1) ys))) no) ∙ (sym (ap (position_from t k) step) ∙ h)) in
    record {
      from = omega (arith, later.from);
      in_range = later.in_range;
      passes = later.passes;
      rest = ap (filter t) step ∙ (ap (λ b. cond b (get_or ys k d ∷ filter t (drop (k + 1) ys)) (filter t (drop (k + 1) ys))) no ∙ later.rest);
    })
    (cases_Bool (t (get_or ys k d)))

pub place_splits : {X : Type 0} (t : X → Bool) (d : X) (ys : List X) (k q : ℕ) → k ≤ length ys → position_from t k (drop k ys) ≡ Some q → Splits t k d ys q
place_splits t d ys k q le h = splits_by t d ys (length ys - k) k q (omega arith) h

pub place_none : {X : Type 0} (t : X → Bool) (i : ℕ) (xs : List X) → position_from t i xs ≡ None → filter t xs ≡ []
place_none t i [] h = refl
place_none t i (x ∷ xs) h =
    ⊎_elim
    (λ e. absurd (none_some i (sym h ∙ ap (λ b. cond b (Some i) (position_from t (i + 1) xs)) e)))
    (λ e. ap (λ b. cond b (x ∷ filter t xs) (filter t xs)) e ∙ place_none t (i + 1) xs (sym (ap (λ b. cond b (Some i) (position_from t (i + 1) xs)) e) ∙ h))
    (cases_Bool (t x))

-- the first place is p exactly where nothing before p passes
pub nothing_before : {X : Type 0} (t : X → Bool) (i p q : ℕ) (xs : List X) → q ≡ i + p → position_from t i xs ≡ Some q → list_any t (take p xs) ≡ false
nothing_before t i zero q xs e h = refl
nothing_before t i (suc p) q [] e h = refl
nothing_before t i (suc p) q (x ∷ xs) e h =
    ⊎_elim
    (λ b. let same : i ≡ q = some_is i q (sym (ap (λ v. cond v (Some i) (position_from t (i + 1) xs)) b) ∙ h) in absurd (omega arith))
    (λ b. ap (λ v. v || list_any t (take p xs)) b ∙ nothing_before t (i + 1) p q xs (omega arith) (sym (ap (λ v. cond v (Some i) (position_from t (i + 1) xs)) b) ∙ h))
    (cases_Bool (t x))

or_false : (a b : Bool) → (a || b) ≡ false → a ≡ false
or_false true b e = e
or_false false b e = refl

or_right : (a b : Bool) → (a || b) ≡ false → b ≡ false
or_right true b e = absurd (cc)
or_right false b e = e

pub first_found : {X : Type 0} (t : X → Bool) (d : X) (i p q : ℕ) (xs : List X) → q ≡ i + p → p < length xs → t (get_or xs p d) ≡ true → list_any t (take p xs) ≡ false → position_from t i xs ≡ Some q
first_found t d i p q [] e l y h = absurd (omega arith)
first_found t d i zero q (x ∷ xs) e l y h = ap (λ v. cond v (Some i) (position_from t (i + 1) xs)) y ∙ ap Some (omega arith)
first_found t d i (suc p) q (x ∷ xs) e l y h =
    ap (λ v. cond v (Some i) (position_from t (i + 1) xs)) (or_false (t x) (list_any t (take p xs)) h)
    ∙ first_found t d (i + 1) p q xs (omega arith) (omega arith) y (or_right (t x) (list_any t (take p xs)) h)

-- the first place from k on, by the element at k
pub place_step : {X : Type 0} (t : X → Bool) (d : X) (k : ℕ) (ys : List X) → k < length ys → position_from t k (drop k ys) ≡ cond (t (get_or ys k d)) (Some k) (position_from t (k + 1) (drop (k + 1) ys))
place_step t d k ys l = ap (position_from t k) (drop_more ys k d l)
