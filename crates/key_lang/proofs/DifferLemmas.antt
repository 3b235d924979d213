-- Lists of which no element is the same as one after it.
use Rattle.std.proofs.Common.{◌≡◌, Bool, true, false, List, [], ◌∷◌, ◌++◌, map, refl, sym, ◌∙◌}
use Rattle.std.proofs.lemmas.Bool.{and_parts, and_from, or_parts, or_from, not-true, not_from_false, false_from_ne_true, true≢false}
use Rattle.std.specs.List.{list_all, list_any}
use Rattle.key_file.specs.Key.{all_differ}

pub any_append : {X : Type 0} (p : X → Bool) (xs ys : List X) → list_any p xs ≡ false → list_any p ys ≡ false → list_any p (xs ++ ys) ≡ false
any_append p [] ys a b = b
any_append p (x ∷ xs) ys a b = or_from _ _ (or_parts _ _ a).0 (any_append p xs ys (or_parts _ _ a).1 b)

-- no element of the one list is the same as one of the other
abbrev pub Apart : {X : Type 0} → (X → X → Bool) → List X → List X → Type 0
Apart same [] ys = Unit {0}
Apart same (x ∷ xs) ys = (list_any (same x) ys ≡ false) × Apart same xs ys

pub differ_append : {X : Type 0} (same : X → X → Bool) (xs ys : List X) → all_differ same xs ≡ true → all_differ same ys ≡ true → Apart same xs ys
    → all_differ same (xs ++ ys) ≡ true
differ_append same [] ys a b c = b
differ_append same (x ∷ xs) ys a b c =
    let parts = and_parts _ _ a in
    and_from _ _ (not_from_false _ (any_append (same x) xs ys (not-true _ parts.0) c.0)) (differ_append same xs ys parts.1 b c.1)

-- one more element, which a test finds to be like none
pub apart_one : {X : Type 0} (same : X → X → Bool) (p : X → Bool) (xs : List X) (y : X) → ((x : X) → p x ≡ false → same x y ≡ false)
    → list_any p xs ≡ false → Apart same xs (y ∷ [])
apart_one same p [] y h a = tt
apart_one same p (x ∷ xs) y h a =
    let parts = or_parts _ _ a in
    (or_from _ _ (h x parts.0) refl, apart_one same p xs y h parts.1)

pub differ_push : {X : Type 0} (same : X → X → Bool) (p : X → Bool) (xs : List X) (y : X) → ((x : X) → p x ≡ false → same x y ≡ false)
    → all_differ same xs ≡ true → list_any p xs ≡ false → all_differ same (xs ++ y ∷ []) ≡ true
differ_push same p xs y h a b = differ_append same xs (y ∷ []) a refl (apart_one same p xs y h b)

-- images of good elements, which are the same only where the elements are
module _ {X Y : Type 0} (same : X → X → Bool) (same' : Y → Y → Bool) (f : X → Y) (good : X → Bool)
    (h : (x y : X) → good x ≡ true → good y ≡ true → same' (f x) (f y) ≡ true → same x y ≡ true) where
  none_image : (x : X) (ys : List X) → good x ≡ true → list_all good ys ≡ true → list_any (same x) ys ≡ false → list_any (same' (f x)) (map f ys) ≡ false
  none_image x [] g all a = refl
  none_image x (y ∷ ys) g all a =
      let parts = or_parts _ _ a in
      let goods = and_parts _ _ all in
      or_from _ _ (false_from_ne_true _ (λ e. true≢false (sym (h x y g goods.0 e) ∙ parts.0))) (none_image x ys g goods.1 parts.1)

  pub differ_map : (xs : List X) → list_all good xs ≡ true → all_differ same xs ≡ true → all_differ same' (map f xs) ≡ true
  differ_map [] all a = refl
  differ_map (x ∷ xs) all a =
      let parts = and_parts _ _ a in
      let goods = and_parts _ _ all in
      and_from _ _ (not_from_false _ (none_image x xs goods.0 goods.1 (not-true _ parts.0))) (differ_map xs goods.1 parts.1)
