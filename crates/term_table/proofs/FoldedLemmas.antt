-- The folded literals of a part of a list, and where they stand among those of a longer part.
use Rattle.std.proofs.Common.{◌≡◌, ℕ, ◌+◌, ◌-◌, ◌<◌, ◌≤◌, true, false, List, [], ◌∷◌, ◌++◌, length, take, drop, map, inl, inr, slice_get, slice_range, Some, ap, ◌∙◌, arith, length-append}
use Rattle.std.specs.List.{filter}
use Rattle.std.proofs.Math.Seq.{take-add}
use Rattle.std.proofs.lemmas.Bool.{cases_Bool, cond-true, cond-false}
use Rattle.std.proofs.lemmas.List.{append-nil, drop-drop, length-take-le, map-append}
use Rattle.std.proofs.lemmas.List.Elements.{filter-append}
use Rattle.gk_base.specs.Term.{is_literal}
use Rattle.gk_base.specs.declared.term.Term.{Term}
use Rattle.term_table.specs.Folding.{folded_term, folded_literals}
use Rattle.term_table.proofs.NumberingLemmas.{slice_get-push, slice_get-append_left, take_next}
use Rattle.term_table.proofs.TogetherLemmas.{slice_get-drop}

-- the folded literals of two lists, joined
pub folded_literals-append : (xs ys : List Term) → folded_literals (xs ++ ys) ≡ folded_literals xs ++ folded_literals ys
folded_literals-append xs ys =
    ap (map folded_term) (filter-append is_literal xs ys) ∙ map-append folded_term (filter is_literal xs) (filter is_literal ys)

-- of one term
one_literal : (t : Term) → is_literal t ≡ true → folded_literals (t ∷ []) ≡ folded_term t ∷ []
one_literal t literal = ap (map folded_term) (cond-true (is_literal t) (t ∷ []) [] literal)

one_other : (t : Term) → is_literal t ≡ false → folded_literals (t ∷ []) ≡ []
one_other t other = ap (map folded_term) (cond-false (is_literal t) (t ∷ []) [] other)

pub folded_literals-literal : (xs : List Term) (t : Term) → is_literal t ≡ true → folded_literals (xs ++ t ∷ []) ≡ folded_literals xs ++ folded_term t ∷ []
folded_literals-literal xs t literal = folded_literals-append xs (t ∷ []) ∙ ap (λ l. folded_literals xs ++ l) (one_literal t literal)

pub folded_literals-other : (xs : List Term) (t : Term) → is_literal t ≡ false → folded_literals (xs ++ t ∷ []) ≡ folded_literals xs
folded_literals-other xs t other = folded_literals-append xs (t ∷ []) ∙ ap (λ l. folded_literals xs ++ l) (one_other t other) ∙ append-nil (folded_literals xs)

-- there are no more of them than terms
pub length-folded_literals : (xs : List Term) → length (folded_literals xs) ≤ length xs
length-folded_literals [] = omega arith
length-folded_literals (x ∷ xs) =
    let rest = length-folded_literals xs in
    let whole = ap length (folded_literals-append (x ∷ []) xs) ∙ length-append (folded_literals (x ∷ [])) (folded_literals xs) in
    elim (cases_Bool (is_literal x)) [
      | inl literal ↦ let one = ap length (one_literal x literal) in omega (arith, whole, one, rest)
      | inr other ↦ let none = ap length (one_other x other) in omega (arith, whole, none, rest)
    ]

module _ {X : Type 0} (xs : List X) where
  -- what stands at a place stands there from an earlier place on
  slice_get-from : (from i : ℕ) (x : X) → from ≤ i → slice_get xs i ≡ Some x → slice_get (drop from xs) (i - from) ≡ Some x
  slice_get-from from i x ordered at =
      let place : from + (i - from) ≡ i = omega arith in
      slice_get-drop from xs (i - from) ∙ ap (slice_get xs) place ∙ at

  -- a part with one element more
  pub range_more : (from i : ℕ) (x : X) → from ≤ i → slice_get xs i ≡ Some x → slice_range xs from (i + 1) ≡ slice_range xs from i ++ x ∷ []
  range_more from i x ordered at =
      let next : i + 1 - from ≡ i - from + 1 = omega arith in
      ap (λ n. take n (drop from xs)) next ∙ take_next (drop from xs) (i - from) x (slice_get-from from i x ordered at)

  -- a part in two parts
  pub range_split : (from middle to : ℕ) → from ≤ middle → middle ≤ to → slice_range xs from to ≡ slice_range xs from middle ++ slice_range xs middle to
  range_split from middle to low high =
      let whole : to - from ≡ (middle - from) + (to - middle) = omega arith in
      let there : from + (middle - from) ≡ middle = omega arith in
      ap (λ n. take n (drop from xs)) whole ∙ take-add (middle - from) (to - middle) (drop from xs)
      ∙ ap (λ l. take (middle - from) (drop from xs) ++ take (to - middle) l) (drop-drop (middle - from) from xs ∙ ap (λ n. drop n xs) there)

  -- what is before a place, in two parts
  pub take_split : (middle to : ℕ) → middle ≤ to → take to xs ≡ take middle xs ++ slice_range xs middle to
  take_split middle to ordered =
      let whole : to ≡ middle + (to - middle) = omega arith in
      ap (λ n. take n xs) whole ∙ take-add middle (to - middle) xs

-- Where the term at a place is a literal, and the place is in a part of the list, its folded form stands behind those before it.
pub folded_at_place : (terms : List Term) (from i to : ℕ) (t : Term) → from ≤ i → i < to → slice_get terms i ≡ Some t → is_literal t ≡ true
    → slice_get (folded_literals (slice_range terms from to)) (length (folded_literals (slice_range terms from i))) ≡ Some (folded_term t)
folded_at_place terms from i to t low high at literal =
    let before = folded_literals (slice_range terms from i) in
    let behind = folded_literals (slice_range terms (i + 1) to) in
    let parts : folded_literals (slice_range terms from to) ≡ (before ++ folded_term t ∷ []) ++ behind =
    ap folded_literals (range_split terms from (i + 1) to (omega arith) (omega arith))
    ∙ folded_literals-append (slice_range terms from (i + 1)) (slice_range terms (i + 1) to)
    ∙ ap (λ l. l ++ behind) (ap folded_literals (range_more terms from i t low at) ∙ folded_literals-literal (slice_range terms from i) t literal) in
    ap (λ l. slice_get l (length before)) parts
    ∙ slice_get-append_left (before ++ folded_term t ∷ []) behind (length before) (folded_term t) (slice_get-push before (folded_term t))

-- no more literals than terms are folded
pub few_folded : (terms : List Term) (from to : ℕ) → from ≤ to → to ≤ length terms → length (folded_literals (slice_range terms from to)) ≤ to - from
few_folded terms from to ordered within =
    let few = length-folded_literals (slice_range terms from to) in
    let parts = ap length (take_split terms from to ordered) ∙ length-append (take from terms) (slice_range terms from to) in
    let all = length-take-le to terms within in
    let front = length-take-le from terms (omega arith) in
    omega (arith, few, parts, all, front)
