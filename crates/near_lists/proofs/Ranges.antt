-- Lists cut from one.
use Rattle.std.proofs.Common.{List, [], ◌∷◌, ◌++◌, ℕ, suc, zero, length, get_or, take, drop, ◌≡◌, ◌<◌, ◌≤◌, ◌+◌, ◌-◌, inl, inr, refl, ap, sym, ◌∙◌, subst, arith, add-one}
use Rattle.std.specs.Prelude.{slice_range}
use Rattle.std.specs.List.{concat}
use Rattle.std.proofs.lemmas.List.{length-take, length-drop, length-append, take-append-le, drop-append-le, take_all, drop_at, drop_all, drop-drop, take-append-drop, get_or-drop, get_or_append_left, get_or_push, length_push, ext_get_or}
use Rattle.std.proofs.lemmas.Bool.{cases_lt, cases_eq}
use Rattle.list_pool.specs.Pool.{list_at}
use Rattle.near_lists.specs.Lists.{ranges, cut, AreStarts}

-- places that rise stay in order
pub rising_far : (starts : List ℕ) → ((k : ℕ) → k + 1 < length starts → get_or starts k 0 ≤ get_or starts (k + 1) 0) → (i j : ℕ) → i ≤ j → j < length starts → get_or starts i 0 ≤ get_or starts j 0
rising_far starts up i zero h k = let e : i ≡ 0 = omega arith in subst (λ n. get_or starts n 0 ≤ get_or starts 0 0) (sym e) (omega arith)
rising_far starts up i (suc j) h k = elim (cases_eq i (suc j)) [
  | inl e ↦ subst (λ n. get_or starts n 0 ≤ get_or starts (suc j) 0) (sym e) (omega arith)
  | inr ne ↦
      let before : get_or starts i 0 ≤ get_or starts j 0 = rising_far starts up i j (omega arith) (omega arith) in
      let step : get_or starts j 0 ≤ get_or starts (suc j) 0 = subst (λ n. get_or starts j 0 ≤ get_or starts n 0) (add-one j) (up j (omega arith)) in
      omega arith
]

pub length_range : (items : List ℕ) (a b : ℕ) → a ≤ b → b ≤ length items → length (slice_range items a b) ≡ b - a
length_range items a b h k = omega (arith, length-take (b - a) (drop a items), length-drop a items)

pub length-ranges : (starts ends items : List ℕ) → length ends ≤ length starts → length (ranges starts ends items) ≡ length ends
unfolding ranges
length-ranges [] [] items h = refl
length-ranges [] (b ∷ ends) items h = absurd (omega arith)
length-ranges (a ∷ starts) [] items h = refl
length-ranges (a ∷ starts) (b ∷ ends) items h = ap suc (length-ranges starts ends items (omega arith))

pub list_at-ranges : (starts ends items : List ℕ) (k : ℕ) → length ends ≤ length starts → k < length ends → list_at (ranges starts ends items) k ≡ slice_range items (get_or starts k 0) (get_or ends k 0)
unfolding ranges
list_at-ranges starts [] items k h j = absurd (omega arith)
list_at-ranges [] (b ∷ ends) items k h j = absurd (omega arith)
list_at-ranges (a ∷ starts) (b ∷ ends) items zero h j = refl
list_at-ranges (a ∷ starts) (b ∷ ends) items (suc k) h j = list_at-ranges starts ends items k (omega arith) (omega arith)

pub length-cut : (starts items : List ℕ) → 0 < length starts → length (cut starts items) + 1 ≡ length starts
length-cut starts items h =
    let short : length (drop 1 starts) ≡ length starts - 1 = length-drop 1 starts in
    let e : length (cut starts items) ≡ length (drop 1 starts) = length-ranges starts (drop 1 starts) items (omega arith) in
    omega arith

pub list_at-cut : (starts items : List ℕ) (k : ℕ) → k + 1 < length starts → list_at (cut starts items) k ≡ slice_range items (get_or starts k 0) (get_or starts (k + 1) 0)
list_at-cut starts items k h =
    let short : length (drop 1 starts) ≡ length starts - 1 = length-drop 1 starts in
    let turn : 1 + k ≡ k + 1 = omega arith in
    list_at-ranges starts (drop 1 starts) items k (omega arith) (omega arith)
    ∙ ap (slice_range items (get_or starts k 0)) (get_or-drop 1 starts k 0 ∙ ap (λ n. get_or starts n 0) turn)

-- a range of a list that goes on
range_kept : (items row : List ℕ) (a b : ℕ) → a ≤ b → b ≤ length items → slice_range (items ++ row) a b ≡ slice_range items a b
range_kept items row a b h k =
    let start : a ≤ length items = omega arith in
    let short : b - a ≤ length (drop a items) = omega (arith, length-drop a items) in
    ap (take (b - a)) (drop-append-le a items row start) ∙ take-append-le (b - a) (drop a items) row short

range_last : (items row : List ℕ) → slice_range (items ++ row) (length items) (length (items ++ row)) ≡ row
range_last items row =
    ap (take (length (items ++ row) - length items)) (drop_at items row (length items) refl) ∙ take_all (length (items ++ row) - length items) row (omega (arith, length-append items row))

-- no place is behind the end
pub within : (starts items : List ℕ) → AreStarts starts items → (k : ℕ) → k < length starts → get_or starts k 0 ≤ length items
within starts items h k j =
    let last : length starts - 1 + 1 ≡ length starts = omega arith in
    let far : get_or starts k 0 ≤ get_or starts (length starts - 1) 0 = rising_far starts h.rising k (length starts - 1) (omega arith) (omega arith) in
    let end : get_or starts (length starts - 1) 0 ≡ length items = h.end (length starts - 1) last in
    omega arith

pub cut_push : (starts items row : List ℕ) → AreStarts starts items → cut (starts ++ length (items ++ row) ∷ []) (items ++ row) ≡ cut starts items ++ row ∷ []
cut_push starts items row h =
    let n : ℕ = length (items ++ row) in
    let some = h.some in
    let more : length (starts ++ n ∷ []) ≡ length starts + 1 = length_push starts n in
    let old_long : length (cut starts items) + 1 ≡ length starts = length-cut starts items some in
    let new_long : length (cut (starts ++ n ∷ []) (items ++ row)) + 1 ≡ length (starts ++ n ∷ []) = length-cut (starts ++ n ∷ []) (items ++ row) (omega arith) in
    let pushed : length (cut starts items ++ row ∷ []) ≡ length (cut starts items) + 1 = length_push (cut starts items) row in
    let kept : (k : ℕ) → k < length starts → get_or (starts ++ n ∷ []) k 0 ≡ get_or starts k 0 = get_or_append_left starts (n ∷ []) 0 in
    let last : (k : ℕ) → length starts ≡ k → get_or (starts ++ n ∷ []) k 0 ≡ n = get_or_push starts n 0 in
    ext_get_or [] (cut (starts ++ n ∷ []) (items ++ row)) (cut starts items ++ row ∷ []) (omega arith) (λ k j.
    list_at-cut (starts ++ n ∷ []) (items ++ row) k (omega arith)
    ∙ elim (cases_lt (k + 1) (length starts)) [
      | inl lt ↦
          ap (λ a. slice_range (items ++ row) a (get_or (starts ++ n ∷ []) (k + 1) 0)) (kept k (omega arith))
          ∙ ap (slice_range (items ++ row) (get_or starts k 0)) (kept (k + 1) lt)
          ∙ range_kept items row (get_or starts k 0) (get_or starts (k + 1) 0) (h.rising k lt) (within starts items h (k + 1) lt)
          ∙ sym (list_at-cut starts items k lt)
          ∙ sym (get_or_append_left (cut starts items) (row ∷ []) [] k (omega arith))
      | inr ge ↦
          ap (λ a. slice_range (items ++ row) a (get_or (starts ++ n ∷ []) (k + 1) 0)) (kept k (omega arith) ∙ h.end k (omega arith))
          ∙ ap (slice_range (items ++ row) (length items)) (last (k + 1) (omega arith))
          ∙ range_last items row
          ∙ sym (get_or_push (cut starts items) row [] k (omega arith))
    ])

pub starts_push : (starts items row : List ℕ) → AreStarts starts items → AreStarts (starts ++ length (items ++ row) ∷ []) (items ++ row)
starts_push starts items row h =
    let n : ℕ = length (items ++ row) in
    let more = length_push starts n in
    let longer : length items ≤ n = omega (arith, length-append items row) in
    let some = h.some in
    let last : (k : ℕ) → length starts ≡ k → get_or (starts ++ n ∷ []) k 0 ≡ n = get_or_push starts n 0 in
    let kept : (k : ℕ) → k < length starts → get_or (starts ++ n ∷ []) k 0 ≡ get_or starts k 0 = get_or_append_left starts (n ∷ []) 0 in
    record {
      some = omega arith;
      first = kept 0 some ∙ h.first;
      rising = λ k j. elim (cases_lt (k + 1) (length starts)) [
        | inl i ↦ rw (kept k (omega arith), kept (k + 1) i) (h.rising k i)
        | inr i ↦ rw (kept k (omega arith), last (k + 1) (omega arith)) (let w = within starts items h k (omega arith) in omega arith)
      ];
      end = λ k j. last k (omega arith);
    }

pub starts_none : AreStarts (0 ∷ []) []
starts_none = record { some = omega arith; first = refl; rising = λ k h. absurd (omega arith); end = λ k h. (let e : k ≡ 0 = omega arith in rw e refl) }

pub cut_none : cut (0 ∷ []) [] ≡ []
unfolding ranges
cut_none = refl

-- the first start
pub first_start : (starts : List ℕ) → 0 < length starts → get_or starts 0 0 ≡ 0 → take 1 starts ≡ 0 ∷ []
first_start [] h e = absurd (omega arith)
first_start (a ∷ starts) h e = ap (λ b. b ∷ []) e

-- the lists together are the whole
concat_from : (a : ℕ) (rest items : List ℕ) → ((k : ℕ) → k < length rest → get_or (a ∷ rest) k 0 ≤ get_or rest k 0) → get_or (a ∷ rest) (length rest) 0 ≡ length items → concat (ranges (a ∷ rest) rest items) ≡ drop a items
unfolding ranges
concat_from a [] items up end = sym (drop_all a items (omega arith))
concat_from a (b ∷ rest) items up end =
    let here : a ≤ b = up 0 (omega arith) in
    let there : a + (b - a) ≡ b = omega arith in
    ap (λ xs. slice_range items a b ++ xs) (concat_from b rest items (λ k h. up (suc k) (omega arith)) end ∙ sym (drop-drop (b - a) a items ∙ ap (λ n. drop n items) there))
    ∙ take-append-drop (b - a) (drop a items)

pub concat-cut : (starts items : List ℕ) → AreStarts starts items → concat (cut starts items) ≡ items
concat-cut [] items h = absurd (let k = h.some in omega arith)
concat-cut (a ∷ rest) items h =
    let first : a ≡ 0 = h.first in
    concat_from a rest items (λ k j. let r : get_or (a ∷ rest) k 0 ≤ get_or (a ∷ rest) (k + 1) 0 = h.rising k (omega arith) in rw (add-one k) at r) (h.end (length rest) (omega arith))
    ∙ ap (λ n. drop n items) first
