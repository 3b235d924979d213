-- A step of choosing the names whose labels pass a test.
use Rattle.std.proofs.Common.{◌≡◌, ℕ, ◌+◌, ◌-◌, ◌≤◌, zero, suc, Bool, true, false, cond, List, [], ◌∷◌, ◌++◌, map, sym, ap, ◌∙◌, arith, zero-add, add-zero, append-nil}
use Rattle.std.proofs.lemmas.List.{map-append}
use Rattle.std.proofs.lemmas.List.Elements.{filter-append}
use Rattle.std.specs.List.{filter, range_with_len}

pub range_push : (a n : ℕ) → range_with_len a (n + 1) ≡ range_with_len a n ++ (a + n) ∷ []
range_push a zero = ap (λ (v : ℕ). v ∷ []) (sym (add-zero a))
range_push a (suc n) =
    let longer : suc n + 1 ≡ suc (n + 1) = omega arith in
    let shorter : (a + 1) + n ≡ a + suc n = omega arith in
    ap (range_with_len a) longer
    ∙ (ap (λ (l : List ℕ). a ∷ l) (range_push (a + 1) n)
    ∙ ap (λ (v : ℕ). (a ∷ range_with_len (a + 1) n) ++ v ∷ []) shorter)

-- two ranges of which the second goes on where the first ends
pub range_join : (a m n : ℕ) → range_with_len a m ++ range_with_len (a + m) n ≡ range_with_len a (m + n)
range_join a zero n = ap (λ k. range_with_len k n) (add-zero a) ∙ ap (range_with_len a) (sym (zero-add n))
range_join a (suc m) n =
    let start : a + suc m ≡ (a + 1) + m = omega arith in
    let longer : suc m + n ≡ suc (m + n) = omega arith in
    ap (λ k. a ∷ (range_with_len (a + 1) m ++ range_with_len k n)) start
    ∙ (ap (λ (l : List ℕ). a ∷ l) (range_join (a + 1) m n) ∙ ap (range_with_len a) (sym longer))

-- what is chosen from the two together
pub chosen_join : {X : Type 0} (f : ℕ → X) (p : ℕ → Bool) (a middle end : ℕ) → a ≤ middle → middle ≤ end
    → map f (filter p (range_with_len a (middle - a))) ++ map f (filter p (range_with_len middle (end - middle))) ≡ map f (filter p (range_with_len a (end - a)))
chosen_join f p a middle end le le' =
    let start : middle ≡ a + (middle - a) = omega arith in
    let both : (middle - a) + (end - middle) ≡ end - a = omega arith in
    sym (map-append f (filter p (range_with_len a (middle - a))) (filter p (range_with_len middle (end - middle))))
    ∙ (ap (map f) (sym (filter-append p (range_with_len a (middle - a)) (range_with_len middle (end - middle))))
    ∙ ap (λ l. map f (filter p l)) (ap (λ k. range_with_len a (middle - a) ++ range_with_len k (end - middle)) start ∙ (range_join a (middle - a) (end - middle) ∙ ap (range_with_len a) both)))

chosen_push : {X : Type 0} (f : ℕ → X) (p : ℕ → Bool) (a place : ℕ) → a ≤ place
    → map f (filter p (range_with_len a (place + 1 - a))) ≡ map f (filter p (range_with_len a (place - a))) ++ map f (cond (p place) (place ∷ []) [])
chosen_push f p a place le =
    let longer : place + 1 - a ≡ (place - a) + 1 = omega arith in
    let last : a + (place - a) ≡ place = omega arith in
    ap (λ l. map f (filter p l)) (ap (range_with_len a) longer ∙ (range_push a (place - a) ∙ ap (λ (v : ℕ). range_with_len a (place - a) ++ v ∷ []) last))
    ∙ (ap (map f) (filter-append p (range_with_len a (place - a)) (place ∷ []))
    ∙ map-append f (filter p (range_with_len a (place - a))) (cond (p place) (place ∷ []) []))

pub chosen_yes : {X : Type 0} (f : ℕ → X) (p : ℕ → Bool) (a place : ℕ) (x : X) (old new : List X) → a ≤ place → p place ≡ true → x ≡ f place → new ≡ old ++ x ∷ []
    → old ≡ map f (filter p (range_with_len a (place - a))) → new ≡ map f (filter p (range_with_len a (place + 1 - a)))
chosen_yes f p a place x old new le passes is grown all =
    grown ∙ (ap (λ l. l ++ x ∷ []) all ∙ (ap (λ v. map f (filter p (range_with_len a (place - a))) ++ v ∷ []) is
    ∙ (ap (λ b. map f (filter p (range_with_len a (place - a))) ++ map f (cond b (place ∷ []) [])) (sym passes) ∙ sym (chosen_push f p a place le))))

pub chosen_no : {X : Type 0} (f : ℕ → X) (p : ℕ → Bool) (a place : ℕ) (old : List X) → a ≤ place → p place ≡ false
    → old ≡ map f (filter p (range_with_len a (place - a))) → old ≡ map f (filter p (range_with_len a (place + 1 - a)))
chosen_no f p a place old le fails all =
    all ∙ (sym (append-nil (map f (filter p (range_with_len a (place - a)))))
    ∙ (ap (λ b. map f (filter p (range_with_len a (place - a))) ++ map f (cond b (place ∷ []) [])) (sym fails) ∙ sym (chosen_push f p a place le)))
