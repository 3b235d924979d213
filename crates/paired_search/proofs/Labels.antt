-- Labels in a view whose names ascend.
use Rattle.std.proofs.Common.{List, [], ◌∷◌, ℕ, zero, suc, false, All, Option, Some, None, get_or, length, ◌≡◌, ◌≢◌, ◌<◌, ◌==◌, eq-eqb, refl, sym, ◌∙◌, ap, subst, arith, eqb-true}
use Rattle.std.specs.List.Sorted.{IsNonDecreasingBy}
use Rattle.std.proofs.lemmas.Bool.{cond-true, cond-false, ne_eqb, cases_Bool, cases_eq, cases_lt}
use Rattle.std.proofs.lemmas.Option.{same_Some}
use Rattle.std.proofs.Common.{inl, inr}
use Rattle.chase_laws.specs.View.{label_in, both_equal, same_by}
use Rattle.paired_search.specs.Held.{Ascends}
use Rattle.paired_search.specs.Kept.{IsCountBelow}

-- a name that does not stand there has no label
pub label_none : (pairs : List (ℕ × ℕ)) (n : ℕ) → ((k : ℕ) (d : ℕ × ℕ) → k < length pairs → (get_or pairs k d).0 ≢ n) → label_in pairs n ≡ None
label_none [] n h = refl
label_none (p ∷ ps) n h = cond-false (p.0 == n) (Some p.1) (label_in ps n) (ne_eqb p.0 n (h 0 p (omega arith))) ∙ label_none ps n (λ k d l. h (suc k) d (omega arith))

-- the label of the name at a place
pub label_at : (pairs : List (ℕ × ℕ)) → Ascends pairs → (k : ℕ) (d : ℕ × ℕ) → k < length pairs → label_in pairs (get_or pairs k d).0 ≡ Some (get_or pairs k d).1
label_at [] asc k d l = absurd (omega arith)
label_at (p ∷ ps) asc zero d l = cond-true (p.0 == p.0) (Some p.1) (label_in ps p.0) (eq-eqb p.0 p.0 refl)
label_at (p ∷ ps) asc (suc k) d l =
    let q : ℕ × ℕ = get_or ps k d in
    let less : p.0 < q.0 = asc 0 (suc k) d (omega arith) (omega arith) in
    let other : p.0 ≢ q.0 = omega arith in
    cond-false (p.0 == q.0) (Some p.1) (label_in ps q.0) (ne_eqb p.0 q.0 other) ∙ label_at ps (λ i j e h m. asc (suc i) (suc j) e (omega arith) (omega arith)) k d (omega arith)

pub label_here : (pairs : List (ℕ × ℕ)) (k n : ℕ) (d : ℕ × ℕ) → Ascends pairs → k < length pairs → (get_or pairs k d).0 ≡ n → Some (get_or pairs k d).1 ≡ label_in pairs n
label_here pairs k n d asc l e = sym (label_at pairs asc k d l) ∙ ap (label_in pairs) e

-- a name that does not stand behind those below it does not stand there
pub label_missing : (pairs : List (ℕ × ℕ)) (n count : ℕ) → Ascends pairs → IsCountBelow pairs n count → (count < length pairs → (d : ℕ × ℕ) → (get_or pairs count d).0 ≢ n) → None ≡ label_in pairs n
label_missing pairs n count asc is other = sym (label_none pairs n (λ k d l. elim (cases_lt k count) [
  | inl below ↦ (let h = is.below k d below in omega arith)
  | inr past ↦ elim (cases_eq k count) [
    | inl e ↦ subst (λ (i : ℕ). (get_or pairs i d).0 ≢ n) (sym e) (other (omega arith) d)
    | inr ne ↦
        (let first = is.above count d (omega arith) (omega arith) in
        let more : (get_or pairs count d).0 < (get_or pairs k d).0 = asc count k d (omega arith) l in omega arith)
  ]
]))

pub ascends_weakly : (pairs : List (ℕ × ℕ)) → Ascends pairs → IsNonDecreasingBy (λ p. p.0) pairs
ascends_weakly pairs asc i j d le l = elim (cases_eq i j) [
  | inl e ↦ (let h : (get_or pairs i d).0 ≡ (get_or pairs j d).0 = ap (λ (k : ℕ). (get_or pairs k d).0) e in omega arith)
  | inr ne ↦ (let h = asc i j d (omega arith) l in omega arith)
]

-- where each name has itself for its label, no two are the same
own_label : (pairs : List (ℕ × ℕ)) (n l : ℕ) → All (λ p. p.1 ≡ p.0) pairs → label_in pairs n ≡ Some l → l ≡ n
own_label [] n l own h = absurd (cc)
own_label (p ∷ ps) n l own h = elim (cases_Bool (p.0 == n)) [
  | inl t ↦ sym (same_Some p.1 l (sym (cond-true (p.0 == n) (Some p.1) (label_in ps n) t) ∙ h)) ∙ own 0 p (omega arith) ∙ eqb-true p.0 n t
  | inr f ↦ own_label ps n l (λ k d within. own (suc k) d (omega arith)) (sym (cond-false (p.0 == n) (Some p.1) (label_in ps n) f) ∙ h)
]

both_apart : (o p : Option ℕ) (m n : ℕ) → ((k : ℕ) → o ≡ Some k → k ≡ m) → ((k : ℕ) → p ≡ Some k → k ≡ n) → m ≢ n → both_equal o p ≡ false
both_apart (Some k) (Some l) m n left right other = ne_eqb k l (λ e. other (sym (left k refl) ∙ e ∙ right l refl))
both_apart (Some k) None m n left right other = refl
both_apart None p m n left right other = refl

pub own_apart : (pairs : List (ℕ × ℕ)) (m n : ℕ) → All (λ p. p.1 ≡ p.0) pairs → m ≢ n → false ≡ same_by pairs m n
own_apart pairs m n own other =
    rw (ne_eqb m n other, both_apart (label_in pairs m) (label_in pairs n) m n (λ k. own_label pairs m k own) (λ k. own_label pairs n k own) other) refl
