-- Which label stays, and what that costs.
use Rattle.std.proofs.Common.{List, ℕ, Bool, true, false, cond, if◌then◌else◌, refl, All, length, get_or, ◌≡◌, ◌≢◌, ◌<◌, ◌≤◌, ◌*◌, ◌==◌, ◌||◌, ◌&&◌, ◌⊎◌, inl, inr, ap, sym, ◌∙◌, arith, nat_lt}
use Rattle.std.proofs.lemmas.Bool.{cases_Bool}
use Rattle.std.proofs.lemmas.Bool.Decides.{nat_tests}
use Rattle.std.proofs.lemmas.List.Elements.{All-get_or}
use Rattle.class_book.specs.Classes.{relabelled, size_of, first_stays, staying, going, changed_count}
use Rattle.class_book.specs.Roster.{IsRoster}
use Rattle.class_book.proofs.Merging.{changed_count_is, size_to}

-- the choice by the sizes that are kept is the choice by the labels
pub choice_is : (labels sizes : List ℕ) (members : List (List ℕ)) (x y : ℕ) → IsRoster labels sizes members → x < length labels → y < length labels →
    (nat_lt (get_or sizes y 0) (get_or sizes x 0) || (get_or sizes x 0 == get_or sizes y 0 && nat_lt x y)) ≡ first_stays labels x y
choice_is labels sizes members x y r x_in y_in =
    ap (λ s. nat_lt (get_or sizes y 0) s || (s == get_or sizes y 0 && nat_lt x y)) (r.counts x x_in) ∙
    ap (λ t. nat_lt t (size_of labels x) || (size_of labels x == t && nat_lt x y)) (r.counts y y_in)

pub if_first : (labels : List ℕ) (x y : ℕ) → first_stays labels x y ≡ true → (staying labels x y ≡ x) × (going labels x y ≡ y)
if_first labels x y e = (ap (λ t. cond t x y) e, ap (λ t. cond t y x) e)

pub if_second : (labels : List ℕ) (x y : ℕ) → first_stays labels x y ≡ false → (staying labels x y ≡ y) × (going labels x y ≡ x)
if_second labels x y e = (ap (λ t. cond t x y) e, ap (λ t. cond t y x) e)

pub either : (labels : List ℕ) (x y : ℕ) → ((staying labels x y ≡ x) × (going labels x y ≡ y)) ⊎ ((staying labels x y ≡ y) × (going labels x y ≡ x))
either labels x y = elim (cases_Bool (first_stays labels x y)) [ inl e ↦ inl (if_first labels x y e) | inr e ↦ inr (if_second labels x y e) ]

pub parted : (labels : List ℕ) (x y : ℕ) → x ≢ y → staying labels x y ≢ going labels x y
parted labels x y n e = elim (either labels x y) [ inl h ↦ n (sym h.0 ∙ e ∙ h.1) | inr h ↦ n (sym h.1 ∙ sym e ∙ h.0) ]

-- the class that goes is no larger
pub smaller : (labels : List ℕ) (x y : ℕ) → size_of labels (going labels x y) ≤ size_of labels (staying labels x y)
smaller labels x y = elim (cases_Bool (first_stays labels x y)) [
  | inl e ↦ rw ((if_first labels x y e).0, (if_first labels x y e).1) (not_less (size_of labels x) (size_of labels y) (nat_lt x y) e)
  | inr e ↦ rw ((if_second labels x y e).0, (if_second labels x y e).1) (not_more (size_of labels x) (size_of labels y) (nat_lt x y) e)
]
  where
    not_less : (s t : ℕ) (b : Bool) → (nat_lt t s || (s == t && b)) ≡ true → t ≤ s
    not_less s t b e = grind (arith, nat_tests)

    not_more : (s t : ℕ) (b : Bool) → (nat_lt t s || (s == t && b)) ≡ false → s ≤ t
    not_more s t b e = grind (arith, nat_tests)

-- at most half of the new class gets another label
pub at_most_half : (labels : List ℕ) (x y : ℕ) → x ≢ y →
    2 * changed_count labels (relabelled labels (going labels x y) (staying labels x y)) ≤ size_of (relabelled labels (going labels x y) (staying labels x y)) (staying labels x y)
at_most_half labels x y n =
    let apart = parted labels x y n in
    omega (arith, changed_count_is (going labels x y) (staying labels x y) apart labels, size_to (going labels x y) (staying labels x y) apart labels, smaller labels x y)

-- the choice as the code reads its parts
pub chosen : (labels sizes lent : List ℕ) (members : List (List ℕ)) (x y f g : ℕ) (b : Bool) → IsRoster labels sizes members → x < length labels → y < length labels →
    b ≡ (nat_lt (get_or lent g 0) (get_or lent f 0) || (get_or lent f 0 == get_or lent g 0 && nat_lt f g)) → lent ≡ sizes → f ≡ x → g ≡ y → b ≡ first_stays labels x y
chosen labels sizes lent members x y f g b r x_in y_in e l p q =
    e ∙ ap (λ s. nat_lt (get_or s g 0) (get_or s f 0) || (get_or s f 0 == get_or s g 0 && nat_lt f g)) l ∙
    ap (λ v. nat_lt (get_or sizes g 0) (get_or sizes v 0) || (get_or sizes v 0 == get_or sizes g 0 && nat_lt v g)) p ∙
    ap (λ w. nat_lt (get_or sizes w 0) (get_or sizes x 0) || (get_or sizes x 0 == get_or sizes w 0 && nat_lt x w)) q ∙
    choice_is labels sizes members x y r x_in y_in

-- what a choice gives
pub choice_gives : (labels : List ℕ) (x y f g : ℕ) (b : Bool) (r : ℕ × ℕ) → b ≡ first_stays labels x y → f ≡ x → g ≡ y → r ≡ (if b then (f, g) else (g, f)) →
    (r.0 ≡ staying labels x y) × (r.1 ≡ going labels x y)
choice_gives labels x y f g true r h p q e =
    let k = if_first labels x y (sym h) in
    (ap (λ (s : ℕ × ℕ). s.0) e ∙ p ∙ sym k.0, ap (λ (s : ℕ × ℕ). s.1) e ∙ q ∙ sym k.1)
choice_gives labels x y f g false r h p q e =
    let k = if_second labels x y (sym h) in
    (ap (λ (s : ℕ × ℕ). s.0) e ∙ q ∙ sym k.0, ap (λ (s : ℕ × ℕ). s.1) e ∙ p ∙ sym k.1)

-- the labels that the code chooses, f and g being those that it reads for the nodes a and b
pub picked : (labels sizes lent : List ℕ) (members : List (List ℕ)) (a b f g : ℕ) (r : ℕ × ℕ) → IsRoster labels sizes members → All (λ l. l < length labels) labels →
    a < length labels → b < length labels → lent ≡ sizes → f ≡ get_or labels a 0 → g ≡ get_or labels b 0 →
    r ≡ (if nat_lt (get_or lent g 0) (get_or lent f 0) || (get_or lent f 0 == get_or lent g 0 && nat_lt f g) then (f, g) else (g, f)) →
    (r.0 ≡ staying labels (get_or labels a 0) (get_or labels b 0)) × (r.1 ≡ going labels (get_or labels a 0) (get_or labels b 0))
picked labels sizes lent members a b f g r roster in_range a_in b_in l p q e =
    let x = get_or labels a 0 in
    let y = get_or labels b 0 in
    let x_in = All-get_or (λ l. l < length labels) labels a 0 a_in in_range in
    let y_in = All-get_or (λ l. l < length labels) labels b 0 b_in in_range in
    let choice = chosen labels sizes lent members x y f g _ roster x_in y_in refl l p q in
    choice_gives labels x y f g _ r choice p q e

pub staying_in_range : (labels : List ℕ) (x y : ℕ) → x < length labels → y < length labels → staying labels x y < length labels
staying_in_range labels x y x_in y_in = elim (either labels x y) [ inl h ↦ rw h.0 x_in | inr h ↦ rw h.0 y_in ]

pub going_in_range : (labels : List ℕ) (x y : ℕ) → x < length labels → y < length labels → going labels x y < length labels
going_in_range labels x y x_in y_in = elim (either labels x y) [ inl h ↦ rw h.1 y_in | inr h ↦ rw h.1 x_in ]
