-- Decimal digits, looked at from the last on, and the number that they stand for.
use Rattle.std.proofs.Common.{List, [], ◌∷◌, ◌++◌, ℕ, suc, ◌+◌, ◌-◌, ◌*◌, ◌/◌, ◌%◌, ◌^◌, ◌<◌, ◌≤◌, Bool, true, false, ◌&&◌, ◌==◌, nat_le, nat_lt, Some, None, bytes_eq, fold, length, get_or, take, drop, if◌then◌else◌, ◌≡◌, refl, sym, ap, ap₂, subst, ◌∙◌, arith, true≢false, eqb-true, eq-eqb}
use Rattle.std.specs.Fmt.{decimal}
use Rattle.std.proofs.lemmas.Fmt.{decimal_digit, decimal_step, decimal_nonempty}
use Rattle.std.proofs.lemmas.Bool.{and_parts, and_from, and_left, and_right, cond-true, cond-false, false_from_ne_true, le-leb, lt-ltb, le-ltb, ne_eqb}
use Rattle.std.proofs.lemmas.List.{take_more, take_all, take-append-drop, same_from_push}
use Rattle.std.proofs.lemmas.List.Sums.{fold-append}
use Rattle.std.proofs.lemmas.Slice.Eq.{bytes_eq-Decides}
use Rattle.proof_file.specs.Words.{value_of, decimal_number}

both_ways : (p q : Bool) → (p ≡ true → q ≡ true) → (q ≡ true → p ≡ true) → p ≡ q
both_ways true q f g = sym (f refl)
both_ways false q f g = sym (false_from_ne_true q (λ h. true≢false (sym (g h))))

bytes_eq-push : (xs ys : List ℕ) (a b : ℕ) → bytes_eq (xs ++ a ∷ []) (ys ++ b ∷ []) ≡ (bytes_eq xs ys && a == b)
bytes_eq-push xs ys a b =
    both_ways (bytes_eq (xs ++ a ∷ []) (ys ++ b ∷ [])) (bytes_eq xs ys && a == b)
    (λ h. let s = same_from_push xs ys a b ((bytes_eq-Decides (xs ++ a ∷ []) (ys ++ b ∷ [])).0 h) in and_from (bytes_eq xs ys) (a == b) ((bytes_eq-Decides xs ys).1 s.0) (eq-eqb a b s.1))
    (λ h. let p = and_parts (bytes_eq xs ys) (a == b) h in (bytes_eq-Decides (xs ++ a ∷ []) (ys ++ b ∷ [])).1 (ap₂ (λ l c. l ++ c ∷ []) ((bytes_eq-Decides xs ys).0 p.0) (eqb-true a b p.1)))

-- one digit less
pub digit_taken : (n : ℕ) (word front : List ℕ) (last : ℕ) → 10 ≤ n → n < 2 ^ 32 → word ≡ front ++ last ∷ [] → last ≡ 48 + n % 10 → bytes_eq (decimal n) word ≡ bytes_eq (decimal (n / 10)) front
digit_taken n word front last big small split same =
    ap₂ bytes_eq (decimal_step n big (omega arith)) split ∙ bytes_eq-push (decimal (n / 10)) front (48 + n % 10) last
    ∙ ap (λ b. bytes_eq (decimal (n / 10)) front && b) (eq-eqb (48 + n % 10) last (sym same)) ∙ and_true (bytes_eq (decimal (n / 10)) front)
  where
    and_true : (b : Bool) → (b && true) ≡ b
    and_true true = refl
    and_true false = refl

-- another last digit
pub digit_differs : (n : ℕ) (word front : List ℕ) (last : ℕ) → 10 ≤ n → n < 2 ^ 32 → word ≡ front ++ last ∷ [] → (last ≡ 48 + n % 10 → ⊥) → bytes_eq (decimal n) word ≡ false
digit_differs n word front last big small split other =
    ap₂ bytes_eq (decimal_step n big (omega arith)) split ∙ bytes_eq-push (decimal (n / 10)) front (48 + n % 10) last
    ∙ and_right (bytes_eq (decimal (n / 10)) front) (48 + n % 10 == last) (ne_eqb (48 + n % 10) last (λ e. other (sym e)))

-- no digit
pub digits_missing : (n : ℕ) (word : List ℕ) → n < 2 ^ 32 → length word ≡ 0 → bytes_eq (decimal n) word ≡ false
digits_missing n word small none =
    false_from_ne_true (bytes_eq (decimal n) word) (λ h.
    let same = (bytes_eq-Decides (decimal n) word).0 h in
    let some = decimal_nonempty n (omega arith) in
    let count = ap length same in
    absurd (omega arith))

-- the last one
pub last_digit : (n : ℕ) (word : List ℕ) → n < 10 → bytes_eq (decimal n) word ≡ (length word == 1 && get_or word 0 0 == 48 + n)
last_digit n word small = ap (λ l. bytes_eq l word) (decimal_digit n small) ∙ one word
  where
    one : (word : List ℕ) → bytes_eq ((48 + n) ∷ []) word ≡ (length word == 1 && get_or word 0 0 == 48 + n)
    one [] = refl
    one (b ∷ []) = both_ways (bytes_eq ((48 + n) ∷ []) (b ∷ [])) (b == 48 + n)
        (λ h. let e = (bytes_eq-Decides ((48 + n) ∷ []) (b ∷ [])).0 h in eq-eqb b (48 + n) (ap (λ l. get_or l 0 0) (sym e)))
        (λ h. (bytes_eq-Decides ((48 + n) ∷ []) (b ∷ [])).1 (ap (λ d. d ∷ []) (sym (eqb-true b (48 + n) h))))
    one (b ∷ d ∷ more) =
        false_from_ne_true (bytes_eq ((48 + n) ∷ []) (b ∷ d ∷ more)) (λ h. let e = ap length ((bytes_eq-Decides ((48 + n) ∷ []) (b ∷ d ∷ more)).0 h) in absurd (omega arith))
        ∙ sym (and_left (length (b ∷ d ∷ more) == 1) (b == 48 + n) (ne_eqb (suc (suc (length more))) 1 (λ e. absurd (omega arith))))

-- ---- the number

abbrev next_value : ℕ → ℕ → ℕ
next_value n b = 10 * n + (b - 0x30)

pub value_more : (word : List ℕ) (i : ℕ) → i < length word → value_of (take (i + 1) word) ≡ 10 * value_of (take i word) + (get_or word i 0 - 0x30)
value_more word i l = ap value_of (take_more word i 0 l) ∙ fold-append next_value 0 (take i word) (get_or word i 0 ∷ [])

value_grows : (n : ℕ) (bs : List ℕ) → n ≤ fold next_value n bs
value_grows n [] = omega arith
value_grows n (b ∷ bs) = let r = value_grows (next_value n b) bs in omega arith

-- the number of a word is no less than that of its first digits
pub value_front : (word : List ℕ) (i : ℕ) → value_of (take i word) ≤ value_of word
value_front word i =
    subst (λ n. value_of (take i word) ≤ n) (sym (fold-append next_value 0 (take i word) (drop i word)) ∙ ap value_of (take-append-drop i word)) (value_grows (value_of (take i word)) (drop i word))

-- too large
pub number_too_large : (low : ℕ) (word : List ℕ) → 2 ^ 32 ≤ value_of word → decimal_number low word ≡ None
number_too_large low word big =
    cond-false (nat_le low (value_of word) && nat_lt (value_of word) (2 ^ 32) && bytes_eq (decimal (value_of word)) word) (Some (value_of word)) None
    (and_left (nat_le low (value_of word) && nat_lt (value_of word) (2 ^ 32)) (bytes_eq (decimal (value_of word)) word) (and_right (nat_le low (value_of word)) (nat_lt (value_of word) (2 ^ 32)) (le-ltb (value_of word) (2 ^ 32) big)))

-- and so is a number whose first digits are
pub mul_too_large : (low : ℕ) (word : List ℕ) (i v : ℕ) → i < length word → v ≡ value_of (take i word) → (v * 10 < 2 ^ 32 → ⊥) → decimal_number low word ≡ None
mul_too_large low word i v l is big =
    number_too_large low word (by v (value_of (take i word)) (value_of (take (i + 1) word)) (value_of word) (get_or word i 0 - 0x30) is big (value_more word i l) (value_front word (i + 1)))
  where
    by : (v a b c d : ℕ) → v ≡ a → (v * 10 < 2 ^ 32 → ⊥) → b ≡ 10 * a + d → b ≤ c → 2 ^ 32 ≤ c
    by v a b c d is big more front = omega (arith, is, big, more, front)

pub add_too_large : (low : ℕ) (word : List ℕ) (i v : ℕ) → i < length word → v ≡ value_of (take i word) → (v * 10 + (get_or word i 0 - 0x30) < 2 ^ 32 → ⊥) → decimal_number low word ≡ None
add_too_large low word i v l is big =
    number_too_large low word (by v (value_of (take i word)) (value_of (take (i + 1) word)) (value_of word) (get_or word i 0 - 0x30) is big (value_more word i l) (value_front word (i + 1)))
  where
    by : (v a b c d : ℕ) → v ≡ a → (v * 10 + d < 2 ^ 32 → ⊥) → b ≡ 10 * a + d → b ≤ c → 2 ^ 32 ≤ c
    by v a b c d is big more front = omega (arith, is, big, more, front)

-- the number of a word whose digits are all seen
pub number_is : (low : ℕ) (word : List ℕ) (i v : ℕ) → length word ≤ i → v ≡ value_of (take i word) → low ≤ v → v < 2 ^ 32 → true ≡ bytes_eq (decimal v) word → Some v ≡ decimal_number low word
number_is low word i v all is le small same =
    sym (ap (λ n. if nat_le low n && nat_lt n (2 ^ 32) && bytes_eq (decimal n) word then Some n else None) (ap value_of (sym (take_all i word all)) ∙ sym is)
    ∙ cond-true (nat_le low v && nat_lt v (2 ^ 32) && bytes_eq (decimal v) word) (Some v) None (and_from _ _ (and_from _ _ (le-leb low v le) (lt-ltb v (2 ^ 32) small)) (sym same)))
