-- How the cut of a text goes on.
use Rattle.std.proofs.Common.{◌≡◌, ℕ, ◌<◌, Bool, true, false, not, ◌&&◌, ◌||◌, cond, eqb, List, [], ◌∷◌, ◌++◌, length, refl, sym, ap, ◌∙◌, arith, append_assoc, append-nil, fold}
use Rattle.std.proofs.lemmas.Bool.{or_parts, not-true}
use Rattle.std.proofs.lemmas.List.Elements.{All-head, All-tail}
use Rattle.std.proofs.lemmas.List.Sums.{fold-append}
use Rattle.std.specs.List.{AllPass}
use Rattle.nt_reader.specs.Lines.{is_line_byte}
use Rattle.nt_reader.specs.Lines.{Cut, next, uncut, cut_of}

pub cut_append : (xs ys : List ℕ) → cut_of (xs ++ ys) ≡ fold next (cut_of xs) ys
unfolding cut_of
cut_append xs ys = fold-append next uncut xs ys

third : {A : Type 0} (x y r : Bool) (p q s : A) → x ≡ false → y ≡ false → cond (x && r) p (cond (x || y) q s) ≡ s
third true y r p q s a b = absurd (cc)
third false true r p q s a b = absurd (cc)
third false false r p q s a b = refl

second : {A : Type 0} (x y r : Bool) (p q s : A) → (x || y) ≡ true → (x && r) ≡ false → cond (x && r) p (cond (x || y) q s) ≡ q
second true y true p q s a b = absurd (cc)
second true y false p q s a b = refl
second false true r p q s a b = refl
second false false r p q s a b = absurd (cc)

-- a byte of a line
pub next_plain : (c : Cut) (b : ℕ) → is_line_byte b ≡ true → next c b ≡ record { ended = c.ended; rest = c.rest ++ b ∷ []; returned = false }
next_plain c b p =
    let parts = or_parts (eqb b 0x0A) (eqb b 0x0D) (not-true _ p) in
    third (eqb b 0x0A) (eqb b 0x0D) c.returned _ _ _ parts.0 parts.1

plain_run : (ended : List (List ℕ)) (rest seg : List ℕ) → AllPass is_line_byte seg
    → fold next (record { ended = ended; rest = rest; returned = false }) seg ≡ record { ended = ended; rest = rest ++ seg; returned = false }
plain_run ended rest [] p = ap (λ (r : List ℕ). let c : Cut = record { ended = ended; rest = r; returned = false } in c) (sym (append-nil rest))
plain_run ended rest (b ∷ seg) p =
    let step = next_plain (record { ended = ended; rest = rest; returned = false }) b (All-head (λ v. is_line_byte v ≡ true) b seg p) in
    ap (λ c. fold next c seg) step ∙ plain_run ended (rest ++ b ∷ []) seg (All-tail (λ v. is_line_byte v ≡ true) b seg p)
    ∙ ap (λ (r : List ℕ). let c : Cut = record { ended = ended; rest = r; returned = false } in c) (append_assoc rest (b ∷ []) seg)

-- bytes of a line, of which there is one
pub some_plain : (c : Cut) (seg : List ℕ) → AllPass is_line_byte seg → 0 < length seg
    → fold next c seg ≡ record { ended = c.ended; rest = c.rest ++ seg; returned = false }
some_plain c [] p some = absurd (omega arith)
some_plain c (b ∷ seg) p some =
    ap (λ d. fold next d seg) (next_plain c b (All-head (λ v. is_line_byte v ≡ true) b seg p))
    ∙ plain_run c.ended (c.rest ++ b ∷ []) seg (All-tail (λ v. is_line_byte v ≡ true) b seg p)
    ∙ ap (λ (r : List ℕ). let d : Cut = record { ended = c.ended; rest = r; returned = false } in d) (append_assoc c.rest (b ∷ []) seg)

-- a line ends
pub next_end : (c : Cut) (b : ℕ) → is_line_byte b ≡ false → (eqb b 0x0A && c.returned) ≡ false
    → next c b ≡ record { ended = c.ended ++ c.rest ∷ []; rest = []; returned = eqb b 0x0D }
next_end c b p n = second (eqb b 0x0A) (eqb b 0x0D) c.returned _ _ _ (flipped (eqb b 0x0A || eqb b 0x0D) p) n
  where
    flipped : (x : Bool) → not x ≡ false → x ≡ true
    flipped true e = refl
    flipped false e = absurd (cc)

and_false : (x : Bool) → (x && false) ≡ false
and_false true = refl
and_false false = refl

-- bytes of a line, and its end
pub whole_line : (c : Cut) (seg : List ℕ) (b : ℕ) → AllPass is_line_byte seg → is_line_byte b ≡ false
    → (length seg ≡ 0 → (eqb b 0x0A && c.returned) ≡ false)
    → fold next c (seg ++ b ∷ []) ≡ record { ended = c.ended ++ (c.rest ++ seg) ∷ []; rest = []; returned = eqb b 0x0D }
whole_line c [] b p e n =
    next_end c b e (n refl) ∙ ap (λ (r : List ℕ). let d : Cut = record { ended = c.ended ++ r ∷ []; rest = []; returned = eqb b 0x0D } in d) (sym (append-nil c.rest))
whole_line c (x ∷ seg) b p e n =
    fold-append next c (x ∷ seg) (b ∷ []) ∙ ap (λ d. next d b) (some_plain c (x ∷ seg) p (omega arith)) ∙ next_end _ b e (and_false (eqb b 0x0A))

-- a line feed of a CR LF
pub swallowed : (c : Cut) → c.returned ≡ true → next c 0x0A ≡ record { ended = c.ended; rest = c.rest; returned = false }
swallowed c r = ap (λ x. let d : Cut = cond x (record { ended = c.ended; rest = c.rest; returned = false }) (record { ended = c.ended ++ c.rest ∷ []; rest = []; returned = false }) in d) r

-- lines that have ended stay
first_grows : (x y : Bool) (c : Cut) (rest1 rest2 : List ℕ) (r1 : Bool) → (more : List (List ℕ)) × ((cond x (let d : Cut = record { ended = c.ended; rest = c.rest; returned = false } in d)
    (cond y (record { ended = c.ended ++ c.rest ∷ []; rest = rest1; returned = r1 }) (record { ended = c.ended; rest = rest2; returned = false }))).ended ≡ c.ended ++ more)
first_grows true y c a b r = ([], sym (append-nil c.ended))
first_grows false true c a b r = (c.rest ∷ [], refl)
first_grows false false c a b r = ([], sym (append-nil c.ended))

pub ended_grows : (c : Cut) (ys : List ℕ) → (more : List (List ℕ)) × ((fold next c ys).ended ≡ c.ended ++ more)
ended_grows c [] = ([], sym (append-nil c.ended))
ended_grows c (y ∷ ys) =
    let one = first_grows (eqb y 0x0A && c.returned) (eqb y 0x0A || eqb y 0x0D) c [] (c.rest ++ y ∷ []) (eqb y 0x0D) in
    let rest = ended_grows (next c y) ys in
    (one.0 ++ rest.0, rest.1 ∙ ap (λ (l : List (List ℕ)). l ++ rest.0) one.1 ∙ append_assoc c.ended one.0 rest.0)
