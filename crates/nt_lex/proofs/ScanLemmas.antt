-- Longest runs of bytes.
use Rattle.std.proofs.Common.{◌≡◌, ℕ, ◌+◌, ◌-◌, ◌<◌, ◌≤◌, Bool, true, false, List, [], ◌∷◌, ◌++◌, length, get_or, take, drop, slice_range, refl, sym, ap, ap₂, ◌∙◌, subst, inl, inr, arith}
use Rattle.std.proofs.lemmas.Bool.{and_parts, cases_lt, eq-eqb}
use Rattle.std.proofs.lemmas.List.{drop_more, drop_all, get_or-take, get_or-drop, length-take-le, length-drop, drop-drop, take-append-drop}
use Rattle.std.proofs.lemmas.List.Elements.{All-from_get_or}
use Rattle.std.proofs.lemmas.List.Sums.{list_all-from_AllPass}
use Rattle.std.specs.List.{list_all}
use lib.Dec.{eqb}
use Rattle.nt_lex.specs.Scans.{IsRunAt, NextFails}
use Rattle.nt_lex.proofs.WrittenLemmas.{true_false}

-- two lists whose first bytes differ
pub heads_differ : (a b : ℕ) (m n : List ℕ) → eqb a b ≡ false → a ∷ m ≡ b ∷ n → ⊥
heads_differ a b m n other e = true_false (sym (eq-eqb a b (ap (λ l. get_or l 0 0) e)) ∙ other)

-- what passes the test does not come next
pub next_fails : (p : ℕ → Bool) (b : ℕ) (more rest : List ℕ) → NextFails p rest → rest ≡ b ∷ more → p b ≡ true → ⊥
next_fails p b more rest n e passes = true_false (sym passes ∙ subst (NextFails p) e n)

-- there is one longest run
pub span_once : (p : ℕ → Bool) (a b r t : List ℕ) → list_all p a ≡ true → list_all p b ≡ true → NextFails p r → NextFails p t → a ++ r ≡ b ++ t
    → (a ≡ b) × (r ≡ t)
span_once p [] [] r t x y nr nt e = (refl, e)
span_once p [] (d ∷ b) r t x y nr nt e = absurd (next_fails p d (b ++ t) r nr e (and_parts _ _ y).0)
span_once p (c ∷ a) [] r t x y nr nt e = absurd (next_fails p c (a ++ r) t nt (sym e) (and_parts _ _ x).0)
span_once p (c ∷ a) (d ∷ b) r t x y nr nt e =
    let head : c ≡ d = ap (λ l. get_or l 0 0) e in
    let tail : a ++ r ≡ b ++ t = ap (drop 1) e in
    let q = span_once p a b r t (and_parts _ _ x).1 (and_parts _ _ y).1 nr nt tail in
    (ap₂ (λ u (us : List ℕ). u ∷ us) head q.0, q.1)

-- what comes next at a place
pub next_at : (p : ℕ → Bool) (line : List ℕ) (end : ℕ) → (end < length line → p (get_or line end 0) ≡ false) → NextFails p (drop end line)
next_at p line end h = elim (cases_lt end (length line)) [
  | inl inside ↦ subst (NextFails p) (sym (drop_more line end 0 inside)) (h inside)
  | inr past ↦ subst (NextFails p) (sym (drop_all end line past)) tt
]

-- a line is what stands between two places and what follows
pub seam : (line : List ℕ) (from end : ℕ) → from ≤ end → drop from line ≡ slice_range line from end ++ drop end line
seam line from end ordered =
    let back : from + (end - from) ≡ end = omega arith in
    sym (take-append-drop (end - from) (drop from line)) ∙ ap (λ (l : List ℕ). take (end - from) (drop from line) ++ l) (drop-drop (end - from) from line ∙ ap (λ n. drop n line) back)

-- the bytes of a run all pass the test
pub run_passes : (p : ℕ → Bool) (line : List ℕ) (from end : ℕ) → IsRunAt p line from end → list_all p (slice_range line from end) ≡ true
run_passes p line from end run = list_all-from_AllPass p _ (All-from_get_or (λ v. p v ≡ true) _ 0 λ i below.
    let inside : i < end - from = omega (arith, length-take-le (end - from) (drop from line) (omega (arith, run.in_range, run.ordered, length-drop from line))) in
    rw (get_or-take, get_or-drop) (run.pass (from + i) (omega arith) (omega arith)))

-- and it stops
pub run_stops : (p : ℕ → Bool) (line : List ℕ) (from end : ℕ) → IsRunAt p line from end → NextFails p (drop end line)
run_stops p line from end run = next_at p line end run.stops
