-- How many entries there are, and that looks come to an end.
use Rattle.std.proofs.Common.{List, [], ◌∷◌, ℕ, zero, suc, All, length, ◌≡◌, ◌<◌, ◌≤◌, ◌+◌, ◌*◌, ◌-◌, ◌⊎◌, inl, inr, refl, sym, ◌∙◌, ap, subst, arith}
use Rattle.std.proofs.lemmas.Bool.{cases_lt}
use Rattle.std.proofs.lemmas.List.Elements.{All-head}
use Rattle.std.proofs.Math.Nat.{mul-le-mul_right}
use Rattle.chase_laws.specs.declared.entry.Entry.{Entry}
use Rattle.chase_laws.specs.Chase.{IsLean}
use Rattle.chase_laws.proofs.CallerLemmas.{lean_bound}
use Rattle.class_book.specs.Classes.{EndsAreNodes}

-- a lean journal has no more entries than there are names
pub journal_le : (labels : List ℕ) (H : List Entry) → IsLean H → EndsAreNodes labels H → length H ≤ length labels
journal_le labels H lean ends = elim (cases_lt 0 (length labels)) [
  | inl some ↦ (let b = lean_bound H lean (length labels) some ends in omega arith)
  | inr none ↦ empty H none ends
]
  where
    empty : (rest : List Entry) → length labels ≤ 0 → EndsAreNodes labels rest → length rest ≤ length labels
    empty [] none e = omega arith
    empty (x ∷ rest) none e = let h = All-head (λ (y : Entry). (y.a < length labels) × (y.b < length labels)) x rest e in let k = h.0 in absurd (omega arith)

-- fewer names are apart, or as few, and fewer groups wait
less : (a b G q q' : ℕ) → a ≤ b → (q' < q) ⊎ ((a < b) × (q' ≤ G)) → a * (G + 1) + q' < b * (G + 1) + q
less a b G q q' le (inl lt) = omega (arith, mul-le-mul_right (G + 1) le)
less a b G q q' le (inr h) =
    let one : a + 1 ≤ b = let k = h.0 in omega arith in
    let few = h.1 in
    omega (arith, mul-le-mul_right (G + 1) one)

pub look_ends : (n J J' G q q' : ℕ) → J ≤ J' → J' ≤ n → (q' < q) ⊎ ((J < J') × (q' ≤ G)) → (n - J') * (G + 1) + q' < (n - J) * (G + 1) + q
look_ends n J J' G q q' le within (inl lt) = less (n - J') (n - J) G q q' (omega arith) (inl lt)
look_ends n J J' G q q' le within (inr h) = let k = h.0 in less (n - J') (n - J) G q q' (omega arith) (inr (omega arith, h.1))
