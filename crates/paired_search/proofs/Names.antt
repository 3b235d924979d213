-- Names from a place of a list on.
use Rattle.std.proofs.Common.{List, ℕ, Contains, get_or, take, drop, length, ◌≡◌, ◌≢◌, ◌<◌, ◌+◌, ◌-◌, inl, inr, sym, ◌∙◌, ap, subst, arith}
use Rattle.std.proofs.lemmas.Bool.{cases_lt}
use Rattle.std.proofs.lemmas.List.{get_or-drop, get_or_default, length-drop, take_all}

pub contains_from : (xs : List ℕ) (i n : ℕ) → Contains xs n → ((k : ℕ) → k < i → get_or xs k 0 ≢ n) → Contains (take (length xs - i) (drop i xs)) n
contains_from xs i n c other = subst (λ (ys : List ℕ). Contains ys n) (sym (take_all (length xs - i) (drop i xs) (omega (arith, length-drop i xs)))) (let within = c.1 in elim (cases_lt c.0 i) [
  | inl below ↦ absurd (other c.0 below (get_or_default xs c.0 0 n within ∙ c.2))
  | inr past ↦ (let back : i + (c.0 - i) ≡ c.0 = omega arith in (c.0 - i, omega (arith, length-drop i xs), get_or-drop i xs (c.0 - i) n ∙ ap (λ k. get_or xs k n) back ∙ c.2))
])
