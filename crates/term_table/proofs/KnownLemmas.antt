-- What is known of terms, for more of them, and after one was looked at again.
use Rattle.std.proofs.Common.{◌≡◌, ℕ, zero, suc, ◌+◌, ◌<◌, List, [], ◌∷◌, ◌++◌, length, get_or, set, slice_get, Some, refl, ap, subst, ◌∙◌, arith}
use Rattle.std.proofs.lemmas.Option.{same_Some, slice_get-get_or}
use Rattle.gk_base.specs.declared.term.Term.{Term}
use Rattle.term_table.specs.declared.known.Known.{Known}
use Rattle.term_table.specs.Known.{IsKnown, AreKnown}

-- what holds at each place of two lists holds at each place of the two joined
each_append : {X : Type 0} (P : ℕ → X → Type 0) (xs ys : List X) → ((k : ℕ) (x : X) → slice_get xs k ≡ Some x → P k x)
    → ((k : ℕ) (x : X) → slice_get ys k ≡ Some x → P (length xs + k) x) → (k : ℕ) (x : X) → slice_get (xs ++ ys) k ≡ Some x → P k x
each_append P [] ys first second k x at = subst (λ n. P n x) (omega arith) (second k x at)
each_append P (z ∷ xs) ys first second zero x at = first zero x at
each_append P (z ∷ xs) ys first second (suc k) x at =
    each_append (λ i. P (suc i)) xs ys (λ i. first (suc i)) (λ i y there. subst (λ n. P n y) (omega arith) (second i y there)) k x at

-- and what holds of one element that is put at a place holds at each place then
each_set : {X : Type 0} (P : ℕ → X → Type 0) (xs : List X) (i : ℕ) (y : X) → ((k : ℕ) (x : X) → slice_get xs k ≡ Some x → P k x)
    → P i y → (k : ℕ) (x : X) → slice_get (set xs i y) k ≡ Some x → P k x
each_set P [] i y each put k x at = absurd cc
each_set P (z ∷ xs) zero y each put zero x at = subst (P zero) (same_Some y x at) put
each_set P (z ∷ xs) zero y each put (suc k) x at = each (suc k) x at
each_set P (z ∷ xs) (suc i) y each put zero x at = each zero x at
each_set P (z ∷ xs) (suc i) y each put (suc k) x at = each_set (λ j. P (suc j)) xs i y (λ j. each (suc j)) put k x at

-- what holds of the one element holds at each place of the list of it
each_one : {X : Type 0} (P : ℕ → X → Type 0) (y : X) → P zero y → (k : ℕ) (x : X) → slice_get (y ∷ []) k ≡ Some x → P k x
each_one P y one zero x at = subst (P zero) (same_Some y x at) one
each_one P y one (suc k) x at = absurd cc

-- what holds at each place holds at each of one more
pub each_more : {X : Type 0} (P : ℕ → X → Type 0) (xs : List X) (y : X) → ((k : ℕ) (x : X) → slice_get xs k ≡ Some x → P k x)
    → P (length xs) y → (k : ℕ) (x : X) → slice_get (xs ++ y ∷ []) k ≡ Some x → P k x
each_more P xs y each last =
    each_append P xs (y ∷ []) each (each_one (λ k x. P (length xs + k) x) y (subst (λ n. P n y) (omega arith) last))

-- at each place of a list there is something
pub some_at : {X : Type 0} (xs : List X) (k : ℕ) → k < length xs → (x : X) × (slice_get xs k ≡ Some x)
some_at [] k within = absurd (omega (arith, within))
some_at (x ∷ xs) zero within = (x, refl)
some_at (x ∷ xs) (suc k) within = some_at xs k (omega (arith, within))

module _ (names terms : List Term) where
  pub AreKnown-none : (start : ℕ) → AreKnown names terms start []
  AreKnown-none start = record { each = λ k it at. absurd cc }

  pub AreKnown-append : (start middle : ℕ) (first second : List Known) → middle ≡ start + length first → AreKnown names terms start first
      → AreKnown names terms middle second → AreKnown names terms start (first ++ second)
  AreKnown-append start middle first second here known more = record {
    each = each_append (λ k it. IsKnown names terms (start + k) it) first second known.each
        (λ k it at. let place : middle + k ≡ start + (length first + k) = omega (arith, here) in subst (λ n. IsKnown names terms n it) place (more.each k it at));
  }

  pub AreKnown-more : (start at : ℕ) (known : List Known) (it : Known) → at ≡ start + length known → AreKnown names terms start known
      → IsKnown names terms at it → AreKnown names terms start (known ++ it ∷ [])
  AreKnown-more start at known it here before is =
      record { each = each_more (λ k x. IsKnown names terms (start + k) x) known it before.each (subst (λ n. IsKnown names terms n it) here is) }

  pub AreKnown-set : (start k : ℕ) (known : List Known) (it : Known) → AreKnown names terms start known → IsKnown names terms (start + k) it
      → AreKnown names terms start (set known k it)
  AreKnown-set start k known it before is = record { each = each_set (λ i x. IsKnown names terms (start + i) x) known k it before.each is }

  -- what was read there is known of the term
  pub known_at : (start k : ℕ) (known : List Known) (it default : Known) → AreKnown names terms start known → k < length known → get_or known k default ≡ it
      → IsKnown names terms (start + k) it
  known_at start k known it default are within read = are.each k it (slice_get-get_or known k default within ∙ ap Some read)
