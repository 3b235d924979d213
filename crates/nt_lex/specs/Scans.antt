-- Runs of bytes that pass a test: this project's own words.
use Rattle.std.specs.Prelude.{◌≡◌, ℕ, ◌<◌, ◌≤◌, Bool, true, false, List, [], ◌∷◌, length, slice_index}

-- the bytes from the one place up to the other pass the test
abbrev pub AllPassBetween : (ℕ → Bool) → List ℕ → ℕ → ℕ → Type 0
AllPassBetween test bytes at end = (k : ℕ) → at ≤ k → k < end → test (slice_index bytes k) ≡ true

-- the longest run, from the one place on, of bytes that pass the test ends at the other place
pub record IsRunAt (test : ℕ → Bool) (bytes : List ℕ) (at end : ℕ) : Type 0 where
  pub ordered : at ≤ end
  pub in_range : end ≤ length bytes
  pub pass : AllPassBetween test bytes at end
  pub stops : end < length bytes → test (slice_index bytes end) ≡ false

-- no byte that passes the test comes next
abbrev pub NextFails : (ℕ → Bool) → List ℕ → Type 0
NextFails test [] = Unit {0}
NextFails test (b ∷ more) = test b ≡ false
