-- A list of Nones has no other.
use Rattle.std.proofs.Common.{ℕ, zero, suc, None, Option, replicate, get_or, ◌≡◌, refl}
use Rattle.key_valuations.proofs.marks.no_marks.Goals as goal

none_at : (n k : ℕ) → let o : Option ℕ = None in get_or (replicate n o) k o ≡ o
none_at zero k = refl
none_at (suc n) zero = refl
none_at (suc n) (suc k) = none_at n k

pub returns-clause-none : goal.returns-clause-none
returns-clause-none c = λ place. none_at 16 place
