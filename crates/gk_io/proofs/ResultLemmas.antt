-- Facts of an outcome.
use Rattle.std.proofs.Common.{Result, Ok, Err, MatchResult}

-- what holds of every value and of every error holds of the outcome
pub match_result_always : {T E : Type 0} (r : Result T E) (P : T → Type 0) (Q : E → Type 0) → ((value : T) → P value) → ((error : E) → Q error) → MatchResult r P Q
match_result_always (Ok value) P Q p q = p value
match_result_always (Err error) P Q p q = q error
