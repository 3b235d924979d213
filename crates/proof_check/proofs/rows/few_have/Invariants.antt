use Rattle.std.proofs.Common.{[], ◌∷◌}
use Rattle.proof_check.proofs.FewLemmas.{NoneBefore}
use Rattle.proof_check.proofs.rows.few_have.Given as goal

abbrev pub invariant-loop-place : goal.invariant-loop-place
invariant-loop-place l = NoneBefore l.rows (l.s ∷ l.p ∷ l.o ∷ []) l.place
