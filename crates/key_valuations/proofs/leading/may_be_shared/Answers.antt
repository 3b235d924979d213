-- Two names of a literal are two of its subjects.
use Rattle.std.proofs.Common.{arith}
use Rattle.key_valuations.proofs.LeadingLaws.{only_name}
use Rattle.key_valuations.proofs.leading.may_be_shared.Goals as goal

pub returns-clause-alone : goal.returns-clause-alone
returns-clause-alone c = λ f literal. (
  c.if-folded.false,
  (λ m n a b. only_name c.incoming-names.result.now m n (omega arith) ((c.incoming-names.ensures.exact m).1 a) ((c.incoming-names.ensures.exact n).1 b)),
)
