use Rattle.std.proofs.Common.{◌∷◌, [], sym, arith, true≢false}
use Rattle.proof_check.proofs.FewLemmas.{none_at_all, none_later}
use Rattle.proof_check.proofs.rows.few_have.Goals as goal

pub returns-then-rows-place : goal.returns-then-rows-place
returns-then-rows-place c = (
  (λ h. absurd (true≢false (sym h))),
  (λ k. absurd (none_later c.args.rows.now c.loop-place.place c.args.s c.args.p c.args.o c.requires c.if-rows-place.true c.loop-place.invariant k)),
)

pub returns-then-until-rows : goal.returns-then-until-rows
returns-then-until-rows c =
    let past = c.loop-place-test.false in
    let end = c.if-until-rows.true in (
      (λ h. absurd (true≢false (sym h))),
      (λ k. absurd (none_at_all c.args.rows.now (c.args.s ∷ c.args.p ∷ c.args.o ∷ []) c.loop-place.place (omega arith) c.loop-place.invariant k)),
    )
