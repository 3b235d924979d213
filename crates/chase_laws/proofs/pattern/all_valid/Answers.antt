-- Each pattern so far is valid.
use Rattle.std.proofs.Common.{All, subst, take_all}
use Rattle.std.proofs.lemmas.List.Elements.{All-more}
use Rattle.chase_laws.specs.Shape.{Shape, IsPattern}
use Rattle.chase_laws.proofs.Lists.{All-at}
use Rattle.chase_laws.proofs.pattern.all_valid.Goals as goal

pub loop-pattern-preserved : goal.loop-pattern-preserved
loop-pattern-preserved c =
    let patterns = c.args.patterns.now in
    let i = c.loop-pattern.pattern-index in
    let Q : Shape = c.pattern-item.result in
    All-more IsPattern patterns i Q c.loop-pattern-test.true c.loop-pattern.invariant (subst IsPattern c.pattern-item.is c.slots.ensures.valid)

pub returns-clause-valid : goal.returns-clause-valid
returns-clause-valid c = subst (All IsPattern) (take_all c.loop-pattern.pattern-index c.args.patterns.now c.loop-pattern-test.false) c.loop-pattern.invariant

pub returns-clause-facts : goal.returns-clause-facts
returns-clause-facts c = λ key Q here.
    c.law_pattern.ensures.facts Q (All-at IsPattern c.args.patterns.now key Q
    (subst (All IsPattern) (take_all c.loop-pattern.pattern-index c.args.patterns.now c.loop-pattern-test.false) c.loop-pattern.invariant) here)
