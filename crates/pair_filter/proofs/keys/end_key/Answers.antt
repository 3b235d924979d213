-- One key less.
use Rattle.std.proofs.Common.{ℕ, ◌≡◌, ◌+◌, ◌-◌, subst, arith}
use Rattle.std.proofs.lemmas.Option.{slice_get_within}
use Rattle.paired_search.specs.KeyRange.{IsIdle}
use Rattle.pair_filter.specs.Keys.{ArePairedAt}
use Rattle.pair_filter.proofs.Idle.{all_from}
use Rattle.pair_filter.proofs.keys.end_key.Goals as goal

pub loop-key-init : goal.loop-key-init
loop-key-init c = λ key Q le at. absurd (omega (arith, le, slice_get_within c.args.patterns.now key Q at))

pub loop-key-preserved : goal.loop-key-preserved
loop-key-preserved c = all_from c.args.patterns.now (λ R. IsIdle c.args.graph.now R c.args.pair.0 c.args.pair.1) (c.loop-key.key - 1)
    (λ k R le at. c.loop-key.invariant k R (omega arith) at) (λ R at. (c.are_paired_at.ensures.ruled_out c.if-are_paired_at.false R at).idle)

pub returns-then-are_paired_at-clause-paired : goal.returns-then-are_paired_at-clause-paired
returns-then-are_paired_at-clause-paired c =
    let key : ℕ = c.loop-key.key - 1 in
    let same : key ≡ key + 1 - 1 = omega arith in
    subst (λ k. ArePairedAt c.args.graph.now c.args.patterns.now k c.args.pair.0 c.args.pair.1) same (c.are_paired_at.ensures.paired c.if-are_paired_at.true)

pub returns-then-are_paired_at-clause-last : goal.returns-then-are_paired_at-clause-last
returns-then-are_paired_at-clause-last c = λ k Q le at. c.loop-key.invariant k Q (omega arith) at

pub returns-clause-last : goal.returns-clause-last
returns-clause-last c = λ k Q le at. c.loop-key.invariant k Q (omega arith) at
