-- One key more.
use Rattle.std.proofs.Common.{arith}
use Rattle.std.proofs.lemmas.Option.{slice_get_within}
use Rattle.pair_filter.specs.Keys.{IsRuledOut}
use Rattle.pair_filter.proofs.Idle.{all_up_to}
use Rattle.pair_filter.proofs.keys.first_key.Goals as goal

pub loop-key-preserved : goal.loop-key-preserved
loop-key-preserved c = all_up_to c.args.patterns.now (λ R. IsRuledOut c.args.graph.now R c.args.pair.0 c.args.pair.1) c.loop-key.key
    c.loop-key.invariant (c.are_paired_at.ensures.ruled_out c.if-are_paired_at.false)

pub returns-then-are_paired_at-clause-first : goal.returns-then-are_paired_at-clause-first
returns-then-are_paired_at-clause-first c = λ key Q lt at. (c.loop-key.invariant key Q lt at).idle

pub returns-then-are_paired_at-clause-paired : goal.returns-then-are_paired_at-clause-paired
returns-then-are_paired_at-clause-paired c = c.are_paired_at.ensures.paired c.if-are_paired_at.true

pub returns-clause-none : goal.returns-clause-none
returns-clause-none c = λ paired.
    let within = slice_get_within c.args.patterns.now paired.key paired.pattern paired.found in
    (c.loop-key.invariant paired.key paired.pattern (omega (arith, within, c.loop-key-test.false)) paired.found).unpaired
    (record { left = paired.left; right = paired.right; paired = paired.paired })
