-- Pair by pair.
use Rattle.std.proofs.Common.{List, ℕ, ◌++◌, ◌∷◌, [], length, refl, ap, arith}
use Rattle.chase_laws.specs.declared.pair_state.PairState.TheVariants as state
use Rattle.chase_core.proofs.Recalling.{recalled_none, recalled_skip, recalled_one, all_recalled, all_rise, all_landed}
use Rattle.chase_core.proofs.recall.recall_parts.Goals as goal
use Rattle.chase_core.proofs.recall.recall_parts.Goals.{in-Flying, in_default}

pub loop-pair-init : goal.loop-pair-init
loop-pair-init c = ([], recalled_none c.args.table.now)

pub loop-pair-preserved : goal.loop-pair-preserved
loop-pair-preserved c =
    let old = c.args.table.now in
    let new = c.loop-pair.table in
    let v = c.loop-pair.invariant in
    let n = c.loop-pair.pair in
    elim c.match-state.branch [
      | in-Flying w ↦ (v.0 ++ n ∷ [], rw w.table-is (recalled_one old new v.0 n v.1 state.Flying w.in-Flying.ensures.state refl w.make_ready.new.self w.make_ready.ensures.states w.make_ready.ensures.last))
      | in_default w ↦ (v.0, rw w.table-is (recalled_skip old new v.0 n v.1 c.state.result c.state.ensures.state w.in_default.not-Flying))
    ]

pub returns-clause-states : goal.returns-clause-states
returns-clause-states c =
    let v = c.loop-pair.invariant in
    all_recalled c.args.table.now c.loop-pair.table v.0 c.loop-pair.pair v.1 (omega (arith, c.loop-pair-test.false, ap (λ (ps : List (ℕ × ℕ)). length ps) c.pairs.ensures.pairs, c.requires))

pub returns-clause-rise : goal.returns-clause-rise
returns-clause-rise c =
    let v = c.loop-pair.invariant in
    (v.0, all_rise c.args.table.now c.loop-pair.table v.0 c.loop-pair.pair v.1 (omega (arith, c.loop-pair-test.false, ap (λ (ps : List (ℕ × ℕ)). length ps) c.pairs.ensures.pairs, c.requires)))

pub returns-clause-landed : goal.returns-clause-landed
returns-clause-landed c =
    let v = c.loop-pair.invariant in
    all_landed c.args.table.now c.loop-pair.table v.0 c.loop-pair.pair v.1 (omega (arith, c.loop-pair-test.false, ap (λ (ps : List (ℕ × ℕ)). length ps) c.pairs.ensures.pairs, c.requires))
