use Rattle.std.proofs.Common.{All, refl, subst, arith}
use Rattle.std.proofs.lemmas.List.{take_all}
use Rattle.std.proofs.lemmas.List.Elements.{All-more}
use Rattle.merge_graph.specs.MergedGraph.{IsWithin}
use Rattle.merge_tests.proofs.merged.are_within.Goals as goal

pub loop-row-preserved : goal.loop-row-preserved
loop-row-preserved c = All-more (IsWithin c.args.count) c.args.rows.now c.loop-row.row-index _ c.loop-row-test.true c.loop-row.invariant (c.if-not-is_within.ensures refl)

pub returns : goal.returns
returns c = λ t. subst (All (IsWithin c.args.count)) (take_all c.loop-row.row-index c.args.rows.now (omega (arith, c.loop-row-test.false))) c.loop-row.invariant
