-- All edges are passed.
use Rattle.std.proofs.Common.{List, subst, arith}
use Rattle.std.proofs.lemmas.List.{take_all}
use Rattle.key_file.specs.declared.edge.KeyEdge.{KeyEdge}
use Rattle.key_file.proofs.WalkLemmas.{ArePassed, all_passed}
use Rattle.key_file.proofs.walks.wider_marks.Goals as goal

pub returns : goal.returns
returns c =
    all_passed c.args.slots c.args.edges.now c.args.first.now c.loop-edge.marks
    (subst (λ (es : List KeyEdge). ArePassed c.args.slots es c.args.first.now c.loop-edge.marks) (take_all c.loop-edge.edge-index c.args.edges.now (omega arith)) c.loop-edge.invariant)
