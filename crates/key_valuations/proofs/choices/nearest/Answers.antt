-- Each edge alone covers what all allow.
use Rattle.std.proofs.Common.{[], ◌∷◌, ◌++◌, subst}
use Rattle.std.proofs.lemmas.List.{get_or_default}
use Rattle.key_valuations.specs.Part.{EdgeHolds}
use Rattle.key_valuations.proofs.choices.nearest.Goals as goal
use Rattle.key_valuations.proofs.choices.nearest.Goals.{then-edge+then-other-names, then-edge+else-other-names, else-edge}

pub loop-place-preserved : goal.loop-place-preserved
loop-place-preserved c = elim c.if-edge.branch [
  | then-edge+then-other-names w ↦ rw (w.names-is, w.chosen-is) (record {
    covers = λ m holds. (w.reach-other.ensures m).1 (holds c.loop-place.place _ c.loop-place-test.true);
    holds = λ m found d in_block. subst (EdgeHolds c.args.graph.now (c.args.places.now ++ m ∷ [])) (get_or_default c.args.block.now c.loop-place.place _ d in_block) ((w.reach-other.ensures m).0 found);
  })
  | then-edge+else-other-names w ↦ rw (w.names-is, w.chosen-is) c.loop-place.invariant
  | else-edge w ↦ rw (w.names-is, w.chosen-is) c.loop-place.invariant
]

pub loop-place-init : goal.loop-place-init
loop-place-init c = record {
  covers = λ m holds. (c.reach-names.ensures m).1 (holds 0 _ c.requires.some);
  holds = λ m found d in_block. subst (EdgeHolds c.args.graph.now (c.args.places.now ++ m ∷ [])) (get_or_default c.args.block.now 0 _ d in_block) ((c.reach-names.ensures m).0 found);
}
