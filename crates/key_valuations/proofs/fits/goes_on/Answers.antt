-- The number is new, has the slot's kind, and each edge holds.
use Rattle.std.proofs.Common.{[], ◌∷◌, ◌++◌}
use Rattle.key_valuations.proofs.PartLaws.{part_push}
use Rattle.key_valuations.proofs.BlockLaws.{block_whole, block_part, block_ends}
use Rattle.key_valuations.proofs.fits.goes_on.Goals as goal

pub edges_hold-requires-clause-ends : goal.edges_hold-requires-clause-ends
edges_hold-requires-clause-ends c = block_ends c.args.plan.now.shape _ c.args.block.now c.requires.block

pub returns : goal.returns
returns c =
    let G = c.args.graph.now in
    let P = c.args.plan.now.shape in
    let p = c.args.places.now in
    let m = c.args.m in (
      (λ h. part_push G P c.args.slot p m c.requires.part c.requires.slot (c.is_new.ensures.0 c.if-not-is_new.false) (c.fits_slot.ensures.0 c.if-not-fits_slot.false)
          (block_whole G P p m c.args.block.now c.requires.block c.requires.part (c.edges_hold.ensures.0 h))),
      (λ h. c.edges_hold.ensures.1 (block_part G P (p ++ m ∷ []) _ c.args.block.now c.requires.block h.edges)),
    )
