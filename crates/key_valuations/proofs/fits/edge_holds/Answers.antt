-- Both ends of the edge have a number.
use Rattle.std.proofs.Common.{[], ◌∷◌, length-append, arith}
use Rattle.key_valuations.proofs.fits.edge_holds.Goals as goal

pub returns : goal.returns
returns c =
    let long = length-append c.args.places.now (c.args.m ∷ []) in (
      (λ h from to. rw (c.name_at-from.ensures, c.name_at-to.ensures) at (c.has.ensures.0 h)),
      (λ holds. c.has.ensures.1 (rw (c.name_at-from.ensures, c.name_at-to.ensures) (holds (omega (arith, c.requires.from)) (omega (arith, c.requires.to))))),
    )
