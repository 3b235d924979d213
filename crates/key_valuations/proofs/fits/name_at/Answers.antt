-- A number of the list, or the new one behind it.
use Rattle.std.proofs.Common.{[], ◌∷◌, ◌++◌, ◌≡◌, length, slice_index, sym, ◌∙◌, ap, arith}
use Rattle.key_valuations.proofs.PartLaws.{front_at, last_at}
use Rattle.key_valuations.proofs.fits.name_at.Goals as goal

pub returns-then-slot-len : goal.returns-then-slot-len
returns-then-slot-len c = c.get.ensures ∙ sym (front_at c.args.places.now c.args.m c.args.slot 0 (omega arith))

pub returns-else-slot-len : goal.returns-else-slot-len
returns-else-slot-len c =
    let here : c.args.slot ≡ length c.args.places.now = omega arith in
    sym (ap (slice_index (c.args.places.now ++ c.args.m ∷ [])) here ∙ last_at c.args.places.now c.args.m 0)
