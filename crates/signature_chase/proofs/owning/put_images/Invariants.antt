use Rattle.std.proofs.Common.{Contains, take}
use Rattle.signature_chase.specs.Owning.{PutsInto}
use Rattle.signature_chase.proofs.owning.put_images.Given as goal

abbrev pub invariant-loop-image : goal.invariant-loop-image
invariant-loop-image l = PutsInto l.fn.owners l.owners l.place (Contains (take l.image-index l.images))
