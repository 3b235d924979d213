use Rattle.std.proofs.Common.{take, All, [], ◌∷◌, ◌++◌}
use Rattle.key_valuations.specs.Part.{EdgeHolds}
use Rattle.key_valuations.proofs.fits.edges_hold.Given as goal

abbrev pub invariant-loop-place : goal.invariant-loop-place
invariant-loop-place l = All (EdgeHolds l.graph (l.places ++ l.m ∷ [])) (take l.place l.block)
