use Rattle.std.specs.Io.KnownBytes.{Keeps}
use Rattle.gk_io.proofs.dir_shelf.read_some.Given as goal

abbrev pub invariant-loop : goal.invariant-loop
invariant-loop g l = Keeps (g.F.Read.remaining l.fn.file) (g.F.Read.remaining l.file)
