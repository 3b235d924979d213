use Rattle.std.proofs.Common.{◌≡◌, map}
use Rattle.key_lang.specs.OpenKey.{key_edge}
use Rattle.key_lang.proofs.endings.key_edges.Given as goal

abbrev pub invariant-loop-edge : goal.invariant-loop-edge
invariant-loop-edge l = l.made.items ≡ map (key_edge l.variables) l.yielded
