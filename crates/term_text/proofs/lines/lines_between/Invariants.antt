use Rattle.std.proofs.Common.{◌≡◌, ◌++◌}
use Rattle.term_text.specs.Lines.{lines_from}
use Rattle.term_text.proofs.lines.lines_between.Given as goal

abbrev pub invariant-loop-place : goal.invariant-loop-place
invariant-loop-place l = l.out.items ++ lines_from l.members l.place ≡ lines_from l.members l.from
