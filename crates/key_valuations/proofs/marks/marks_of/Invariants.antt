use Rattle.key_valuations.proofs.MarkLaws.{AreMarksTo}
use Rattle.key_valuations.proofs.marks.marks_of.Given as goal

abbrev pub invariant-loop-s : goal.invariant-loop-s
invariant-loop-s l = AreMarksTo l.pattern l.plan.place l.values l.images l.marks l.s l.values_left l.images_left
