use Rattle.std.proofs.Common.{◌≡◌, ◌++◌, ◌-◌, ◌<◌, length}
use Rattle.term_text.specs.Lines.{member_in, class_from, class_text, rest_text}
use Rattle.term_text.proofs.lines.put_line.Given as goal

abbrev pub invariant-loop-out : goal.invariant-loop-out
invariant-loop-out l = record {
  in_range : l.following < length l.members;
  same : (member_in l.members l.following).label ≡ (member_in l.members l.place).label;
  text : l.out.items ++ rest_text (class_from l.members l.following) ≡ l.fn.out.items ++ class_text (class_from l.members l.place);
}

abbrev pub decreases-loop-out : goal.decreases-loop-out
decreases-loop-out l = length l.members - l.following
