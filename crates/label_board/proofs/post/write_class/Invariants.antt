use Rattle.std.proofs.Common.{◌≡◌, ◌<◌, length}
use Rattle.std.specs.Prelude.{IfSome, slice_get}
use Rattle.class_book.specs.Classes.{class_of}
use Rattle.label_board.specs.Rule.{with_shown}
use Rattle.label_board.proofs.Writing.{WritesMembers}
use Rattle.label_board.proofs.post.write_class.Given as goal

abbrev pub invariant-loop-done : goal.invariant-loop-done
invariant-loop-done l = record {
  table : l.scribe.table_id ≡ l.fn.scribe.table_id;
  me : l.scribe.me ≡ (with_shown l.fn.scribe.me.0 l.scribe.me.0.shown, l.fn.scribe.me.1);
  member : l.member ≡ slice_get (class_of l.book l.name) l.done;
  named : IfSome l.member (λ n. n < length l.book.labels);
  class : IfSome l.member (λ n. class_of l.book n ≡ class_of l.book l.name);
  written : WritesMembers l.fn.scribe.me.0.shown l.book.labels (class_of l.book l.name) l.done l.scribe.me.0.shown;
}
