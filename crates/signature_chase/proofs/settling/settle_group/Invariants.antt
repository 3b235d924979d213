use Rattle.std.proofs.Common.{ℕ, ◌≡◌, ◌<◌}
use Rattle.std.specs.Prelude.{slice_index}
use Rattle.valuation_groups.specs.Groups.{row_in}
use Rattle.signature_chase.specs.Settled.{name_label}
use Rattle.signature_chase.specs.Setting.{IsDerived}
use Rattle.signature_chase.specs.Advance.{Advances}
use Rattle.signature_chase.proofs.settling.settle_group.Given as goal

abbrev pub invariant-loop-row : goal.invariant-loop-row
invariant-loop-row l = record {
  derived : IsDerived l.setting.graph l.setting.patterns l.book;
  advances : Advances l.setting.groups l.fn.book l.book l.fn.queue.list l.queue.list;
  count : l.queue.count ≡ l.fn.queue.count;
  met : (k : ℕ) → k < l.row → name_label l.book.labels (row_in l.group (slice_index l.leaders.items k)) ≡ name_label l.book.labels (row_in l.group k);
}
