use Rattle.std.proofs.Common.{List, ◌++◌, ◌≡◌, ◌+◌, ◌*◌, ◌-◌, length}
use Rattle.chase_laws.specs.declared.entry.Entry.{Entry}
use Rattle.signature_chase.specs.Settled.{AreSettledBut}
use Rattle.signature_chase.specs.Setting.{IsDerived}
use Rattle.signature_chase.proofs.chasing.settle_all.Given as goal

abbrev pub invariant-groups : goal.invariant-groups
invariant-groups l = record {
  derived : IsDerived l.setting.graph l.setting.patterns l.book;
  begins : (more : List Entry) × (l.book.journal ≡ l.fn.book.journal ++ more);
  settled : AreSettledBut l.setting.groups l.queue.list l.book.labels;
  count : l.queue.count ≡ length l.setting.groups;
}

-- the names that are still apart count more than all groups that wait
abbrev pub decreases-groups : goal.decreases-groups
decreases-groups l = (length l.setting.graph.literal - length l.book.journal) * (length l.setting.groups + 1) + length l.queue.list
