use Rattle.std.proofs.Common.{◌≤◌, ◌-◌, length}
use Rattle.term_table.specs.Known.{HasNumbered}
use Rattle.term_table.proofs.names.Names.number_in_groups.Given as goal

abbrev pub invariant-groups : goal.invariant-groups
invariant-groups l =
    record {
      within : length l.numbers.items ≤ length l.fn.terms;
      numbered : HasNumbered l.fn.self l.fn.terms 0 l.self l.numbers.items (length l.numbers.items);
    }

abbrev pub decreases-groups : goal.decreases-groups
decreases-groups l = length l.fn.terms - length l.numbers.items
