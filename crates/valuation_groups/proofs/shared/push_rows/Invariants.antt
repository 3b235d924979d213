use Rattle.std.proofs.Common.{◌≡◌, take}
use Rattle.valuation_groups.specs.Shared.{grown, in_order}
use Rattle.valuation_groups.proofs.shared.push_rows.Given as goal

abbrev pub invariant-loop-number : goal.invariant-loop-number
invariant-loop-number l = l.kept ≡ grown l.initial.kept (in_order l.rows.parts (take l.number-index l.numbers))
