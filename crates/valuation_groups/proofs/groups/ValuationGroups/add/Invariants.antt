use Rattle.std.proofs.Common.{◌≡◌, ◌≤◌, ◌++◌, ◌-◌, Contains, length, take}
use Rattle.valuation_groups.specs.Groups.{GroupShape, listed_of, AreApart}
use Rattle.valuation_groups.proofs.OrderLemmas.{IsBorder}
use Rattle.valuation_groups.proofs.GroupLemmas.{IsKnown}
use Rattle.valuation_groups.proofs.groups.ValuationGroups.add.Given as goal

abbrev pub invariant-loop-from : goal.invariant-loop-from
invariant-loop-from l = record {
  within : l.from ≤ length l.rows.parts;
  listed : listed_of l.self ≡ listed_of l.fn.self ++ take l.from l.rows.parts;
  apart : AreApart l.self;
  known : (g : GroupShape) → Contains l.self g → IsKnown l.fn.self l.rows l.from g;
  border : IsBorder l.rows.parts l.from;
}

abbrev pub decreases-loop-from : goal.decreases-loop-from
decreases-loop-from l = length l.rows.parts - l.from
