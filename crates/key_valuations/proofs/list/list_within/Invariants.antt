use Rattle.std.proofs.Common.{All, ◌<◌}
use Rattle.valuation_groups.specs.Groups.{GroupShape, listed_of, AreApart}
use Rattle.key_valuations.proofs.GroupLaws.{AreListedTo}
use Rattle.key_valuations.proofs.list.list_within.Given as goal

abbrev pub invariant-loop-key : goal.invariant-loop-key
invariant-loop-key g l = record {
  listed : AreListedTo l.graph l.patterns l.key (listed_of l.groups);
  apart : AreApart l.groups;
  keys : All (λ (group : GroupShape). group.key < l.key) l.groups;
}
