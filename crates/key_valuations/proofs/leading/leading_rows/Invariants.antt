use Rattle.std.proofs.Common.{[], ◌≡◌, take}
use Rattle.key_valuations.specs.Search.{AreLeadsOf}
use Rattle.key_valuations.proofs.leading.leading_rows.Given as goal

abbrev pub invariant-loop-name : goal.invariant-loop-name
invariant-loop-name l = record {
  leads : AreLeadsOf l.search (take l.name-index l.names) l.rows;
  values : l.values.items ≡ [];
}
