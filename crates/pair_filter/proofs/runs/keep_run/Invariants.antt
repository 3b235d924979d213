use Rattle.std.proofs.Common.{take}
use Rattle.std.specs.List.{AllZip}
use Rattle.chase_laws.specs.Pairing.{ArePairedBy}
use Rattle.pair_filter.specs.Depth.{filter_depth}
use Rattle.pair_filter.specs.Keys.{AreKeysOf}
use Rattle.pair_filter.specs.Selection.{IsSelection}
use Rattle.pair_filter.proofs.runs.keep_run.Given as goal

abbrev pub invariant-loop-pair : goal.invariant-loop-pair
invariant-loop-pair l = record {
  kept : IsSelection (λ x. ArePairedBy l.graph l.patterns filter_depth x.0 x.1) (take l.pair-index l.pairs) l.kept.items;
  keys : AllZip (λ x range. AreKeysOf l.graph l.patterns range x.0 x.1) l.kept.items l.keys.items;
}
