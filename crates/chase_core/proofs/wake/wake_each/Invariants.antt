use Rattle.std.proofs.Common.{◌≡◌, ◌++◌, take}
use Rattle.chase_laws.specs.declared.pair_state.PairState.TheVariants as state
use Rattle.chase_laws.specs.Core.{set_each}
use Rattle.chase_core.proofs.wake.wake_each.Given as goal

abbrev pub invariant-loop-pair : goal.invariant-loop-pair
invariant-loop-pair l = record {
  states : l.table.states ≡ set_each l.fn.table.states (take l.pair-index l.pairs) state.Ready;
  ready : l.table.ready ≡ l.fn.table.ready ++ take l.pair-index l.pairs;
  woken : l.woken.list ≡ take l.fn.woken.room (take l.pair-index l.pairs);
  room : l.woken.room ≡ l.fn.woken.room;
}
