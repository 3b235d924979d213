use Rattle.std.proofs.Common.{◌≡◌, ◌≤◌, replicate, vec_len, vec_capacity}
use Rattle.chase_laws.specs.declared.pair_state.PairState.TheVariants as state
use Rattle.chase_core.proofs.table.ready_states.Given as goal

abbrev pub invariant-loop-i : goal.invariant-loop-i
invariant-loop-i l = record {
  made : l.states.items ≡ replicate l.i state.Ready;
  count : vec_len l.states ≡ l.i;
  room : l.count ≤ vec_capacity l.states;
}
