-- All pairs are Ready and on the list.
use Rattle.std.proofs.Common.{sym, ◌∙◌, ap, length}
use Rattle.std.proofs.lemmas.List.{length-replicate}
use Rattle.chase_laws.specs.declared.pair_state.PairState.TheVariants as state
use Rattle.chase_core.proofs.Tables.{all_ready}
use Rattle.chase_core.proofs.table.PairTable.new.Goals as goal

pub invariant_of-result : goal.invariant_of-result
invariant_of-result c = record {
  one_list = c.in_ok-waiting.ensures.count;
  one_cell_each = c.in_ok-waiting.ensures.cells ∙ sym (ap length c.in_ok-states.ensures ∙ length-replicate c.args.count state.Ready);
  ready = rw (c.in_ok-states.ensures, c.in_ok-waiting.ensures.list) (all_ready c.args.count);
}
