use Rattle.std.proofs.Common.{◌≡◌, ◌-◌, length, take}
use Rattle.key_valuations.specs.Leading.{AddsLed}
use Rattle.key_valuations.proofs.LeadingLaws.{IsLedAmong}
use Rattle.key_valuations.proofs.leading.+add_choices.Given as goal

abbrev pub decreases-add_choices : goal.decreases-add_choices
decreases-add_choices l = length l.leading.now - l.at

abbrev pub invariant-loop-literal : goal.invariant-loop-literal
invariant-loop-literal l = record {
  values : l.values.items ≡ l.fn.values.items;
  added : AddsLed l.graph l.leading (IsLedAmong l.graph l.pattern l.leading l.lead l.name l.fn.values.items (take l.literal-index l.literals)) l.fn.rows l.rows;
  value_count : l.rows.value_count ≡ length l.leading;
  image_count : l.rows.image_count ≡ 0;
}
