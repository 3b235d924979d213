use Rattle.std.proofs.Common.{◌≡◌, ◌++◌, map}
use Rattle.key_file.specs.declared.slot.KeySlot.TheVariants.{Fixed}
use Rattle.key_lang.proofs.endings.slots.Given as goal

abbrev pub invariant-loop-term : goal.invariant-loop-term
invariant-loop-term l = l.slots.items ≡ l.initial.slots.items ++ map Fixed l.yielded
