use Rattle.std.proofs.Common.{arith}
use Rattle.key_file.specs.Compile.{slot_terms, slot_of}
use Rattle.key_file.proofs.CompileLemmas.{HasGrown-more, names_more, made_more, room_more, slot_stays}
use Rattle.key_file.proofs.patterns.slots.Goals as goal

pub slot-requires : goal.slot-requires
slot-requires c = record {
  room = room_more slot_terms c.args.names.now c.loop-part.names c.args.slots.now c.loop-part.part-index c.part-item.result 4294967295
      c.loop-part-test.true c.part-item.is c.loop-part.invariant.names (omega arith);
}

pub loop-part-preserved : goal.loop-part-preserved
loop-part-preserved c = record {
  grown = HasGrown-more c.args.names.now c.loop-part.names c.slot.new.names c.loop-part.invariant.grown c.slot.ensures.grown;
  names = names_more slot_of slot_terms slot_stays c.args.names.now c.loop-part.names c.slot.new.names c.args.slots.now c.loop-part.part-index c.part-item.result
      c.loop-part-test.true c.part-item.is c.loop-part.invariant.names c.in_ok-slot.ensures.names;
  made = made_more slot_of slot_terms slot_stays c.args.names.now c.loop-part.names c.slot.new.names c.args.slots.now c.loop-part.part-index c.part-item.result c.in_ok-slot.field-0
      c.loop-part.made.items c.push.new.self.items c.loop-part-test.true c.part-item.is c.loop-part.invariant.names c.in_ok-slot.ensures.names
      c.loop-part.invariant.made c.in_ok-slot.ensures.slot c.in_ok-push.ensures.items;
}
