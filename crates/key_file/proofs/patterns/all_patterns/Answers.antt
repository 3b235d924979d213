use Rattle.std.proofs.Common.{arith}
use Rattle.key_file.specs.Compile.{terms_of_key, shape_of}
use Rattle.key_file.proofs.CompileLemmas.{HasGrown-more, names_more, made_more, room_more, shape_stays}
use Rattle.key_file.proofs.patterns.all_patterns.Goals as goal

pub pattern-requires : goal.pattern-requires
pattern-requires c = record {
  room = room_more terms_of_key c.args.names.now c.loop-key.names c.args.keys.now c.loop-key.key-index c.key-item.result 4294967295
      c.loop-key-test.true c.key-item.is c.loop-key.invariant.names (omega arith);
}

pub loop-key-preserved : goal.loop-key-preserved
loop-key-preserved c = record {
  grown = HasGrown-more c.args.names.now c.loop-key.names c.pattern.new.names c.loop-key.invariant.grown c.pattern.ensures.grown;
  names = names_more shape_of terms_of_key shape_stays c.args.names.now c.loop-key.names c.pattern.new.names c.args.keys.now c.loop-key.key-index c.key-item.result
      c.loop-key-test.true c.key-item.is c.loop-key.invariant.names c.in_ok-pattern.ensures.names;
  made = made_more shape_of terms_of_key shape_stays c.args.names.now c.loop-key.names c.pattern.new.names c.args.keys.now c.loop-key.key-index c.key-item.result c.in_ok-pattern.field-0
      c.loop-key.patterns.items c.push.new.self.items c.loop-key-test.true c.key-item.is c.loop-key.invariant.names c.in_ok-pattern.ensures.names
      c.loop-key.invariant.made c.in_ok-pattern.ensures.pattern c.in_ok-push.ensures.items;
}
