use Rattle.std.proofs.Common.{length}
use Rattle.term_table.specs.Known.{HasNumbered}
use Rattle.term_table.proofs.names.Names.number_known.Given as goal

abbrev pub invariant-loop-k : goal.invariant-loop-k
invariant-loop-k l = HasNumbered l.fn.self l.fn.terms (length l.fn.numbers.items) l.self l.numbers.items l.k
