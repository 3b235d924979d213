use Rattle.std.proofs.Common.{◌-◌, ◌^◌, ◌≡◌}
use Rattle.term_table.specs.Marks.{hash_of}
use Rattle.term_table.proofs.MarkLemmas.{HasSearched}
use Rattle.term_table.proofs.marks.Marks.enter.Given as goal

abbrev pub invariant-loop-place : goal.invariant-loop-place
invariant-loop-place l =
    record {
      keys : l.self.set.keys ≡ l.initial.self.set.keys;
      hasher : l.self.hasher ≡ l.initial.self.hasher;
      searched : HasSearched l.self.set.keys l.terms l.term (hash_of l.fn.self.hasher l.term) l.mark;
    }

abbrev pub decreases-loop-place : goal.decreases-loop-place
decreases-loop-place l = 2 ^ 32 - l.mark
