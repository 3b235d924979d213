use Rattle.std.proofs.Common.{List, [], ℕ, ◌≡◌, ◌<◌, ◌≤◌, vec_len, IsOk, IsTrue}
use Rattle.gk_base.specs.declared.term.Triple.{Triple}
use Rattle.graph_rows.specs.Rows.{GoOn, LeaveRoom}
use Rattle.graph_rows.specs.Feeding.{AreAll}
use Rattle.graph_rows.proofs.FeedingLemmas.{HasFed, left_before}
use Rattle.graph_rows.proofs.batches.feed_in_batches.Given as goal

abbrev pub invariant-batches : goal.invariant-batches
invariant-batches g l =
    let shelf = g.S.Shelf in
    record {
      held : shelf.held l.shelf ≡ shelf.held l.fn.shelf;
      asked : shelf.asked l.shelf ≡ shelf.asked l.fn.shelf;
      count : shelf.faults l.shelf ≡ shelf.faults l.fn.shelf;
      some : 0 < vec_len l.buf;
      few : vec_len l.buf ≤ 65536;
      none : l.triples ≡ [];
      room : LeaveRoom l.fn.rows l.reader.limits.triples;
      running : IsOk l.reader.so_far;
      size : (0 < l.size) × (l.size ≤ 4194304);
      fed : (taken : List Triple) × (seen : List ℕ) × HasFed shelf l.fn.shelf l.shelf l.fn.reader.limits l.reader (GoOn l.fn.rows l.rows) taken seen
          × (IsTrue l.at_end → AreAll shelf l.fn.shelf seen);
    }

abbrev pub decreases-batches : goal.decreases-batches
decreases-batches g l = left_before l.reader l.at_end
