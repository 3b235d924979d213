use Rattle.std.proofs.Common.{List, ℕ, ◌≡◌, ◌<◌, ◌≤◌, ◌-◌, ◌+◌, length, vec_len, IsOk}
use Rattle.graph_rows.specs.Feeding.{FeedsOn, StaysOpen}
use Rattle.graph_rows.proofs.batches.feed_batch.Given as goal

abbrev pub invariant-pieces : goal.invariant-pieces
invariant-pieces g l =
    let shelf = g.S.Shelf in
    record {
      held : shelf.held l.shelf ≡ shelf.held l.fn.shelf;
      asked : shelf.asked l.shelf ≡ shelf.asked l.fn.shelf;
      room : vec_len l.buf ≡ vec_len l.fn.buf;
      some : 0 < vec_len l.buf;
      few : vec_len l.buf ≤ 65536;
      same : l.reader.limits ≡ l.fn.reader.limits;
      running : IsOk l.reader.so_far;
      within : l.bytes < 4194304 + 65536;
      fed : (gone : List ℕ) × FeedsOn shelf l.fn.shelf l.shelf l.fn.reader l.reader gone × StaysOpen l.fn.reader gone × (l.bytes ≡ length gone);
    }

abbrev pub decreases-pieces : goal.decreases-pieces
decreases-pieces g l = 4194304 - l.bytes
