use Rattle.std.proofs.Common.{◌<◌, ◌≡◌, ◌+◌, ◌++◌, Some, IfSome, IsSomeAnd, vec_len}
use Rattle.gk_io.specs.Files.{bytes_of}
use Rattle.graph_rows.proofs.loading.load.Given as goal

abbrev pub invariant-loop-room : goal.invariant-loop-room
invariant-loop-room g l =
    let shelf = g.S.Shelf in
    record {
      held : shelf.held l.shelf ≡ shelf.held l.fn.shelf;
      asked : shelf.asked l.shelf ≡ Some l.fn.name;
      count : shelf.faults l.shelf ≡ shelf.faults l.fn.shelf;
      within : vec_len l.bytes + l.room ≡ l.limit + 1;
      piece : 0 < vec_len l.buf;
      read : IfSome (shelf.held l.fn.shelf) (λ files. IsSomeAnd (shelf.rest l.shelf) (λ rest. l.bytes.items ++ rest ≡ bytes_of files l.fn.name));
    }

abbrev pub decreases-loop-room : goal.decreases-loop-room
decreases-loop-room g l = l.room
