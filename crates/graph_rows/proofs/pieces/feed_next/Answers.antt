use Rattle.std.proofs.Common.{◌≡◌, ◌≤◌, take, length, refl, sym, arith}
use Rattle.std.proofs.lemmas.List.{length-take-le}
use Rattle.std.proofs.lemmas.Result.{err_from_is_err_and}
use Rattle.graph_rows.proofs.FeedingLemmas.{piece_read, nothing_read, feeds_no_more, mapped_stop, ok_from_variant}
use Rattle.graph_rows.proofs.pieces.feed_next.Goals as goal

pub returns-in_err-map_err-clause-feeds : goal.returns-in_err-map_err-clause-feeds
returns-in_err-map_err-clause-feeds g c =
    let n = c.in_ok-count.count in
    let shelf = g.S.Shelf in
    let buf = c.read.new.buf in
    let inside : n ≤ length buf = omega (arith, c.in_ok-count.ensures.within) in
    let len : length (take n buf) ≡ n = length-take-le n buf inside in
    let p = err_from_is_err_and c.from_residual-in_err-map_err.result c.from_residual-in_err-map_err.ensures.1 in
    let m = mapped_stop c.feed.result c.in_err-map_err.field-0.0 c.in_err-map_err.ensures.cases in
    rw (p.1, p.2, m.2) (feeds_no_more shelf c.args.shelf.now c.read.new.self (length c.args.buf.now) c.args.reader.now c.feed.new.self (take n buf) m.0
    (record {
      count = c.in_ok-count.ensures.cause.ok refl;
      read = piece_read (shelf.rest c.args.shelf.now) (shelf.rest c.read.new.self) (length c.args.buf.now) n buf c.in_ok-count.ensures.bytes;
      within = omega (arith, c.in_ok-count.ensures.within);
      fed = c.feed.ensures.read;
    })
    (rw m.1 at c.feed.ensures.err))

pub returns-clause-feeds : goal.returns-clause-feeds
returns-clause-feeds g c =
    let n = c.in_ok-count.count in
    let shelf = g.S.Shelf in
    let buf = c.read.new.buf in
    let inside : n ≤ length buf = omega (arith, c.in_ok-count.ensures.within) in
    let len : length (take n buf) ≡ n = length-take-le n buf inside in
    let m = ok_from_variant c.feed.result c.in_ok-map_err.ensures.variant in (
      take n buf,
      record {
        count = c.in_ok-count.ensures.cause.ok refl;
        read = piece_read (shelf.rest c.args.shelf.now) (shelf.rest c.read.new.self) (length c.args.buf.now) n buf c.in_ok-count.ensures.bytes;
        within = omega (arith, c.in_ok-count.ensures.within);
        fed = c.feed.ensures.read;
      },
      sym len,
      c.feed.ensures.open m.1,
      c.feed.ensures.ok.0 m.1,
      nothing_read (shelf.rest c.args.shelf.now) (shelf.rest c.read.new.self) (length c.args.buf.now) n buf c.requires c.in_ok-count.ensures.bytes,
    )
