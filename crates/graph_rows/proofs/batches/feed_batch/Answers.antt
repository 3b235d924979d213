-- Piece by piece.
use Rattle.std.proofs.Common.{[], ◌++◌, ◌∙◌, refl, arith, length, length-append}
use Rattle.std.proofs.lemmas.Result.{err_from_is_err_and}
use Rattle.graph_rows.proofs.FeedingLemmas.{feeds_none, open_none, feeds_more, open_more, batch_stops, batch_ends}
use Rattle.graph_rows.proofs.batches.feed_batch.Goals as goal

pub pieces-init : goal.pieces-init
pieces-init g c = record {
  held = refl;
  asked = refl;
  room = refl;
  some = c.requires.some;
  few = c.requires.few;
  same = refl;
  running = c.requires.running;
  within = omega arith;
  fed = ([], feeds_none g.S.Shelf c.args.shelf.now c.args.reader.now, open_none c.args.reader.now, refl);
}

pub returns-in_err-count-clause-feeds : goal.returns-in_err-count-clause-feeds
returns-in_err-count-clause-feeds g c =
    let i = c.pieces.invariant in
    let p = err_from_is_err_and c.from_residual.result c.from_residual.ensures.1 in
    rw (p.1, p.2) (batch_stops g.S.Shelf c.args.shelf.now c.pieces.shelf c.feed_next.new.shelf _ c.args.reader.now c.pieces.reader c.feed_next.new.reader
    i.fed.0 i.fed.1 i.same c.in_err-count.field-0.0 (let d = c.deref_mut.ensures.len in let w = i.few in omega arith) c.in_err-count.ensures.limits i.fed.2 c.in_err-count.ensures.feeds)

pub returns-then-count-eq0-clause-feeds : goal.returns-then-count-eq0-clause-feeds
returns-then-count-eq0-clause-feeds g c =
    let i = c.pieces.invariant in
    batch_ends g.S.Shelf c.args.shelf.now c.pieces.shelf c.feed_next.new.shelf _ c.args.reader.now c.pieces.reader c.feed_next.new.reader
    i.fed.0 i.fed.1 i.same c.in_ok-count.count c.in_ok-count.ensures.feeds c.if-count-eq0.true

pub pieces-preserved : goal.pieces-preserved
pieces-preserved g c =
    let i = c.pieces.invariant in
    let f = c.in_ok-count.ensures in
    record {
      held = f.held ∙ i.held;
      asked = f.asked ∙ i.asked;
      room = i.room;
      some = i.some;
      few = i.few;
      same = f.limits ∙ i.same;
      running = f.feeds.4;
      within = (let t = c.pieces-test.true in let z = c.requires.size in let a = f.feeds.1.within in let b = f.feeds.2 in let d = c.deref_mut.ensures.len in let w = i.few in omega arith);
      fed = (
        i.fed.0 ++ f.feeds.0,
        feeds_more g.S.Shelf c.args.shelf.now c.pieces.shelf c.feed_next.new.shelf (length c.deref_mut.result.now) c.args.reader.now c.pieces.reader c.feed_next.new.reader i.fed.0 i.fed.1 i.same f.feeds.0 f.feeds.1,
        open_more g.S.Shelf c.args.shelf.now c.pieces.shelf c.feed_next.new.shelf (length c.deref_mut.result.now) c.args.reader.now c.pieces.reader c.feed_next.new.reader i.fed.0 i.fed.1 i.same f.feeds.0 f.feeds.3,
        (let a = i.fed.3 in let b = f.feeds.2 in let l = length-append i.fed.0 f.feeds.0 in omega arith),
      );
    }

pub returns-clause-feeds : goal.returns-clause-feeds
returns-clause-feeds g c =
    let i = c.pieces.invariant in (
      i.fed.0,
      i.fed.1,
      i.fed.2,
      i.running,
      (let a = i.fed.3 in let t = c.pieces-test.false in let z = c.requires.size in omega arith),
    )
