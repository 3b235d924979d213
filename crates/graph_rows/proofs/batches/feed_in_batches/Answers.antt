-- Batch by batch.
use Rattle.std.proofs.Common.{List, [], ◌++◌, ◌∙◌, refl, sym, subst, arith}
use Rattle.std.proofs.lemmas.Result.{err_from_is_err_and}
use Rattle.gk_base.specs.declared.limits.Limits.{Limits}
use Rattle.gk_base.specs.declared.term.Triple.{Triple}
use Rattle.graph_rows.specs.Rows.{GoOn, LeaveRoom}
use Rattle.graph_rows.specs.Feeding.{AreAll}
use Rattle.graph_rows.proofs.FeedingLemmas.{fed_none, go_on_twice, fed_taken, taken_few, batch_more, batch_all, batch_no_more, batch_smaller}
use Rattle.graph_rows.proofs.batches.feed_in_batches.Goals as goal

pub returns-in_err-at_end-clause-feeds : goal.returns-in_err-at_end-clause-feeds
returns-in_err-at_end-clause-feeds g c =
    let a = c.args in
    let k = c.from_residual in
    let p = err_from_is_err_and k.result k.ensures.1 in
    rw (p.1, p.2) (batch_no_more g.S.Shelf a.shelf.now a.shelf.now c.feed_batch.new.shelf a.reader.now.limits a.reader.now c.feed_batch.new.reader (GoOn a.rows.now a.rows.now) [] []
    (fed_none g.S.Shelf a.shelf.now a.reader.now a.rows.now c.requires.fresh) c.in_err-at_end.ensures.limits refl c.in_err-at_end.field-0.0 (GoOn a.rows.now a.rows.now) c.in_err-at_end.ensures.feeds)

pub batches-init : goal.batches-init
batches-init g c =
    let a = c.args in
    let f = c.in_ok-at_end.ensures in
    let start = fed_none g.S.Shelf a.shelf.now a.reader.now a.rows.now c.requires.fresh in
    record {
      held = f.held;
      asked = f.asked;
      count = f.feeds.1.count;
      some = (let some = c.requires.some in let room = f.room in omega arith);
      few = (let few = c.requires.few in let room = f.room in omega arith);
      none = c.requires.none;
      room = subst (λ (l : Limits). LeaveRoom a.rows.now l.triples) (sym f.limits) c.requires.room;
      running = f.feeds.3;
      size = c.next_size-size.ensures;
      fed = (
        [],
        [] ++ f.feeds.0,
        batch_more g.S.Shelf a.shelf.now a.shelf.now c.feed_batch.new.shelf a.reader.now.limits a.reader.now c.feed_batch.new.reader (GoOn a.rows.now a.rows.now) [] [] start f.limits c.in_ok-at_end.at_end f.feeds,
        batch_all g.S.Shelf a.shelf.now a.shelf.now c.feed_batch.new.shelf a.reader.now.limits a.reader.now c.feed_batch.new.reader (GoOn a.rows.now a.rows.now) [] [] start f.limits c.in_ok-at_end.at_end f.feeds,
      );
    }

pub take_triples-requires : goal.take_triples-requires
take_triples-requires g c = c.batches.invariant.none

pub add-requires-after_bounds : goal.add-requires-after_bounds
add-requires-after_bounds g c κs within =
    let i = c.batches.invariant in
    let t = c.take_triples.ensures in
    taken_few c.take_triples.new.self c.args.rows.now c.batches.rows i.fed.0 c.take_triples.new.into i.fed.1 (t.running.1 i.running)
    (subst (λ (l : Limits). LeaveRoom c.args.rows.now l.triples) (sym t.limits) i.room) i.fed.2.stand (t.taken i.fed.0 i.fed.1 i.fed.2.has)

pub number_and_feed-requires-clause-names : goal.number_and_feed-requires-clause-names
number_and_feed-requires-clause-names g c κs within =
    let i = c.batches.invariant in
    let t = c.take_triples.ensures in
    taken_few c.take_triples.new.self c.args.rows.now c.batches.rows i.fed.0 c.take_triples.new.into i.fed.1 (t.running.1 i.running)
    (subst (λ (l : Limits). LeaveRoom c.args.rows.now l.triples) (sym t.limits) i.room) i.fed.2.stand (t.taken i.fed.0 i.fed.1 i.fed.2.has)

pub returns-in_err-add-clause-feeds : goal.returns-in_err-add-clause-feeds
returns-in_err-add-clause-feeds g c =
    let k = c.from_residual-in_err-add in
    let p = err_from_is_err_and k.result k.ensures.1 in
    rw (p.1, p.2) c.batches.invariant.count

pub returns-then-at_end-clause-feeds : goal.returns-then-at_end-clause-feeds
returns-then-at_end-clause-feeds g c =
    let i = c.batches.invariant in
    let t = c.take_triples.ensures in
    let rows = c.args.rows.now in
    let taken = fed_taken g.S.Shelf c.args.shelf.now c.batches.shelf c.args.reader.now.limits c.batches.reader c.take_triples.new.self (GoOn rows c.batches.rows) (GoOn rows c.add.new.self)
    i.fed.0 c.take_triples.new.into i.fed.1 i.fed.2 t.limits t.taken (λ done go. go_on_twice rows c.batches.rows c.add.new.self done c.take_triples.new.into go c.in_ok-add.ensures.stand) in (
      i.count,
      (i.fed.0 ++ c.take_triples.new.into, i.fed.1, taken.read, i.fed.3 c.if-at_end.true, taken.not_refused, taken.has, taken.stand),
    )

pub returns-in_err-at_end-2-clause-feeds : goal.returns-in_err-at_end-2-clause-feeds
returns-in_err-at_end-2-clause-feeds g c =
    let i = c.batches.invariant in
    let t = c.take_triples.ensures in
    let e = c.in_err-at_end-2 in
    let k = c.from_residual-in_err-at_end-2 in
    let p = err_from_is_err_and k.result k.ensures.1 in
    let now = i.fed.0 ++ c.take_triples.new.into in
    let Any : List Triple → Type 0 = λ triples. Unit {0} in
    let taken = fed_taken g.S.Shelf c.args.shelf.now c.batches.shelf c.args.reader.now.limits c.batches.reader c.take_triples.new.self (GoOn c.args.rows.now c.batches.rows) Any
    i.fed.0 c.take_triples.new.into i.fed.1 i.fed.2 t.limits t.taken (λ done go. tt) in
    rw (p.1, p.2) (batch_no_more g.S.Shelf c.args.shelf.now c.batches.shelf c.number_and_feed.new.shelf c.args.reader.now.limits c.take_triples.new.self c.number_and_feed.new.reader Any now i.fed.1
    taken e.ensures.limits i.count e.field-0.0 (GoOn c.args.rows.now c.number_and_feed.new.rows) e.ensures.feeds)

pub batches-preserved : goal.batches-preserved
batches-preserved g c =
    let i = c.batches.invariant in
    let t = c.take_triples.ensures in
    let f = c.in_ok-at_end-2.ensures in
    let rows = c.args.rows.now in
    let now = i.fed.0 ++ c.take_triples.new.into in
    let next = c.number_and_feed.new in
    let taken = fed_taken g.S.Shelf c.args.shelf.now c.batches.shelf c.args.reader.now.limits c.batches.reader c.take_triples.new.self (GoOn rows c.batches.rows) (GoOn rows next.rows)
    i.fed.0 c.take_triples.new.into i.fed.1 i.fed.2 t.limits t.taken (λ done go. go_on_twice rows c.batches.rows next.rows done c.take_triples.new.into go f.stand) in
    record {
      held = f.held ∙ i.held;
      asked = f.asked ∙ i.asked;
      count = f.feeds.1.count ∙ i.count;
      some = (let some = i.some in let room = f.room in omega arith);
      few = (let few = i.few in let room = f.room in omega arith);
      none = f.empty;
      room = subst (λ (l : Limits). LeaveRoom rows l.triples) (sym (f.limits ∙ t.limits)) i.room;
      running = f.feeds.3;
      size = c.next_size-size-in-batches.ensures;
      fed = (
        now,
        i.fed.1 ++ f.feeds.0,
        batch_more g.S.Shelf c.args.shelf.now c.batches.shelf next.shelf c.args.reader.now.limits c.take_triples.new.self next.reader (GoOn rows next.rows) now i.fed.1 taken f.limits c.in_ok-at_end-2.at_end f.feeds,
        batch_all g.S.Shelf c.args.shelf.now c.batches.shelf next.shelf c.args.reader.now.limits c.take_triples.new.self next.reader (GoOn rows next.rows) now i.fed.1 taken f.limits c.in_ok-at_end-2.at_end f.feeds,
      );
    }

pub batches-smaller : goal.batches-smaller
batches-smaller g c =
    let i = c.batches.invariant in
    let t = c.take_triples.ensures in
    let f = c.in_ok-at_end-2.ensures in
    let now = i.fed.0 ++ c.take_triples.new.into in
    rw c.if-at_end.false (batch_smaller c.batches.reader c.number_and_feed.new.reader i.fed.0 now i.fed.1 f.feeds.0 (AreAll g.S.Shelf c.batches.shelf f.feeds.0) c.in_ok-at_end-2.at_end
    (f.limits ∙ t.limits) i.running f.feeds.3 i.fed.2.has (f.feeds.1.fed now i.fed.1 (t.taken i.fed.0 i.fed.1 i.fed.2.has)) f.feeds.4)
