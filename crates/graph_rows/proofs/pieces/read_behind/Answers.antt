use Rattle.std.proofs.Common.{List, ℕ, Some, Ok, ◌∙◌, refl, sym, ap, subst}
use Rattle.std.proofs.lemmas.Result.{err_from_is_err_and}
use Rattle.graph_rows.specs.Rows.{GoOn, LeaveRoom}
use Rattle.graph_rows.specs.Feeding.{ReadsBehind}
use Rattle.graph_rows.specs.declared.rows.Rows.{Rows}
use Rattle.graph_rows.proofs.FeedingLemmas.{mapped_stop, ok_from_cases, gives_no_more, gives_nothing, reads_behind, last_few, finish_says}
use Rattle.graph_rows.proofs.pieces.read_behind.Goals as goal

pub returns-in_err-feed_in_batches-clause-reads : goal.returns-in_err-feed_in_batches-clause-reads
returns-in_err-feed_in_batches-clause-reads g c =
    let a = c.args in
    let o = c.in_ok-find.ensures in
    let named = c.in_ok-copy.ensures in
    let f = c.in_err-feed_in_batches.ensures in
    let p = err_from_is_err_and c.from_residual-in_err-feed_in_batches.result c.from_residual-in_err-feed_in_batches.ensures.1 in
    rw (p.1, p.2) (gives_no_more g.S.Shelf a.shelf.now c.find.new.self c.feed_in_batches.new.shelf a.limits.now a.name.now
    (o.cause.ok refl) (f.asked ∙ o.asked ∙ ap (λ (n : List ℕ). Some n) named) (rw named at o.found) c.in_err-feed_in_batches.field-0.0 c.new-reader.result.limits c.feed_in_batches.new.reader (GoOn c.expect.new.self c.feed_in_batches.new.rows) c.new-reader.ensures.limits f.feeds)

pub returns-in_err-last-clause-reads : goal.returns-in_err-last-clause-reads
returns-in_err-last-clause-reads g c =
    let a = c.args in
    let o = c.in_ok-find.ensures in
    let named = c.in_ok-copy.ensures in
    let f = c.in_ok-feed_in_batches.ensures in
    let p = err_from_is_err_and c.from_residual-in_err-last.result c.from_residual-in_err-last.ensures.1 in
    let m = mapped_stop c.finish.result c.in_err-last.field-0.0 c.in_err-last.ensures.cases in
    rw (p.1, p.2, m.2) (gives_nothing g.S.Shelf a.shelf.now c.find.new.self c.feed_in_batches.new.shelf a.limits.now a.name.now
    (o.cause.ok refl) (f.asked ∙ o.asked ∙ ap (λ (n : List ℕ). Some n) named) (rw named at o.found) m.0 c.new-reader.result.limits c.feed_in_batches.new.reader (GoOn c.expect.new.self c.feed_in_batches.new.rows) c.new-reader.ensures.limits f.limits f.feeds (rw m.1 at c.finish.ensures.says))

pub add-requires-after_bounds : goal.add-requires-after_bounds
add-requires-after_bounds g c κs within =
    let a = c.args in
    let o = c.in_ok-find.ensures in
    let named = c.in_ok-copy.ensures in
    let f = c.in_ok-feed_in_batches.ensures in
    let m = ok_from_cases c.finish.result c.map_err.result c.in_ok-last.last c.map_err.ensures.cases c.in_ok-last.was in
    last_few g.S.Shelf a.shelf.now c.find.new.self c.feed_in_batches.new.shelf a.limits.now a.name.now
    (o.cause.ok refl) (f.asked ∙ o.asked ∙ ap (λ (n : List ℕ). Some n) named) (rw named at o.found) c.in_ok-last.last c.new-reader.result.limits c.feed_in_batches.new.reader c.expect.new.self c.feed_in_batches.new.rows c.new-reader.ensures.limits f.limits f.feeds
    (finish_says c.feed_in_batches.new.reader c.in_ok-last.last a.limits.now f.feeds.1.0 f.feeds.1.1 (f.limits ∙ c.new-reader.ensures.limits) f.feeds.1.5 (rw m at c.finish.ensures.says)) (subst (λ (r : Rows). LeaveRoom r a.limits.now.triples) (sym c.expect.ensures) c.requires.room)

pub returns-clause-reads : goal.returns-clause-reads
returns-clause-reads g c =
    let a = c.args in
    let o = c.in_ok-find.ensures in
    let named = c.in_ok-copy.ensures in
    let f = c.in_ok-feed_in_batches.ensures in
    let m = ok_from_cases c.finish.result c.map_err.result c.in_ok-last.last c.map_err.ensures.cases c.in_ok-last.was in
    subst (λ (r : Rows). ReadsBehind {A = Unit {0}} g.S.Shelf a.shelf.now c.feed_in_batches.new.shelf a.limits.now a.name.now r c.add.new.self (Ok tt)) c.expect.ensures
    (reads_behind g.S.Shelf a.shelf.now c.find.new.self c.feed_in_batches.new.shelf a.limits.now a.name.now
    (o.cause.ok refl) (f.asked ∙ o.asked ∙ ap (λ (n : List ℕ). Some n) named) (rw named at o.found) c.in_ok-last.last c.new-reader.result.limits c.feed_in_batches.new.reader c.expect.new.self c.feed_in_batches.new.rows c.new-reader.ensures.limits f.limits f.feeds
    (finish_says c.feed_in_batches.new.reader c.in_ok-last.last a.limits.now f.feeds.1.0 f.feeds.1.1 (f.limits ∙ c.new-reader.ensures.limits) f.feeds.1.5 (rw m at c.finish.ensures.says)) c.add.new.self c.in_ok-add.ensures.stand)
