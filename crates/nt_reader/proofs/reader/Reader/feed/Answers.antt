use Rattle.std.proofs.Common.{◌++◌, Err}
use Rattle.nt_reader.proofs.OpenLemmas.{fed_open, fed_refused, standing, stopped_for_good, piece_fed}
use Rattle.nt_reader.proofs.reader.Reader.feed.Goals as goal

pub returns-then-not-self-clause-refused : goal.returns-then-not-self-clause-refused
returns-then-not-self-clause-refused c =
    let r = c.self.inside in
    λ n taken seen h.
    fed_refused {A = Unit {0}} c.args.self.now.limits (seen ++ c.args.piece.now) (Err r.stop)
    (stopped_for_good c.args.self.now r.limits r.running r.state r.stop c.self.view_is c.if-not-self.true taken seen c.args.piece.now h) n

pub returns-in-Ok-clause-read : goal.returns-in-Ok-clause-read
returns-in-Ok-clause-read c =
    let r = c.self.inside in
    λ taken seen h.
    c.in-Ok.ensures.takes taken seen (standing c.args.self.now r.limits r.running r.state r.stop c.self.view_is c.if-not-self.false taken seen h)

pub returns-in-Ok-clause-open : goal.returns-in-Ok-clause-open
returns-in-Ok-clause-open c =
    let r = c.self.inside in
    let f = c.feed_state-answer in
    λ ok taken seen h.
    fed_open {A = Unit {0}} c.args.self.now.limits (seen ++ c.args.piece.now) f.result
    (piece_fed c.args.self.now r.limits r.running r.state r.stop c.self.view_is f.new.state c.args.piece.now f.result c.if-not-self.false f.ensures.takes taken seen h) ok

pub returns-in-Ok-clause-refused : goal.returns-in-Ok-clause-refused
returns-in-Ok-clause-refused c =
    let r = c.self.inside in
    let f = c.feed_state-answer in
    λ n taken seen h.
    fed_refused {A = Unit {0}} c.args.self.now.limits (seen ++ c.args.piece.now) f.result
    (piece_fed c.args.self.now r.limits r.running r.state r.stop c.self.view_is f.new.state c.args.piece.now f.result c.if-not-self.false f.ensures.takes taken seen h) n

pub returns-in-Err-clause-read : goal.returns-in-Err-clause-read
returns-in-Err-clause-read c =
    let r = c.self.inside in
    λ taken seen h.
    c.in-Err.ensures.takes taken seen (standing c.args.self.now r.limits r.running r.state r.stop c.self.view_is c.if-not-self.false taken seen h)

pub returns-in-Err-clause-refused : goal.returns-in-Err-clause-refused
returns-in-Err-clause-refused c =
    let r = c.self.inside in
    let f = c.feed_state-answer in
    λ n taken seen h.
    fed_refused {A = Unit {0}} c.args.self.now.limits (seen ++ c.args.piece.now) (Err c.in-Err.stop)
    (piece_fed c.args.self.now r.limits r.running r.state r.stop c.self.view_is {A = Unit {0}} f.new.state c.args.piece.now (Err c.in-Err.stop) c.if-not-self.false c.in-Err.ensures.takes taken seen h) n
