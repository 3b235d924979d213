-- What the run leaves follows from its ending, under the limits that the words ask for.
use Rattle.std.proofs.Common.{subst}
use Rattle.gkey_cmd.specs.Commands.{wanted}
use Rattle.gkey_cmd.specs.Run.{IsRun}
use Rattle.gkey_cmd.proofs.Running.{run_told}
use Rattle.gkey_cmd.proofs.top.run_gated.Goals as goal

pub returns : goal.returns
returns g c =
    let a = c.args in
    let d = c.decide-ending in
    let f = c.finish in
    subst (λ limits. IsRun g.S.Shelf g.O.Sink g.E.Sink (wanted a.words.now) limits a.shelf.now d.new.shelf a.out.now f.new.out a.err.now f.new.err f.result)
    c.of_words.ensures.limits
    (run_told g.S.Shelf g.O.Sink g.E.Sink a.shelf.now d.new.shelf a.out.now f.new.out a.err.now f.new.err
    (wanted a.words.now) c.of_words.result f.result d.result d.ensures.caused d.ensures.asks_no_files f.ensures)
