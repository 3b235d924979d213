-- Rows that stand for triples are these in numbers.
use Rattle.proof_check.specs.Rows.{IsGraphInNumbers}
use Rattle.gkey_cmd.proofs.check_command.checker_of.Goals as goal

pub returns-clause-ready : goal.returns-clause-ready
returns-clause-ready c = λ triples stand.
    let rows = c.args.read.rows in
    let graph : IsGraphInNumbers rows.names rows.rows.items triples = record { names_are = stand.names; rows_are = stand.rows } in
    c.in_ok-checker.ensures triples graph
