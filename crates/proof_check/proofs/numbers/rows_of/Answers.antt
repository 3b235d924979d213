-- Triple by triple.
use Rattle.std.proofs.Common.{◌∙◌, arith}
use Rattle.proof_check.proofs.NumberLemmas.{rows_next, numbers_of_triples}
use Rattle.proof_check.proofs.numbers.rows_of.Goals as goal

pub bounds-numbers-at : goal.bounds-numbers-at
bounds-numbers-at c =
    let size = numbers_of_triples c.args.names.now c.args.triples.now c.args.numbers.now c.requires in
    let count = c.len-place-end.ensures in
    let within = c.loop-place-test.true in
    omega arith

pub bounds-numbers-at-in-loop-place : goal.bounds-numbers-at-in-loop-place
bounds-numbers-at-in-loop-place c =
    let size = numbers_of_triples c.args.names.now c.args.triples.now c.args.numbers.now c.requires in
    let count = c.len-place-end.ensures in
    let within = c.loop-place-test.true in
    omega arith

pub bounds-numbers-at-in-loop-place-2 : goal.bounds-numbers-at-in-loop-place-2
bounds-numbers-at-in-loop-place-2 c =
    let size = numbers_of_triples c.args.names.now c.args.triples.now c.args.numbers.now c.requires in
    let count = c.len-place-end.ensures in
    let within = c.loop-place-test.true in
    omega arith

pub loop-place-preserved : goal.loop-place-preserved
loop-place-preserved c =
    let count = c.len-place-end.ensures in
    let within = c.loop-place-test.true in
    c.in_ok-push.ensures.items ∙ rows_next c.args.names.now c.args.triples.now c.args.numbers.now c.loop-place.place c.loop-place.rows.items (omega arith) c.requires c.loop-place.invariant
