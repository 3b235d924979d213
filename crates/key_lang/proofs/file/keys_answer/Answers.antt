use Rattle.std.proofs.Common.{arith}
use Rattle.std.proofs.lemmas.Result.{err_from_is_err_and}
use Rattle.key_lang.proofs.KeysLemmas.{front_stop, keys_long, rest_stop_told, keys_whole}
use Rattle.key_lang.proofs.file.keys_answer.Goals as goal

pub returns-in_err-seen : goal.returns-in_err-seen
returns-in_err-seen c =
    let p = err_from_is_err_and c.from_residual.result c.from_residual.ensures.1 in
    rw (p.1, p.2) (front_stop c.args.limit c.args.bytes.now c.front.result.now c.in_err-seen.field-0.0 c.front.ensures c.in_err-seen.ensures)

pub returns-then-limit-bytes : goal.returns-then-limit-bytes
returns-then-limit-bytes c =
    keys_long c.args.limit c.args.bytes.now c.front.result.now c.in_ok-seen.seen c.next_line.result c.front.ensures c.in_ok-seen.ensures c.if-limit-bytes.true c.next_line.ensures

pub returns : goal.returns
returns c =
    keys_whole c.args.limit c.args.bytes.now c.in_ok-see_rest.field-0 c.keys_of.result (omega (arith, c.if-limit-bytes.false)) c.in_ok-see_rest.ensures c.keys_of.ensures

pub returns-in_err-see_rest : goal.returns-in_err-see_rest
returns-in_err-see_rest c =
    let p = err_from_is_err_and c.from_residual-in_err-see_rest.result c.from_residual-in_err-see_rest.ensures.1 in
    rw (p.1, p.2) (rest_stop_told c.args.limit c.args.bytes.now c.in_err-see_rest.field-0.0 (omega (arith, c.if-limit-bytes.false)) c.in_err-see_rest.ensures)
