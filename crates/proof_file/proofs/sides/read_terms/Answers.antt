use Rattle.std.proofs.Common.{[], map, sym, ◌∙◌, append-nil}
use Rattle.std.proofs.lemmas.Result.{err_from_is_err_and}
use Rattle.proof_file.specs.Steps.{term_at}
use Rattle.proof_file.proofs.SideLemmas.{names_come, terms_begin, terms_more, terms_end, no_term_there, terms_stop}
use Rattle.proof_file.proofs.sides.read_terms.Goals as goal

pub loop-next-init : goal.loop-next-init
loop-next-init c =
    let begin = terms_begin c.args.terms.now c.args.line.now c.args.at c.skip_space-next.result c.new-numbers.result.items c.new-numbers.ensures.items c.skip_space-next.ensures in
    record { grown = ([], sym (append-nil c.args.terms.now)); below = begin.0; run = begin.1.0; on = begin.1.1 }

pub returns-then-not-begins_term-clause-told : goal.returns-then-not-begins_term-clause-told
returns-then-not-begins_term-clause-told c =
    let before = c.loop-next.invariant in
    no_term_there c.args.line.now c.args.at c.loop-next.next (map (term_at c.loop-next.terms) c.loop-next.numbers.items) before.run before.on c.loop-next-test.true (sym c.begins_term.ensures ∙ c.if-not-begins_term.true)

pub returns-in_err-number-clause-told : goal.returns-in_err-number-clause-told
returns-in_err-number-clause-told c =
    let before = c.loop-next.invariant in
    let p = err_from_is_err_and c.from_residual.result c.from_residual.ensures.1 in
    rw (p.1, p.2)
    (terms_stop c.loop-next.terms c.read_term.new.terms c.args.line.now c.args.at c.loop-next.next (map (term_at c.loop-next.terms) c.loop-next.numbers.items) c.in_err-number.field-0.0 before.run before.on
    (sym c.begins_term.ensures ∙ c.if-not-begins_term.false) c.in_err-number.ensures.told)

pub loop-next-preserved : goal.loop-next-preserved
loop-next-preserved c =
    let before = c.loop-next.invariant in
    let read = c.in_ok-number.ensures in
    let more = terms_more c.loop-next.terms c.read_term.new.terms c.args.line.now c.args.at c.loop-next.next c.in_ok-number.end c.skip_space-next-in-loop-next.result c.loop-next.numbers.items c.in_ok-number.number c.push.new.self.items
    c.in_ok-push.ensures.items read.grown before.below before.run before.on (sym c.begins_term.ensures ∙ c.if-not-begins_term.false) read.told c.skip_space-next-in-loop-next.ensures
    in
    record { grown = names_come c.args.terms.now c.loop-next.terms c.read_term.new.terms before.grown read.grown; below = more.0; run = more.1.0; on = more.1.1 }

pub returns-clause-told : goal.returns-clause-told
returns-clause-told c =
    let before = c.loop-next.invariant in
    (terms_end c.args.line.now c.args.at c.loop-next.next (map (term_at c.loop-next.terms) c.loop-next.numbers.items) before.run before.on c.loop-next-test.false, before.below)
