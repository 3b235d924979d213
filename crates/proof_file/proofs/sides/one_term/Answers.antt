use Rattle.std.proofs.Common.{sym, subst, ◌∙◌}
use Rattle.std.proofs.lemmas.Result.{err_from_is_err_and}
use Rattle.nt_lex.specs.Chars.{is_blank}
use Rattle.nt_lex.specs.Scans.{IsRunAt}
use Rattle.proof_file.specs.ProofText as text
use Rattle.proof_file.proofs.SideLemmas.{one_term_stops}
use Rattle.proof_file.proofs.sides.one_term.Goals as goal

pub returns-then-not-begins_term-clause-told : goal.returns-then-not-begins_term-clause-told
returns-then-not-begins_term-clause-told c = text.not_a_term c.skip_space-at.ensures (sym c.begins_term.ensures ∙ c.if-not-begins_term.true)

pub returns-in_err-number-clause-told : goal.returns-in_err-number-clause-told
returns-in_err-number-clause-told c =
    let p = err_from_is_err_and c.from_residual.result c.from_residual.ensures.1 in
    rw (p.1, p.2)
    (one_term_stops c.read_term.new.terms c.args.line.now c.skip_space-at.result c.in_err-number.field-0.0 c.skip_space-at.ensures (sym c.begins_term.ensures ∙ c.if-not-begins_term.false) c.in_err-number.ensures.told)

pub returns-then-skip_space-line-clause-told : goal.returns-then-skip_space-line-clause-told
returns-then-skip_space-line-clause-told c =
    text.followed c.skip_space-at.ensures (sym c.begins_term.ensures ∙ c.if-not-begins_term.false) c.in_ok-number.ensures.told.says c.skip_space.ensures c.if-skip_space-line.true

pub returns-clause-told : goal.returns-clause-told
returns-clause-told c = (
  text.only_term c.skip_space-at.ensures (sym c.begins_term.ensures ∙ c.if-not-begins_term.false) c.in_ok-number.ensures.told.says
      (subst (IsRunAt is_blank c.args.line.now c.in_ok-number.end) c.if-skip_space-line.false c.skip_space.ensures),
  c.in_ok-number.ensures.told.below,
)
