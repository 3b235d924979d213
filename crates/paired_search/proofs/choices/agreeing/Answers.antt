-- The names before the first one that agrees do not.
use Rattle.std.proofs.Common.{◌≡◌, get_or, sym, ◌∙◌, subst, arith}
use Rattle.std.proofs.lemmas.List.{get_or_default}
use Rattle.chase_laws.specs.Valuation.{FitsSlot, AgreeAt}
use Rattle.paired_search.proofs.Names.{contains_from}
use Rattle.paired_search.proofs.choices.agreeing.Goals as goal

pub returns-then-agree-clause-all : goal.returns-then-agree-clause-all
returns-then-agree-clause-all g c = λ n found fit_m fit_n agrees.
    contains_from c.args.names.now c.loop-place.place n found (λ k before e. c.loop-place.invariant k before fit_m
    (subst (FitsSlot c.args.graph.now c.args.slot) (sym e) fit_n)
    (subst (AgreeAt c.args.graph.now (g.S.Sameness.are_same c.args.view.now) c.args.s c.args.slot c.args.m) (sym e) agrees))

pub returns-clause-all : goal.returns-clause-all
returns-clause-all g c = λ n found fit_m fit_n agrees.
    let within = found.1 in
    let e : get_or c.args.names.now found.0 0 ≡ n = get_or_default c.args.names.now found.0 0 n within ∙ found.2 in
    absurd (c.loop-place.invariant found.0 (omega (arith, c.loop-place-test.false)) fit_m
    (subst (FitsSlot c.args.graph.now c.args.slot) (sym e) fit_n)
    (subst (AgreeAt c.args.graph.now (g.S.Sameness.are_same c.args.view.now) c.args.s c.args.slot c.args.m) (sym e) agrees))
