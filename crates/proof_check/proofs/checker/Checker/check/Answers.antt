-- The proof's terms are names now, and its steps are judged by their numbers.
use Rattle.std.proofs.Common.{List, [], ◌≡◌, All, map, length, sym, ap, ◌∙◌, subst}
use Rattle.std.proofs.lemmas.Result.{IfOk-weaker}
use Rattle.gk_base.specs.declared.term.Triple.{Triple}
use Rattle.key_file.specs.KeyFile.{IsKeyFile}
use Rattle.proof_file.specs.Steps.{StepNumbers, IsNumberedBelow}
use Rattle.proof_check.specs.Verdict.{verdict}
use Rattle.proof_check.specs.Ready.{IsMadeOf, IsReady, renumbered, verdict_with}
use Rattle.proof_check.specs.declared.checker.Checker.{Checker}
use Rattle.proof_check.proofs.SameVerdict.{one_each, numbers_inside, steps_same, steps_inside, same_verdict}
use Rattle.proof_check.proofs.checker.Checker.check.Goals as goal

pub judge_all-requires-clause-named : goal.judge_all-requires-clause-named
judge_all-requires-clause-named c =
    let told = c.in_ok-numbers.ensures in
    numbers_inside c.args.self.names c.number.new.self.names c.proof.inside.terms c.deref.result.now (ap (λ (now : Checker). now.names) told.grown) (c.deref.ensures.value ∙ told.numbers)

pub judge_all-requires-clause-inside : goal.judge_all-requires-clause-inside
judge_all-requires-clause-inside c =
    let told = c.in_ok-numbers.ensures in
    let count = one_each c.args.self.names c.number.new.self.names c.proof.inside.terms c.deref.result.now (ap (λ (now : Checker). now.names) told.grown) (c.deref.ensures.value ∙ told.numbers) in
    subst (All (IsNumberedBelow (length c.deref.result.now))) (sym c.deref-2.ensures.value) (subst (λ n. All (IsNumberedBelow n) c.proof.inside.steps.items) (sym count) c.proof.invariant.inside)

pub returns : goal.returns
returns c =
    let terms = c.proof.inside.terms in
    let steps = c.proof.inside.steps.items in
    let inside = c.proof.invariant.inside in
    let numbers = c.deref.result.now in
    let keys = c.args.keys.now in
    let before = c.args.self in
    let checker = c.number.new.self in
    let told = c.in_ok-numbers.ensures in
    let grown = ap (λ (now : Checker). now.names) told.grown in
    let are = c.deref.ensures.value ∙ told.numbers in
    let file : IsKeyFile keys = record { few = c.keys.ensures.few; names_differ = c.keys.ensures.names_differ; valid = c.keys.ensures.valid } in
    let same : (triples : List Triple) → IsReady before triples keys → verdict_with checker c.keys.result.now [] (map (renumbered numbers) c.deref-2.result.now) ≡ verdict triples keys c.args.proof.now =
    λ triples ready.
    let made : IsMadeOf checker triples keys = subst (λ (now : Checker). IsMadeOf now triples keys) (sym told.grown) (ready terms) in
    ap (λ k. verdict_with checker k [] (map (renumbered numbers) c.deref-2.result.now)) c.keys.ensures.keys
    ∙ ap (λ (s : List StepNumbers). verdict_with checker keys [] (map (renumbered numbers) s)) c.deref-2.ensures.value
    ∙ same_verdict triples keys checker made file (map (renumbered numbers) steps) (steps_inside before.names checker.names terms numbers grown are steps inside)
    ∙ ap (verdict triples keys) (steps_same before.names checker.names terms numbers grown are steps inside ∙ c.proof.view_is) in
    IfOk-weaker c.judge_all.result _ _ (λ v is triples ready. is ∙ same triples ready) c.judge_all.ensures
