use Rattle.std.proofs.Common.{length, sym, subst}
use Rattle.proof_file.specs.ProofText.{StageSays}
use Rattle.proof_file.specs.Progress.{stage_with, state_with, IsStageBelow, IsDone}
use Rattle.proof_file.proofs.line.at_stage.Goals as goal

pub returns-in-Header-clause-done : goal.returns-in-Header-clause-done
returns-in-Header-clause-done c =
    let names = c.args.terms.now in
    subst (λ s. IsDone names (StageSays (state_with names c.args.progress.known (stage_with names s)) (stage_with names s) c.args.line.now) c.at_header.result) (sym c.in-Header.is)
    (c.at_header.ensures names c.requires.below.known)

pub returns-in-Count-clause-done : goal.returns-in-Count-clause-done
returns-in-Count-clause-done c =
    let names = c.args.terms.now in
    subst (λ s. IsDone names (StageSays (state_with names c.args.progress.known (stage_with names s)) (stage_with names s) c.args.line.now) c.at_count.result) (sym c.in-Count.is)
    (c.at_count.ensures names c.requires.below.known)

pub returns-in-Step-clause-done : goal.returns-in-Step-clause-done
returns-in-Step-clause-done c =
    let names = c.args.terms.now in
    subst (λ s. IsDone names (StageSays (state_with names c.args.progress.known (stage_with names s)) (stage_with names s) c.args.line.now) c.at_step.result) (sym c.in-Step.is)
    (c.at_step.ensures names c.requires.below.known)

pub returns-in-Support-clause-done : goal.returns-in-Support-clause-done
returns-in-Support-clause-done c =
    let names = c.args.terms.now in
    subst (λ s. IsDone names (StageSays (state_with names c.args.progress.known (stage_with names s)) (stage_with names s) c.args.line.now) c.at_support.result) (sym c.in-Support.is)
    (c.at_support.ensures names c.requires.below.known (subst (IsStageBelow (length names)) c.in-Support.is c.requires.below.stage))

pub returns-in-End-clause-done : goal.returns-in-End-clause-done
returns-in-End-clause-done c =
    let names = c.args.terms.now in
    subst (λ s. IsDone names (StageSays (state_with names c.args.progress.known (stage_with names s)) (stage_with names s) c.args.line.now) c.at_end.result) (sym c.in-End.is)
    (c.at_end.ensures names c.requires.below.known)
