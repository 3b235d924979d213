-- What has come of a proof file, as names come.
use Rattle.std.proofs.Common.{List, [], ◌∷◌, All, map, length, ◌≡◌, refl, ap, ap₂}
use Rattle.std.proofs.lemmas.List.Elements.{All-head, All-tail, All-weaker}
use Rattle.gk_base.specs.declared.term.Term.{Term}
use Rattle.key_file.specs.Compile.{HasMoreNames}
use Rattle.proof_file.specs.Steps.{StepNumbers, step_with, IsNumberedBelow}
use Rattle.proof_file.specs.ProofText as text
use Rattle.proof_file.specs.ProofText.{StageShape, ProofState}
use Rattle.proof_file.specs.declared.stage.Stage.{Stage}
use Rattle.proof_file.specs.declared.stage.Stage.TheVariants as stage
use Rattle.proof_file.specs.declared.progress.Known.{Known}
use Rattle.proof_file.specs.Progress.{stage_with, state_with, IsKnownBelow, IsStageBelow}
use Rattle.proof_file.proofs.SideLemmas.{terms_stay, below_stays}

module _ (names more : List Term) (grown : HasMoreNames names more) where
  step_stays : (step : StepNumbers) → IsNumberedBelow (length names) step → step_with more step ≡ step_with names step
  step_stays step below =
      let l = terms_stay names more step.left grown below.0 in
      let r = terms_stay names more step.right grown below.1 in
      λ i. record { key = step.key; left = l i; right = r i; supports = step.supports }

  pub steps_stay : (steps : List StepNumbers) → All (IsNumberedBelow (length names)) steps → map (step_with more) steps ≡ map (step_with names) steps
  steps_stay [] below = refl
  steps_stay (step ∷ steps) below =
      let P : StepNumbers → Type 0 = IsNumberedBelow (length names) in
      ap₂ (λ s ss. s ∷ ss) (step_stays step (All-head P step steps below)) (steps_stay steps (All-tail P step steps below))

  step_below_stays : (step : StepNumbers) → IsNumberedBelow (length names) step → IsNumberedBelow (length more) step
  step_below_stays step below = (below_stays names more step.left grown below.0, below_stays names more step.right grown below.1)

  pub known_below_stays : (known : Known) → IsKnownBelow (length names) known → IsKnownBelow (length more) known
  known_below_stays known below = record {
    listed = below_stays names more known.listed.items grown below.listed;
    steps = All-weaker (IsNumberedBelow (length names)) (IsNumberedBelow (length more)) step_below_stays known.steps.items below.steps;
  }

  pub known_stays : (known : Known) (s : StageShape) → IsKnownBelow (length names) known → state_with more known s ≡ state_with names known s
  known_stays known s below =
      let l = terms_stay names more known.listed.items grown below.listed in
      let t = steps_stay known.steps.items below.steps in
      λ i. record { version = known.version; terms = l i; steps = t i; stage = s }

  pub stage_stays : (s : Stage) → IsStageBelow (length names) s → stage_with more s ≡ stage_with names s
  stage_stays stage.Header below = refl
  stage_stays stage.Count below = refl
  stage_stays (stage.Term n) below = refl
  stage_stays stage.Step below = refl
  stage_stays (stage.Left key) below = refl
  stage_stays (stage.Right key left) below = ap (text.AtRight key) (terms_stay names more left.items grown below)
  stage_stays (stage.Support step) below = ap text.AtSupport (step_stays step below)
  stage_stays stage.End below = refl

  pub stage_below_stays : (s : Stage) → IsStageBelow (length names) s → IsStageBelow (length more) s
  stage_below_stays stage.Header below = tt
  stage_below_stays stage.Count below = tt
  stage_below_stays (stage.Term n) below = tt
  stage_below_stays stage.Step below = tt
  stage_below_stays (stage.Left key) below = tt
  stage_below_stays (stage.Right key left) below = below_stays names more left.items grown below
  stage_below_stays (stage.Support step) below = step_below_stays step below
  stage_below_stays stage.End below = tt
