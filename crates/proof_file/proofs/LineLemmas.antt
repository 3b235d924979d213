-- A proof file after one more line.
use Rattle.std.proofs.Common.{List, [], ◌∷◌, ◌++◌, ℕ, ◌-◌, ◌<◌, Option, None, Result, Ok, Err, Vec, All, IsUtf8, codes, map, length, ◌≡◌, refl, sym, ap, ap₂, subst, ◌∙◌}
use Rattle.std.specs.declared.alloc.Global.{Global}
use Rattle.std.proofs.lemmas.List.{map_push}
use Rattle.std.proofs.lemmas.List.Elements.{All-push}
use Rattle.gk_base.specs.declared.term.Term.{Term}
use Rattle.gk_base.specs.declared.stop.Stop.TheVariants.{NoMemory, Fault}
use Rattle.key_file.specs.Compile.{HasMoreNames}
use Rattle.proof_file.specs.Steps.{SupportShape, StepNumbers, term_at, step_with, IsNumberedBelow}
use Rattle.proof_file.specs.ProofText as text
use Rattle.proof_file.specs.ProofText.{StageShape, AtTerm, AtStep, AtLeft, AtRight, AtSupport, ProofState, SideSays, stage_of_terms, after_term, after_left, after_right, after_support_or_done, StageSays, ProofLineSays}
use Rattle.proof_file.specs.declared.fault.ProofFault.{ProofFault}
use Rattle.proof_file.specs.declared.stage.Stage.{Stage}
use Rattle.proof_file.specs.declared.stage.Stage.TheVariants as stage
use Rattle.proof_file.specs.declared.progress.Known.{Known}
use Rattle.proof_file.specs.declared.progress.Progress.{Progress}
use Rattle.proof_file.specs.Progress.{ProofLineStop, AreBelow, SideTold, stage_with, state_with, progress_with, IsKnownBelow, IsStageBelow, IsBelow, IsDone}
use Rattle.proof_file.proofs.SideLemmas.{terms_stay, below_stays}
use Rattle.proof_file.proofs.ProgressLemmas.{steps_stay, known_below_stays, known_stays}

-- the file with one step more, and before the next
abbrev step_came : Known → Vec StepNumbers Global → Progress
step_came known steps = record { known = record { version = known.version; listed = known.listed; steps = steps }; stage = stage.Step }

-- a step is done
pub step_done : (names : List Term) (known : Known) (step : StepNumbers) (steps : Vec StepNumbers Global) (said : Result (Option SupportShape) ProofFault) → steps.items ≡ known.steps.items ++ step ∷ [] → Ok None ≡ said →
    IsKnownBelow (length names) known → IsNumberedBelow (length names) step →
    (Ok (progress_with names (step_came known steps)) ≡ after_support_or_done (state_with names known (AtSupport (step_with names step))) (step_with names step) said) × IsBelow (length names) (step_came known steps)
step_done names known step steps said is says below inside = (
  ap (λ ss. Ok (record { version = known.version; terms = map (term_at names) known.listed.items; steps = ss; stage = AtStep })) (ap (map (step_with names)) is ∙ map_push (step_with names) known.steps.items step)
      ∙ ap (after_support_or_done (state_with names known (AtSupport (step_with names step))) (step_with names step)) says,
  record {
    known = record {
      listed = below.listed;
      steps = subst (All (IsNumberedBelow (length names))) (sym is) (All-push (IsNumberedBelow (length names)) known.steps.items step below.steps inside);
    };
    stage = tt;
  },
)

-- the file with one term more
abbrev term_came : Known → Vec ℕ Global → Stage → Progress
term_came known listed s = record { known = record { version = known.version; listed = listed; steps = known.steps }; stage = s }

-- a term is listed
pub term_done : (names more : List Term) (known : Known) (count number : ℕ) (listed : Vec ℕ Global) (s : Stage) → listed.items ≡ known.listed.items ++ number ∷ [] → HasMoreNames names more → IsKnownBelow (length names) known →
    number < length more → stage_with more s ≡ stage_of_terms (count - 1) → IsStageBelow (length more) s →
    (Ok (progress_with more (term_came known listed s)) ≡ after_term (state_with names known (AtTerm count)) count (Ok (term_at more number))) × IsBelow (length more) (term_came known listed s)
term_done names more known count number listed s is grown below named at inside =
    let terms : map (term_at more) listed.items ≡ map (term_at names) known.listed.items ++ term_at more number ∷ [] =
    ap (map (term_at more)) is ∙ map_push (term_at more) known.listed.items number ∙ ap (λ ts. ts ++ term_at more number ∷ []) (terms_stay names more known.listed.items grown below.listed)
    in
    let steps = steps_stay names more grown known.steps.items below.steps in
    let later = known_below_stays names more grown known below in (
      λ i. Ok (record { version = known.version; terms = terms i; steps = steps i; stage = at i }),
      record {
        known = record {
          listed = subst (AreBelow (length more)) (sym is) (All-push (λ n. n < length more) known.listed.items number later.listed named);
          steps = later.steps;
        };
        stage = inside;
      },
    )

-- a left side has come
pub left_done : (names more : List Term) (known : Known) (key line : List ℕ) (left : Vec ℕ Global) → HasMoreNames names more → IsKnownBelow (length names) known →
    SideTold more (SideSays (codes "left") line (map (term_at names) known.listed.items) known.version) (Ok left) →
    IsDone more (StageSays (state_with names known (AtLeft key)) (AtLeft key) line) (Ok (record { known = known; stage = stage.Right key left }))
left_done names more known key line left grown below told = (
  (Ok (map (term_at more) left.items), told.0, ap Ok (known_stays names more grown known (AtRight key (map (term_at more) left.items)) below)),
  record { known = known_below_stays names more grown known below; stage = told.1 },
)

-- a right side has come
pub right_done : (names more : List Term) (known : Known) (key line : List ℕ) (left right : Vec ℕ Global) (supports : Vec SupportShape Global) → supports.items ≡ [] → HasMoreNames names more → IsKnownBelow (length names) known →
    AreBelow (length names) left.items → SideTold more (SideSays (codes "right") line (map (term_at names) known.listed.items) known.version) (Ok right) →
    IsDone more (StageSays (state_with names known (AtRight key (map (term_at names) left.items))) (AtRight key (map (term_at names) left.items)) line)
    (Ok (record { known = known; stage = stage.Support (record { key = key; left = left.items; right = right.items; supports = supports.items }) }))
right_done names more known key line left right supports none grown below inside told = (
  (
    Ok (map (term_at more) right.items),
    told.0,
    ap Ok (known_stays names more grown known (AtSupport (record { key = key; left = map (term_at more) left.items; right = map (term_at more) right.items; supports = supports.items })) below
        ∙ ap₂ (λ l s. state_with names known (AtSupport (record { key = key; left = l; right = map (term_at more) right.items; supports = s }))) (terms_stay names more left.items grown inside) none),
  ),
  record { known = known_below_stays names more grown known below; stage = (below_stays names more left.items grown inside, told.1) },
)

-- a right side was not read
pub right_stops : (names : List Term) (p : ProofState) (key line : List ℕ) (left : List Term) (stop : ProofLineStop) → SideTold names (SideSays (codes "right") line p.terms p.version) (Err stop) →
    IsDone names (StageSays p (AtRight key left) line) (Err stop)
right_stops names p key line left NoMemory told = tt
right_stops names p key line left (Fault fault) told = (Err fault, told, refl)

-- a line of text says what it says where it stands
pub text_done : (names : List Term) (p : ProofState) (line : List ℕ) (r : Result Progress ProofLineStop) → IsUtf8 line → IsDone names (StageSays p p.stage line) r → IsDone names (ProofLineSays p line) r
text_done names p line (Ok next) utf8 done = (text.in_utf8 utf8 done.0, done.1)
text_done names p line (Err NoMemory) utf8 done = tt
text_done names p line (Err (Fault fault)) utf8 done = text.in_utf8 utf8 done
