-- What causes the ending of a run whose command asks the shelf for nothing.
use Rattle.std.proofs.Common.{ℕ, Option, Some, Result, Ok, Err, IfOk, MatchResult, Vec, Global, vec_items, ◌≡◌, refl, sym, subst}
use Rattle.gk_base.specs.declared.limits.Limits.{Limits}
use Rattle.gk_base.specs.declared.memory.NoMemory.{NoMemory as Wants}
use Rattle.gk_io.specs.declared.shelf.Shelf
use Rattle.gkey_cmd.specs.Commands.{Wanted, Demonstrating, Helping, TellingVersion}
use Rattle.gkey_cmd.specs.Texts.{help_text, version_text}
use Rattle.gkey_cmd.specs.Endings.{DemoStops, Caused}
use Rattle.gkey_cmd.specs.declared.ending.Answer.TheVariants.{Given}
use Rattle.gkey_cmd.specs.declared.ending.Ending.{Ending}
use Rattle.gkey_cmd.specs.declared.ending.Ending.TheVariants.{NoCommand, Failed, Refused, NoMemory, Done}

-- a demo causes the run's ending
pub demo_caused : {K : Type 0} (shelf : Shelf.Ghosts K) (at : K) (limits : Limits) (command : Option Wanted) (n : ℕ) → command ≡ Some (Demonstrating n) →
    (ending : Ending) → DemoStops n limits ending → Caused shelf at at command limits ending
demo_caused shelf at limits command n is NoCommand h = absurd h
demo_caused shelf at limits command n is (Failed file) h = absurd h
demo_caused shelf at limits command n is (Refused refusal) h = (Demonstrating n, is, (refl, h, refl))
demo_caused shelf at limits command n is NoMemory h = (Demonstrating n, is, refl)
demo_caused shelf at limits command n is (Done answer text) h = (Demonstrating n, is, (refl, h, refl))

-- help and version go by no file: each causes the run's ending with its text, or with want of memory for it
pub help_caused : {K : Type 0} (shelf : Shelf.Ghosts K) (at : K) (limits : Limits) (command : Option Wanted) → command ≡ Some Helping →
    (text : Result (Vec ℕ Global) Wants) → IfOk text (λ t. vec_items t ≡ help_text) →
    (ending : Ending) → MatchResult text (λ t. ending ≡ Done Given t) (λ _. ending ≡ NoMemory) → Caused shelf at at command limits ending
help_caused shelf at limits command is (Ok t) written ending e =
    subst (λ x. Caused shelf at at command limits x) (sym e) (Helping, is, (refl, ((tt, tt, (λ h. h)), written), refl))
help_caused shelf at limits command is (Err _) written ending e =
    subst (λ x. Caused shelf at at command limits x) (sym e) (Helping, is, refl)

pub version_caused : {K : Type 0} (shelf : Shelf.Ghosts K) (at : K) (limits : Limits) (command : Option Wanted) → command ≡ Some TellingVersion →
    (text : Result (Vec ℕ Global) Wants) → IfOk text (λ t. vec_items t ≡ version_text) →
    (ending : Ending) → MatchResult text (λ t. ending ≡ Done Given t) (λ _. ending ≡ NoMemory) → Caused shelf at at command limits ending
version_caused shelf at limits command is (Ok t) written ending e =
    subst (λ x. Caused shelf at at command limits x) (sym e) (TellingVersion, is, (refl, ((tt, tt, (λ h. h)), written), refl))
version_caused shelf at limits command is (Err _) written ending e =
    subst (λ x. Caused shelf at at command limits x) (sym e) (TellingVersion, is, refl)

-- ---- the ending of a command that has one answer and its text, or has none

pub given_ends : (Stops : Ending → Type 0) (text : Result (Vec ℕ Global) Ending) (ending : Ending) →
    MatchResult text (λ t. ending ≡ Done Given t) (λ e. ending ≡ e) → MatchResult text (λ t. Stops (Done Given t)) Stops → Stops ending
given_ends Stops (Ok t) ending is h = subst Stops (sym is) h
given_ends Stops (Err e) ending is h = subst Stops (sym is) h
