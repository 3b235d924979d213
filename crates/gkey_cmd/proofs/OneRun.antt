-- What a run writes is one where its command has one output: status, output and error text.
use Rattle.std.proofs.Common.{List, ℕ, Some, ◌≡◌, ◌∙◌, sym, ap}
use Rattle.gk_base.specs.declared.limits.Limits.{Limits}
use Rattle.gkey_cmd.specs.Commands.{Wanted}
use Rattle.gkey_cmd.specs.Reading.{NamedFiles}
use Rattle.gkey_cmd.specs.Texts.{refused_text}
use Rattle.gkey_cmd.specs.Written.{status_of, HasOneOutput, WritesFor, AsNoCommand, AsRefused, AsAnswered}
use Rattle.gkey_cmd.proofs.RefusedOnce.{refusal_once, not_refused}
use Rattle.gkey_cmd.proofs.OneAnswer.{one_output}

pub one_run : (command : Wanted) (files : NamedFiles) (limits : Limits) (status other : ℕ) (output more error text : List ℕ) → HasOneOutput command →
    WritesFor (Some command) files limits status output error → WritesFor (Some command) files limits other more text → (status ≡ other) × (output ≡ more) × (error ≡ text)
one_run command files limits status other output more error text one (AsNoCommand none s o e) w = absurd cc
one_run command files limits status other output more error text one v (AsNoCommand none s o e) = absurd cc
one_run command files limits status other output more error text one (AsRefused r h s o e) (AsRefused q k t p f) =
    let same = refusal_once limits files command r q h k in
    (s ∙ sym t, o ∙ sym p, e ∙ ap refused_text same ∙ sym f)
one_run command files limits status other output more error text one (AsRefused r h s o e) (AsAnswered b k t f) = absurd (not_refused limits files command r h k.0)
one_run command files limits status other output more error text one (AsAnswered a h s e) (AsRefused q k t p f) = absurd (not_refused limits files command q k h.0)
one_run command files limits status other output more error text one (AsAnswered a h s e) (AsAnswered b k t f) =
    let same = one_output command files limits a b output more one h.1 k.1 in
    (s ∙ ap status_of same.0 ∙ sym t, same.1, e ∙ sym f)
