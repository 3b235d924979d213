-- Flag by flag.
use Rattle.std.proofs.Common.{◌++◌, ◌∷◌, [], ◌∙◌, sym, ap, map, take, arith}
use Rattle.std.proofs.lemmas.List.{take_all}
use Rattle.gk_base.specs.Term.{is_literal}
use Rattle.key_file.proofs.CallerLemmas.{flag_next}
use Rattle.graph_rows.proofs.numbered_keys.literal_flags.Goals as goal

pub loop-place-preserved : goal.loop-place-preserved
loop-place-preserved c =
    c.in_ok-push.ensures.items ∙ ap (λ fs. fs ++ c.is_literal.result ∷ []) c.loop-place.invariant ∙ ap (λ b. map is_literal (take c.loop-place.place c.args.names.now) ++ b ∷ []) c.is_literal.ensures
    ∙ sym (flag_next c.args.names.now c.loop-place.place c.term.result c.term.ensures)

pub returns : goal.returns
returns c = c.loop-place.invariant ∙ ap (map is_literal) (take_all c.loop-place.place c.args.names.now (omega arith))
