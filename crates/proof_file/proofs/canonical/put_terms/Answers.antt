use Rattle.std.proofs.Common.{◌++◌, ◌∷◌, [], take, sym, ap, ◌∙◌, append_assoc}
use Rattle.std.specs.List.{flat_map}
use Rattle.std.proofs.lemmas.List.{flat_map_more, take_more}
use Rattle.std.proofs.lemmas.Option.{slice_get_within, get_or_from_slice_get}
use Rattle.proof_file.specs.CanonicalProof.{listed_text}
use Rattle.proof_file.proofs.canonical.put_terms.Goals as goal

pub loop-place-preserved : goal.loop-place-preserved
loop-place-preserved c =
    let old = c.args.buf.now.items in
    let terms = c.args.terms.now in
    let i = c.loop-place.place in
    let t = c.get.result in
    let before = c.loop-place.invariant in
    let kept = c.in_ok-put_listed.ensures.kept in
    let more = take_more terms i t (slice_get_within terms i t c.get.ensures) ∙ ap (λ u. take i terms ++ u ∷ []) (get_or_from_slice_get terms i t t c.get.ensures) in
    record {
      text = c.in_ok-put_listed.ensures.ok ∙ ap (λ l. l ++ listed_text t) before.text ∙ flat_map_more listed_text old (take i terms) t ∙ ap (λ l. old ++ flat_map listed_text l) (sym more);
      kept = record { more = before.kept.more ++ kept.more; is = kept.is ∙ ap (λ l. l ++ kept.more) before.kept.is ∙ append_assoc old before.kept.more kept.more };
    }
