-- Where the term is the name that stands there, this is known of it; else as much as before is known.
use Rattle.std.proofs.Common.{◌≡◌, ◌+◌, ◌-◌, get_or, slice_get, Some, sym, ap, subst, ◌∙◌, arith}
use Rattle.std.proofs.lemmas.List.{length-set}
use Rattle.term_table.specs.declared.known.Known.TheVariants.{Named}
use Rattle.term_table.specs.Known.{IsKnown}
use Rattle.term_table.proofs.KnownLemmas.{AreKnown-set}
use Rattle.term_table.proofs.ahead.Ahead.note_same.Goals.{then-start-at+then-at-start+then-at-len+then-found-len+then-is_same, else-start-at}
use Rattle.term_table.proofs.ahead.Ahead.note_same.Goals as goal

pub loop-look_up-preserved : goal.loop-look_up-preserved
loop-look_up-preserved c =
    let i = c.loop-look_up.invariant in
    let names = c.args.names.now in
    let terms = c.args.terms.now in
    let look_up = get_or c.deref-look_up-items.result.now c.loop-look_up.look_up-index (record { at = 0; found = 0 }) in
    let at = look_up.at in
    let found = look_up.found in
    elim c.if-start-at.branch [
      | then-start-at+then-at-start+then-at-len+then-found-len+then-is_same w ↦
          let same : IsKnown names terms (c.args.start + (at - c.args.start)) (Named found) =
          subst (λ n. slice_get names found ≡ slice_get terms n) (omega (arith, w.if-start-at.true))
          (w.get.ensures ∙ ap Some (w.is_same.ensures.0 w.if-is_same.true) ∙ sym w.get-then-found-len.ensures) in
          rw w.known-is (record {
            known = AreKnown-set names terms c.args.start (at - c.args.start) c.loop-look_up.known (Named found) i.known same;
            one_each = length-set c.loop-look_up.known (at - c.args.start) (Named found) ∙ i.one_each;
          })
      | else-start-at w ↦ rw w.known-is i
    ]
