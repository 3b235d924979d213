use Rattle.std.proofs.Common.{◌<◌, ℕ, List, [], get_or, length, arith, sym, ap, ◌∙◌}
use Rattle.std.proofs.lemmas.List.{get_or-map}
use Rattle.std.proofs.lemmas.Option.{get_or_from_slice_get}
use Rattle.term_text.specs.declared.member.Member.{Member}
use Rattle.term_text.specs.CanonicalText.{term_text, texts_of}
use Rattle.term_text.specs.Labels.{is_shared_in}
use Rattle.term_text.specs.Members.{member_at}
use Rattle.term_text.proofs.Choosing.{chosen_yes, chosen_no}
use Rattle.term_text.proofs.listing.members_between.Goals as goal
use Rattle.term_text.proofs.listing.members_between.Goals.{then-is_shared+in_ok-push, else-is_shared}

pub loop-place-preserved : goal.loop-place-preserved
loop-place-preserved c =
    let names = c.args.names.now in
    let texts = texts_of names in
    let labels = c.args.labels.now in
    let place = c.loop-place.place in
    let test = λ (n : ℕ). is_shared_in c.args.counts.now (get_or labels n 0) in
    elim c.if-is_shared.branch [
      | then-is_shared+in_ok-push w ↦
          let term = w.term.result in
          let inside : place < length names = omega (arith, c.requires.within) in
          let text = sym (ap term_text (get_or_from_slice_get names place term term w.term.ensures))
          ∙ sym (get_or-map term_text names place term [] inside) in
          chosen_yes (member_at texts labels) test c.args.from place _ _ _ (omega arith) (sym c.is_shared.ensures ∙ w.if-is_shared.true)
          (ap (λ (t : List ℕ). let m : Member = record { text = t; label = get_or labels place 0 } in m) text)
          (w.members-is ∙ w.in_ok-push.ensures) c.loop-place.invariant
      | else-is_shared w ↦
          w.members-is
          ∙ chosen_no (member_at texts labels) test c.args.from place _ (omega arith) (sym c.is_shared.ensures ∙ w.if-is_shared.false) c.loop-place.invariant
    ]
