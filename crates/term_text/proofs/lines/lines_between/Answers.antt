use Rattle.std.proofs.Common.{arith, ◌≡◌, ◌+◌, ◌<◌, ◌++◌, take, drop, sym, ap, ◌∙◌, length}
use Rattle.term_text.specs.Labels.{place_at}
use Rattle.std.proofs.lemmas.List.{get_or_default}
use Rattle.term_text.specs.declared.member.Member.{Member}
use Rattle.term_text.proofs.LineSteps.{nobody, some_found, none_found, lines_printed, lines_passed}
use Rattle.term_text.specs.Lines.{member_in, lines_after}
use Rattle.term_text.proofs.lines.lines_between.Goals as goal
use Rattle.term_text.proofs.lines.lines_between.Goals.{then-eq+in_ok-put_line, else-eq}

pub loop-place-preserved : goal.loop-place-preserved
loop-place-preserved c =
    let links = c.args.links.now in
    let members = c.args.members.now in
    let place = c.loop-place.place in
    let inside : place < length members = omega (arith, c.loop-place-test.true, c.requires.within) in
    let label = ap (λ (m : Member). m.label) (get_or_default members place c.index-members-place.result nobody inside) in
    let found : c.place.result ≡ place_at links.firsts (member_in members place).label = c.place.ensures ∙ ap (place_at links.firsts) label in
    elim c.if-eq.branch [
      | then-eq+in_ok-put_line w ↦ lines_printed links members place _ _ _ c.requires.linked inside (sym found ∙ some_found _ place (sym c.eq.ensures ∙ w.if-eq.true)) (ap (λ v. v.items) w.out-is ∙ w.in_ok-put_line.ensures) c.loop-place.invariant
      | else-eq w ↦ ap (λ v. v.items ++ lines_after (take (place + 1) members) (drop (place + 1) members)) w.out-is
          ∙ lines_passed links members place _ _ c.requires.linked inside (λ e. none_found _ place (sym c.eq.ensures ∙ w.if-eq.false) (found ∙ e)) c.loop-place.invariant
    ]
