-- Member by member, from the last.
use Rattle.std.proofs.Common.{◌≡◌, ℕ, ◌+◌, ◌-◌, ◌<◌, ◌≤◌, inl, inr, eqb, cond, set, get_or, length, None, Some, sym, ap, subst, ◌∙◌, arith}
use Rattle.std.proofs.lemmas.Bool.{cases_order}
use Rattle.std.proofs.lemmas.List.{get_or_default, length-set, get_or-set_same, get_or-set_other}
use Rattle.term_text.specs.declared.member.Member.{Member}
use Rattle.term_text.specs.Labels.{place_at}
use Rattle.term_text.specs.Lines.{has_label, member_in, place_from}
use Rattle.term_text.proofs.LineSteps.{nobody}
use Rattle.term_text.proofs.Places.{place_step}
use Rattle.term_text.proofs.links.link.Goals as goal

pub loop-place-preserved : goal.loop-place-preserved
loop-place-preserved c =
    let i = c.loop-place.invariant in
    let members = c.args.members.now in
    let next = c.loop-place.next.items in
    let p : ℕ = c.loop-place.place - 1 in
    let here : c.loop-place.place ≡ p + 1 = omega (arith, c.loop-place-test.true) in
    let inside : p < length members = omega (arith, c.loop-place-test.true, c.loop-place.auto.place) in
    let label : ℕ = (member_in members p).label in
    let told : ℕ = (get_or members p c.index-members-place.result).label in
    let read : told ≡ label = ap (λ (m : Member). m.label) (get_or_default members p c.index-members-place.result nobody inside) in
    let following : c.in_ok-next-2.field-0 ≡ place_from members (p + 1) label =
    c.in_ok-next-2.ensures.before ∙ i.first told ∙ ap (place_from members c.loop-place.place) read ∙ ap (λ n. place_from members n label) here in
    record {
      count = length-set next p c.in_ok-next-2.field-0 ∙ i.count;
      next = λ k from within. elim (cases_order k p) [
        | inl same ↦ subst (λ n. get_or (set next p c.in_ok-next-2.field-0) n None ≡ place_from members (n + 1) (member_in members n).label) (sym same)
            (get_or-set_same next p c.in_ok-next-2.field-0 None (omega (arith, inside, i.count)) ∙ following)
        | inr differs ↦
            let other : k ≡ p → ⊥ = λ e. elim differs [ inl lower ↦ omega (arith, lower, e) | inr higher ↦ omega (arith, higher, e) ] in
            let later : c.loop-place.place ≤ k = elim differs [ inl lower ↦ absurd (omega (arith, lower, from)) | inr higher ↦ omega (arith, here, higher) ] in
            get_or-set_other next p k c.in_ok-next-2.field-0 None other ∙ i.next k later within
      ];
      first = λ l.
          c.in_ok-next-2.ensures.places l
          ∙ ap (λ v. cond (eqb l v) (Some p) (place_at c.loop-place.firsts l)) read
          ∙ ap (λ o. cond (eqb l label) (Some p) o) (i.first l ∙ ap (λ n. place_from members n l) here)
          ∙ sym (place_step (has_label l) nobody p members inside);
    }
