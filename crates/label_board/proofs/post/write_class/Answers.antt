-- One member more is written, and the walk goes on to the next.
use Rattle.std.proofs.Common.{ℕ, List, Some, ◌≡◌, ◌<◌, ◌+◌, length, get_or, set, sym, ap, subst, ◌∙◌, arith}
use Rattle.std.specs.Prelude.{IfSome, slice_get}
use Rattle.std.proofs.lemmas.Option.{get_or_from_slice_get, slice_get_within, slice_get-get_or}
use Rattle.class_book.specs.Classes.{class_of}
use Rattle.label_board.specs.Rule.{Seated, with_shown}
use Rattle.label_board.proofs.Writing.{WritesMembers, one_written, class_written}
use Rattle.label_board.proofs.post.write_class.Goals as goal
use Rattle.label_board.proofs.post.write_class.Goals.{in-Some, in_default}

pub loop-done-preserved : goal.loop-done-preserved
loop-done-preserved c =
    let book = c.args.book.now in
    let first = c.args.scribe.now.me in
    let members : List ℕ = class_of book c.args.name in
    let done = c.loop-done.done in
    let old = c.loop-done.scribe.me in
    let v = c.loop-done.invariant in
    elim c.match-member.branch [
      | in-Some w ↦
          let member : ℕ = w.in-Some.of_class in
          let here : slice_get members done ≡ Some member = sym v.member ∙ w.in-Some.is in
          let same : class_of book member ≡ members = subst (λ o. IfSome o (λ n. class_of book n ≡ members)) w.in-Some.is v.class in
          let labels : List ℕ = set old.0.shown member w.label.result in
          let made : c.match-member.scribe.me ≡ (with_shown old.0 labels, old.1) = ap (λ s. s.me) w.scribe-is ∙ w.write_label.ensures.me in
          let shown : c.match-member.scribe.me.0.shown ≡ labels = ap (λ (m : Seated). m.0.shown) made in
          let next = w.next_member-member.ensures in
          record {
            table = ap (λ s. s.table_id) w.scribe-is ∙ w.write_label.ensures.table ∙ v.table;
            me = made ∙ ap (λ (m : Seated). (with_shown m.0 labels, m.1)) v.me ∙ ap (λ (l : List ℕ). (with_shown first.0 l, first.1)) (sym shown);
            member = w.member-is ∙ next.next done (ap (λ (l : List ℕ). slice_get l done) same ∙ here) ∙ ap (λ (l : List ℕ). slice_get l (done + 1)) same;
            named = subst (λ o. IfSome o (λ n. n < length book.labels)) (sym w.member-is) next.in_range;
            class = subst (λ o. IfSome o (λ n. class_of book n ≡ members)) (sym w.member-is) (subst (λ (l : List ℕ). IfSome w.next_member-member.result (λ n. class_of book n ≡ l)) same next.same_class);
            written = subst (WritesMembers first.0.shown book.labels members (done + 1)) (sym (shown ∙ ap (set old.0.shown member) w.label.ensures.label))
                (one_written first.0.shown book.labels members done member old.0.shown v.written (slice_get_within members done member here) (get_or_from_slice_get members done member 0 here) w.write_label.ensures.inside);
          }
      | in_default w ↦
          let within : done < length members = omega (arith, c.loop-done-test.true, c.size-done-end.ensures.members) in
          absurd (w.in_default.not-Some (get_or members done 0) (v.member ∙ slice_get-get_or members done 0 within))
    ]

pub returns-clause-shown : goal.returns-clause-shown
returns-clause-shown c =
    let book = c.args.book.now in
    let members : List ℕ = class_of book c.args.name in
    let whole : c.loop-done.done ≡ length members = omega (arith, c.loop-done-test.false, c.loop-done.auto.done-end, c.size-done-end.ensures.members) in
    class_written c.args.scribe.now.me.0.shown book c.args.name c.loop-done.scribe.me.0.shown c.first_member.ensures.class
    (subst (λ (k : ℕ). WritesMembers c.args.scribe.now.me.0.shown book.labels members k c.loop-done.scribe.me.0.shown) whole c.loop-done.invariant.written)
