-- The owners of one member after another.
use Rattle.std.proofs.Common.{List, ℕ, Option, None, Some, ◌≡◌, ◌<◌, ◌≤◌, ◌+◌, Contains, get_or, length, slice_get, slice_index, subst, sym, ◌∙◌, ap, arith, refl, inl, inr}
use Rattle.std.specs.Prelude.{IfSome}
use Rattle.std.proofs.lemmas.Bool.{cases_lt}
use Rattle.std.proofs.lemmas.Option.{slice_get-get_or, get_or_from_slice_get, same_Some}
use Rattle.list_pool.specs.Pool.{list_at}
use Rattle.class_book.specs.Classes.{Classes, class_of}
use Rattle.signature_chase.proofs.waking.wake_class.Goals as goal
use Rattle.signature_chase.proofs.waking.wake_class.Goals.{in-Some, in_default}

both : (book : Classes) (o : Option ℕ) (L M : List ℕ) → IfSome o (λ n. n < length book.labels) → IfSome o (λ n. class_of book n ≡ M) → M ≡ L → IfSome o (λ n. (n < length book.labels) × (class_of book n ≡ L))
both book None L M h k e = tt
both book (Some n) L M h k e = (h, k ∙ e)

pub loop-done-init : goal.loop-done-init
loop-done-init c =
    let first = c.first_member.ensures in
    record {
      member = sym first.first;
      same_class = (first.in_range, first.same_class);
      woken = λ i m g h. absurd (omega arith);
      kept = λ g h. h;
      count = refl;
    }

pub queue_all-requires-clause-name : goal.queue_all-requires-clause-name
queue_all-requires-clause-name c =
    let book = c.args.book.now in
    let L = class_of book c.args.node in
    let same : (c.in-Some.name < length book.labels) × (class_of book c.in-Some.name ≡ L) = subst (λ o. IfSome o (λ n. (n < length book.labels) × (class_of book n ≡ L))) c.in-Some.is c.loop-done.invariant.same_class in
    rw c.requires.owners same.0

pub queue_all-requires-clause-groups : goal.queue_all-requires-clause-groups
queue_all-requires-clause-groups c = λ g h. rw c.loop-done.invariant.count (c.requires.groups c.in-Some.name g h)

pub next_member-member-requires : goal.next_member-member-requires
next_member-member-requires c =
    let book = c.args.book.now in
    let L = class_of book c.args.node in
    (subst (λ o. IfSome o (λ n. (n < length book.labels) × (class_of book n ≡ L))) c.in-Some.is c.loop-done.invariant.same_class).0

pub loop-done-preserved : goal.loop-done-preserved
loop-done-preserved c =
    let book = c.args.book.now in
    let L = class_of book c.args.node in
    let i = c.loop-done.done in
    let v = c.loop-done.invariant in
    let in_list : i < length L = rw c.size-count.ensures.members at c.loop-done-test.true in
    elim c.match-member.branch [
      | in-Some w ↦
          (let x = w.in-Some.name in
          let here : slice_get L i ≡ Some x = sym v.member ∙ w.in-Some.is in
          let same : (x < length book.labels) × (class_of book x ≡ L) = subst (λ o. IfSome o (λ n. (n < length book.labels) × (class_of book n ≡ L))) w.in-Some.is v.same_class in
          let e = w.queue_all.ensures in
          let next = w.next_member-member.ensures in
          record {
            member = w.member-is ∙ next.next i (rw same.1 here) ∙ ap (λ xs. slice_get xs (i + 1)) same.1;
            same_class = rw w.member-is (both book w.next_member-member.result L (class_of book x) next.in_range next.same_class same.1);
            woken = rw w.queue-is (λ j m g lt at h. elim (cases_lt j i) [
              | inl before ↦ e.kept g (v.woken j m g before at h)
              | inr ge ↦ (let j_is : i ≡ j = omega arith in
                  let m_is : x ≡ m = same_Some x m (sym here ∙ subst (λ k. slice_get L k ≡ Some m) (sym j_is) at) in
                  e.woken g (subst (λ k. Contains (list_at c.args.owners.now k) g) (sym m_is) h))
            ]);
            kept = rw w.queue-is (λ g h. e.kept g (v.kept g h));
            count = ap (λ q. q.count) w.queue-is ∙ e.count ∙ v.count;
          })
      | in_default w ↦ absurd (w.in_default.not-Some (get_or L i 0) (v.member ∙ slice_get-get_or L i 0 in_list))
    ]

pub returns-clause-woken : goal.returns-clause-woken
returns-clause-woken c = λ m g in_m same h.
    let book = c.args.book.now in
    let L = class_of book c.args.node in
    let met = (c.label-label.ensures.labelled.classes c.args.node m c.requires.node in_m).0 (sym same) in
    let k = (c.first_member.ensures.class.joined m in_m).1 met in
    let at : slice_get L k.0 ≡ Some m = slice_get-get_or L k.0 m k.1 ∙ ap Some k.2 in
    let lt : k.0 < c.loop-done.done = omega (arith, k.1, c.size-count.ensures.members, c.loop-done-test.false) in
    c.loop-done.invariant.woken k.0 m g lt at h
