-- The pairs of one member after another.
use Rattle.std.proofs.Common.{List, ℕ, Option, None, Some, ◌≡◌, ◌<◌, ◌≤◌, ◌+◌, Contains, take, get_or, length, slice_get, slice_index, vec_capacity, subst, sym, ◌∙◌, ap, arith, refl, take_all}
use Rattle.std.specs.Prelude.{IfSome}
use Rattle.std.proofs.lemmas.Option.{slice_get-get_or, get_or_from_slice_get}
use Rattle.class_book.specs.Classes.{Classes, class_of}
use Rattle.chase_core.specs.Table.{Standings}
use Rattle.chase_core.specs.Gathering.{LooksPast, LooksAcross, SetsAside}
use Rattle.chase_core.proofs.Members.{Contains-nil}
use Rattle.chase_core.proofs.Aside.{aside_none, aside_same, aside_more}
use Rattle.chase_core.proofs.Across.{class_across}
use Rattle.chase_core.proofs.gather.gather_class.Goals as goal
use Rattle.chase_core.proofs.gather.gather_class.Goals.{in-Some, in_default}

both : (book : Classes) (o : Option ℕ) (L M : List ℕ) → IfSome o (λ n. n < length book.labels) → IfSome o (λ n. class_of book n ≡ M) → M ≡ L → IfSome o (λ n. (n < length book.labels) × (class_of book n ≡ L))
both book None L M h k e = tt
both book (Some n) L M h k e = (h, k ∙ e)

pub loop-done-init : goal.loop-done-init
loop-done-init c =
    let S = c.args.setup.now in
    let labels = c.args.book.now.labels in
    let L = class_of c.args.book.now c.args.one in
    let first = c.first_member.ensures in
    record {
      states = c.requires.states;
      aside = c.requires.aside;
      member = sym first.first;
      same_class = (first.in_range, first.same_class);
      sets = aside_none (λ q. (n : ℕ) × Contains (take 0 L) n × LooksPast S labels c.label-label.result q n) c.args.table.now c.args.aside.now.items (λ q h. Contains-nil h.0 h.1);
      capacity = refl;
    }

pub loop-done-preserved : goal.loop-done-preserved
loop-done-preserved c =
    let S = c.args.setup.now in
    let book = c.args.book.now in
    let L = class_of book c.args.one in
    let i = c.loop-done.done in
    let v = c.loop-done.invariant in
    let in_list : i < length L = rw c.size-count.ensures.members at c.loop-done-test.true in
    elim c.match-member.branch [
      | in-Some w ↦
          (let x = w.in-Some.name in
          let here : slice_get L i ≡ Some x = sym v.member ∙ w.in-Some.is in
          let same : (x < length book.labels) × (class_of book x ≡ L) = subst (λ o. IfSome o (λ n. (n < length book.labels) × (class_of book n ≡ L))) w.in-Some.is v.same_class in
          let at : get_or L i 0 ≡ x = get_or_from_slice_get L i x 0 here in
          let e = w.gather_owners.ensures in
          let next = w.next_member-member.ensures in
          record {
            states = ap (λ (t : Standings). length t.states) w.table-is ∙ e.states;
            aside = rw (w.table-is, w.aside-is) e.aside;
            member = w.member-is ∙ next.next i (rw same.1 here) ∙ ap (λ xs. slice_get xs (i + 1)) same.1;
            same_class = rw w.member-is (both book w.next_member-member.result L (class_of book x) next.in_range next.same_class same.1);
            sets = rw (w.table-is, w.aside-is) (aside_more (λ q n. LooksPast S book.labels c.label-label.result q n) L i c.args.table.now c.loop-done.table w.gather_owners.new.table
                c.args.aside.now.items c.loop-done.aside.items w.gather_owners.new.aside.items in_list v.sets (rw at e.sets));
            capacity = ap vec_capacity w.aside-is ∙ e.capacity ∙ v.capacity;
          })
      | in_default w ↦ absurd (w.in_default.not-Some (get_or L i 0) (v.member ∙ slice_get-get_or L i 0 in_list))
    ]

pub returns-clause-sets : goal.returns-clause-sets
returns-clause-sets c =
    let S = c.args.setup.now in
    let book = c.args.book.now in
    let L = class_of book c.args.one in
    let l : c.label-label.result ≡ slice_index book.labels c.args.other = c.label-label.ensures.label in
    let long : length L ≤ c.loop-done.done = omega (arith, c.size-count.ensures.members, c.loop-done-test.false) in
    let all = subst (λ xs. SetsAside (λ q. (n : ℕ) × Contains xs n × LooksPast S book.labels c.label-label.result q n) c.args.table.now c.loop-done.table c.args.aside.now.items c.loop-done.aside.items)
    (take_all c.loop-done.done L long) c.loop-done.invariant.sets in
    subst (λ n. SetsAside (LooksAcross S book.labels (slice_index book.labels c.args.one) n) c.args.table.now c.loop-done.table c.args.aside.now.items c.loop-done.aside.items) l
    (aside_same (λ q. (n : ℕ) × Contains L n × LooksPast S book.labels c.label-label.result q n) (LooksAcross S book.labels (slice_index book.labels c.args.one) c.label-label.result)
    c.args.table.now c.loop-done.table c.args.aside.now.items c.loop-done.aside.items
    (class_across S c.prepared.ensures.task c.prepared.ensures.near book c.requires.labels c.label-label.ensures.labelled c.args.one (rw c.requires.labels c.requires.one) c.first_member.ensures.class c.label-label.result) all)
