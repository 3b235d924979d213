use Rattle.std.proofs.Common.{◌∙◌, ap, sym, arith, ◌<◌, ◌≡◌, Some, length, get_or, set, refl, List, ℕ}
use Rattle.std.proofs.lemmas.List.{length-set}
use Rattle.std.specs.Prelude.{slice_get}
use Rattle.std.proofs.lemmas.Option.{get_or_from_slice_get, slice_get_within, slice_get-get_or}
use Rattle.std.proofs.lemmas.List.Elements.{All-get_or}
use Rattle.list_pool.specs.Pool.{list_at}
use Rattle.class_book.proofs.Merging.{step, nothing_yet}
use Rattle.class_book.proofs.merge.relabel.Goals as goal
use Rattle.class_book.proofs.merge.relabel.Goals.{in-Some, in_default}

pub loop-done-init : goal.loop-done-init
loop-done-init c = record {
  member = c.first-member.ensures.first;
  count = refl;
  moved = λ k _. nothing_yet c.args.labels.now.items c.args.to k;
}

pub index_mut-requires : goal.index_mut-requires
index_mut-requires c =
    let L = list_at c.args.members.now.lists c.args.from in
    let here : slice_get L c.loop-done.done ≡ Some c.in-Some.node = sym c.loop-done.invariant.member ∙ c.in-Some.is in
    let within = slice_get_within L c.loop-done.done c.in-Some.node here in
    let at = get_or_from_slice_get L c.loop-done.done c.in-Some.node c.in-Some.node here in
    let h = All-get_or (λ node. node < length c.args.labels.now.items) L c.loop-done.done c.in-Some.node within c.requires.range in
    let k = rw at at h in
    rw (c.loop-done.labels.ok.0, c.loop-done.invariant.count) k

pub next-member-requires-clause-stands : goal.next-member-requires-clause-stands
next-member-requires-clause-stands c =
    let L = list_at c.args.members.now.lists c.args.from in
    let here : slice_get L c.loop-done.done ≡ Some c.in-Some.node = sym c.loop-done.invariant.member ∙ c.in-Some.is in
    (c.loop-done.done, slice_get_within L c.loop-done.done c.in-Some.node here, get_or_from_slice_get L c.loop-done.done c.in-Some.node c.in-Some.node here)

pub loop-done-preserved : goal.loop-done-preserved
loop-done-preserved c = elim c.match-member.branch [
  | in-Some w ↦
      let L = list_at c.args.members.now.lists c.args.from in
      let x = w.in-Some.node in
      let here : slice_get L c.loop-done.done ≡ Some x = sym c.loop-done.invariant.member ∙ w.in-Some.is in
      let within = slice_get_within L c.loop-done.done x here in
      let at = get_or_from_slice_get L c.loop-done.done x x here in
      let at0 = get_or_from_slice_get L c.loop-done.done x 0 here in
      let h = All-get_or (λ node. node < length c.args.labels.now.items) L c.loop-done.done x within c.requires.range in
      let k : x < length c.args.labels.now.items = rw at at h in
      let x_in : x < length c.loop-done.labels.items = rw c.loop-done.invariant.count k in
      let made : c.match-member.labels.items ≡ set c.loop-done.labels.items x c.args.to = ap (λ v. v.items) w.labels-is in
      record {
        member = w.member-is ∙ w.next-member.ensures.next c.loop-done.done here;
        count = ap (λ (xs : List ℕ). length xs) made ∙ length-set c.loop-done.labels.items x c.args.to ∙ c.loop-done.invariant.count;
        moved = step L c.args.labels.now.items c.loop-done.labels.items c.match-member.labels.items c.loop-done.done x c.args.to at0 within x_in made c.loop-done.invariant.moved;
      }
  | in_default w ↦
      let L = list_at c.args.members.now.lists c.args.from in
      let within : c.loop-done.done < length L = omega arith in
      absurd (w.in_default.not-Some (get_or L c.loop-done.done 0) (c.loop-done.invariant.member ∙ slice_get-get_or L c.loop-done.done 0 within))
]
